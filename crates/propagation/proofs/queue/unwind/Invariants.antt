use Rattle.std.proofs.Common.{◌≡◌, ◌≤◌, length, take}
use Rattle.propagation.specs.Queues.{AreQuietAt, IsNoGreater}
use Rattle.propagation.specs.Stores.{OnlyTrailDiffers}
use Rattle.propagation.proofs.queue.unwind.Given as goal

abbrev pub invariant-loop-store : goal.invariant-loop-store
invariant-loop-store l = record {
  front : l.store.entries ≡ take (length l.store.entries) l.fn.store.entries;
  above : l.left ≤ length l.store.entries;
  below : length l.store.entries ≤ length l.fn.store.entries;
  kept : OnlyTrailDiffers l.fn.store l.store;
  quiet_at : AreQuietAt l.store l.quiet_at;
  less : IsNoGreater l.quiet_at l.fn.quiet_at;
}

abbrev pub decreases-loop-store : goal.decreases-loop-store
decreases-loop-store l = length l.store.entries
