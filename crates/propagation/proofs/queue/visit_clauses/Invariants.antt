use Rattle.std.proofs.Common.{drop}
use Rattle.propagation.specs.Occurrences.{items_at}
use Rattle.propagation.specs.Queues.{AreQuiet, AreQuietBut, past_clauses}
use Rattle.propagation.specs.Stores.{Grows, OnlyTrailDiffers}
use Rattle.propagation.proofs.queue.visit_clauses.Given as goal

-- past the entry all is quiet but for the occurrences that are left
abbrev pub invariant-loop-place : goal.invariant-loop-place
invariant-loop-place l = record {
  kept : OnlyTrailDiffers l.fn.store l.store;
  grows : Grows l.fn.store l.store;
  quiet : AreQuiet l.store l.fn.progress;
  left : AreQuietBut l.store (past_clauses l.fn.progress) (drop l.place (items_at l.fn.store.lists l.lit.atom.0));
}
