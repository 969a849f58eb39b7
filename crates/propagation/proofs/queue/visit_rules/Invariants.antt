use Rattle.std.proofs.Common.{drop}
use Rattle.propagation.specs.Queues.{AreQuiet, AreQuietBut, past_rules}
use Rattle.propagation.specs.Stores.{Grows, OnlyTrailDiffers, in_rules}
use Rattle.propagation.proofs.queue.visit_rules.Given as goal

-- past the entry all is quiet but for the occurrences in rules that are left
abbrev pub invariant-loop-place : goal.invariant-loop-place
invariant-loop-place l = record {
  kept : OnlyTrailDiffers l.fn.store l.store;
  grows : Grows l.fn.store l.store;
  quiet : AreQuiet l.store l.fn.progress;
  left : AreQuietBut l.store (past_rules l.fn.progress) (drop l.place (in_rules l.fn.store l.lit.atom.0));
}
