use Rattle.std.proofs.Common.{◌-◌, ◌+◌, length}
use Rattle.propagation.specs.Queues.{AreQuiet, IsWithin}
use Rattle.propagation.specs.Stores.{Grows, OnlyTrailDiffers, constraints_in}
use Rattle.propagation.proofs.queue.run.Given as goal

abbrev pub invariant-loop-progress : goal.invariant-loop-progress
invariant-loop-progress l = record {
  kept : OnlyTrailDiffers l.fn.store l.store;
  grows : Grows l.fn.store l.store;
  within : IsWithin l.store l.progress;
  quiet : AreQuiet l.store l.progress;
}

-- entries to visit, for rules and for clauses, and constraints to examine
abbrev pub decreases-loop-progress : goal.decreases-loop-progress
decreases-loop-progress l = (l.store.problem.atoms - l.progress.rules) + (l.store.problem.atoms - l.progress.clauses) + (length (constraints_in l.store) - l.progress.examined)
