use Rattle.std.proofs.Common.{◌≡◌}
use Rattle.propagation.specs.Statuses.{IsAtBound}
use Rattle.propagation.specs.Stores.{OnlyTrailDiffers, completed, constraint_in, values_in}
use Rattle.propagation.proofs.forcing.force.Given as goal

-- with the literals that are left set too, the trail is what it is to become
abbrev pub invariant-loop-place : goal.invariant-loop-place
invariant-loop-place l = record {
  entries : completed l.store l.number l.truth l.place ≡ completed l.fn.store l.number l.truth 0;
  bound : IsAtBound l.truth (values_in l.store) (constraint_in l.store l.number);
  kept : OnlyTrailDiffers l.fn.store l.store;
}
