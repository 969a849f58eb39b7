use Rattle.std.proofs.Common.{◌≡◌, drop}
use Rattle.draw_tables.specs.Pots.{pot_from, winners}
use Rattle.draw_tables.specs.Passes.{first_not_once}
use Rattle.draw_tables.proofs.judging.first_not_once.Given as goal

-- each winner before this place is given exactly once
abbrev pub invariant-loop-place : goal.invariant-loop-place
invariant-loop-place l = first_not_once l.given (pot_from 1 l.place (drop l.place l.teams)) ≡ first_not_once l.given (winners l.file)
