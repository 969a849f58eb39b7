use Rattle.std.proofs.Common.{◌≡◌, drop}
use Rattle.std.specs.Option.{option_or}
use Rattle.draw_tables.specs.Moves.{group_in}
use Rattle.draw_tables.proofs.moves_said.group_in.Given as goal

-- the group so far, unless a later move gives one
abbrev pub invariant-loop-step : goal.invariant-loop-step
invariant-loop-step l = option_or (group_in (drop l.step-index l.moves) l.team) l.last ≡ group_in l.moves l.team
