use Rattle.std.proofs.Common.{◌≡◌, drop}
use Rattle.std.specs.Option.{option_or}
use Rattle.draw_tables.specs.Moves.{last_drawn}
use Rattle.draw_tables.proofs.moves_said.last_drawn.Given as goal

-- the last one so far, unless a later one comes
abbrev pub invariant-loop-step : goal.invariant-loop-step
invariant-loop-step l = option_or (last_drawn (drop l.step-index l.moves)) l.last ≡ last_drawn l.moves
