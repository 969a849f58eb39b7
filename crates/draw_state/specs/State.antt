-- A state of a draw as its callers see it: a draw file, and the moves so far.
use Rattle.std.specs.Prelude.{◌≡◌, ◌⊎◌, ℕ, List, [], ◌∷◌, ◌++◌}
use Rattle.rule_sets.specs.Files.{DrawFile}
use Rattle.draw_tables.specs.declared.moves.Move.{Move}
use Rattle.draw_state.specs.declared.commands.Command.{Command}
use Rattle.draw_state.specs.declared.commands.Action.{Action}
use Rattle.draw_state.specs.declared.replies.Refusal.{Refusal}
use Rattle.draw_state.specs.Commands.{IsAcceptedCommand, IsRefusedCommand}

pub record State : Type 0 where
  pub file : DrawFile
  pub moves : List Move

-- In the state the command is accepted with the action, where so many were answered before.
abbrev pub Accepts : State → ℕ → Command → Action → Type 0
Accepts state answered command action =
    IsAcceptedCommand state.file state.moves answered command action

-- In the state the command is refused for the cause, where so many were answered before.
abbrev pub RefusesFor : State → ℕ → Command → Refusal → Type 0
RefusesFor state answered command refusal =
    IsRefusedCommand state.file state.moves answered command refusal

-- The old moves are the new ones with those of the last ball, and this is the ball's own move. The
-- group that a team took of itself goes with the team's ball.
abbrev pub TakesOffBall : List Move → List Move → Move → Type 0
TakesOffBall old new (Move.Drawn t) =
    (old ≡ new ++ Move.Drawn t ∷ [])
    ⊎ ((group : ℕ) × (old ≡ new ++ Move.Drawn t ∷ Move.Placed t group ∷ []))
TakesOffBall old new (Move.Placed t group) = ⊥
TakesOffBall old new (Move.Positioned t position) = old ≡ new ++ Move.Positioned t position ∷ []
TakesOffBall old new (Move.Paired r w) = old ≡ new ++ Move.Paired r w ∷ []
