-- Replies of a file: each team, group and position in them is one of its own.
use Rattle.std.specs.Prelude.{◌≢◌, ◌<◌, ℕ, List, ◌∷◌, Option, Some, None}
use Rattle.team_files.specs.declared.team_id.TeamId.{TeamId}
use Rattle.rule_sets.specs.Files.{DrawFile}
use Rattle.draw_tables.specs.declared.moves.Move.{Move}
use Rattle.draw_tables.specs.declared.moves.Phase.{Phase}
use Rattle.draw_tables.specs.States.{phase_of}
use Rattle.draw_tables.specs.Names.{AreFileMoves, AreFileChoices, IsFilePhase}
use Rattle.draw_state.specs.declared.replies.NextLine.{NextLine}
use Rattle.draw_state.specs.declared.replies.Reply.{Reply}

-- the phase waits for a ball, so that a next line tells it
abbrev pub WaitsForBall : Phase → Type 0
WaitsForBall Phase.Runner = Unit {0}
WaitsForBall (Phase.Opponent r) = Unit {0}
WaitsForBall (Phase.Team pot) = Unit {0}
WaitsForBall (Phase.Group t) = ⊥
WaitsForBall (Phase.Position t) = Unit {0}
WaitsForBall Phase.Complete = ⊥

-- no team waits for the group that it takes without a ball: the phase is not Group
abbrev pub NoneWaitsForGroup : DrawFile → List Move → Type 0
NoneWaitsForGroup file ms = (t : TeamId) → phase_of file ms ≢ Phase.Group t

-- the next line is one of the file
abbrev pub IsFileNextLine : DrawFile → NextLine → Type 0
IsFileNextLine file (NextLine.Choices phase choices) = WaitsForBall phase × IsFilePhase file phase × AreFileChoices file choices
IsFileNextLine file NextLine.Complete = Unit {0}
IsFileNextLine file NextLine.Impossible = Unit {0}

-- the group that is told is one of the file; it is told exactly where the first move gives a team its position
abbrev pub IsFileGroup : DrawFile → List Move → Option ℕ → Type 0
IsFileGroup file (Move.Positioned t position ∷ more) None = ⊥
IsFileGroup file ms None = Unit {0}
IsFileGroup file ms (Some group) = group < file.groups

-- the reply is one of the file
abbrev pub IsFileReply : DrawFile → Reply → Type 0
IsFileReply file (Reply.Refused refusal) = Unit {0}
IsFileReply file (Reply.Taken moves group next) =
    AreFileMoves file moves × IsFileGroup file moves group × IsFileNextLine file next
