-- The lines that answer a command, and the opening.
use Rattle.std.specs.Prelude.{ℕ, ◌+◌, List, [], ◌∷◌, ◌++◌, length, codes, Option, Some, None}
use Rattle.std.specs.Fmt.{decimal}
use Rattle.team_files.specs.Kinds.{kind_text}
use Rattle.team_files.specs.declared.team_id.TeamId.{TeamId}
use Rattle.rule_sets.specs.Files.{DrawFile}
use Rattle.draw_tables.specs.declared.moves.Move.{Move}
use Rattle.draw_tables.specs.declared.moves.Choice.{Choice}
use Rattle.draw_tables.specs.declared.moves.Phase.{Phase}
use Rattle.draw_tables.specs.TableTexts.{code_of}
use Rattle.draw_state.specs.declared.replies.Refusal.{Refusal}
use Rattle.draw_state.specs.declared.replies.NextLine.{NextLine}
use Rattle.draw_state.specs.declared.replies.Reply.{Reply}

-- a team's code
abbrev pub code_text : DrawFile → TeamId → List ℕ
code_text file id = code_of file.teams id

-- a group's letter: group 0 is A
abbrev pub letter_text : ℕ → List ℕ
letter_text group = (65 + group) ∷ []

-- a choice: a team's code, a group's letter, or the number of a position
abbrev pub choice_text : DrawFile → Choice → List ℕ
choice_text file (Choice.Team id) = code_text file id
choice_text file (Choice.Group group) = letter_text group
choice_text file (Choice.Position position) = decimal position

-- the choices, each with a space before it
abbrev pub choices_text : DrawFile → List Choice → List ℕ
choices_text file [] = []
choices_text file (c ∷ cs) = 32 ∷ choice_text file c ++ choices_text file cs

-- the start of the line that tells a phase; one that waits for no ball has none
abbrev pub phase_text : DrawFile → Phase → List ℕ
phase_text file Phase.Runner = codes "next runner-up:"
phase_text file (Phase.Opponent runner_up) = codes "next opponent " ++ code_text file runner_up ++ codes ":"
phase_text file (Phase.Team pot) = codes "next team pot " ++ decimal pot ++ codes ":"
phase_text file (Phase.Group team) = []
phase_text file (Phase.Position team) = codes "next position " ++ code_text file team ++ codes ":"
phase_text file Phase.Complete = []

-- the line that tells what comes next
abbrev pub next_text : DrawFile → NextLine → List ℕ
next_text file (NextLine.Choices phase choices) = phase_text file phase ++ choices_text file choices ++ codes "\n"
next_text file NextLine.Complete = codes "complete\n"
next_text file NextLine.Impossible = codes "impossible\n"

-- the line of a refusal
abbrev pub refusal_text : Refusal → List ℕ
refusal_text Refusal.Limit = codes "refused limit\n"
refusal_text Refusal.Form = codes "refused form\n"
refusal_text Refusal.Unknown = codes "refused unknown\n"
refusal_text Refusal.Complete = codes "refused complete\n"
refusal_text Refusal.Phase = codes "refused phase\n"
refusal_text Refusal.Excluded = codes "refused excluded\n"

-- the line of a team that got its position: its code, and the letter of its group with the position,
-- as A2; it is written where the group is told
abbrev pub stands_text : DrawFile → TeamId → Option ℕ → ℕ → List ℕ
stands_text file id None position = []
stands_text file id (Some group) position =
    codes "stands " ++ code_text file id ++ codes " " ++ letter_text group ++ decimal position ++ codes "\n"

-- the line of a move, beside which a group is told or not
abbrev pub move_text : DrawFile → Option ℕ → Move → List ℕ
move_text file told (Move.Drawn id) = codes "drawn " ++ code_text file id ++ codes "\n"
move_text file told (Move.Placed id group) =
    codes "placed " ++ code_text file id ++ codes " " ++ letter_text group ++ codes "\n"
move_text file told (Move.Positioned id position) = stands_text file id told position
move_text file told (Move.Paired runner_up winner) = codes "paired " ++ code_text file runner_up ++ codes " " ++ code_text file winner ++ codes "\n"

-- the line of a ball is that of the last move that it added
abbrev pub ball_text : DrawFile → Option ℕ → List Move → List ℕ
ball_text file told [] = []
ball_text file told (m ∷ []) = move_text file told m
ball_text file told (m ∷ n ∷ ms) = ball_text file told (n ∷ ms)

-- The lines of a reply.
abbrev pub reply_text : DrawFile → Reply → List ℕ
reply_text file (Reply.Refused refusal) = refusal_text refusal
reply_text file (Reply.Taken moves group next) = ball_text file group moves ++ next_text file next

-- The opening: the kind, the number of teams, and what comes next.
abbrev pub opening_text : DrawFile → NextLine → List ℕ
opening_text file next =
    codes "draw " ++ kind_text file.kind ++ codes " " ++ decimal (length file.teams) ++ codes " teams\n" ++ next_text file next
