-- One command: what refuses it, which cause is told, and what an accepted ball adds.
use Rattle.std.specs.Prelude.{◌≡◌, ◌<◌, ◌≤◌, nat_le, ◌⊎◌, ◌&&◌, if◌then◌else◌, ℕ, List, [], ◌∷◌, ◌++◌, Option, Some, None, option_map, Result, Ok, Err}
use Rattle.team_files.specs.declared.kind.Kind.{Kind}
use Rattle.team_files.specs.Teams.{find}
use Rattle.rule_sets.specs.Files.{DrawFile}
use Rattle.draw_tables.specs.declared.moves.Move.{Move}
use Rattle.draw_tables.specs.declared.moves.Choice.{Choice}
use Rattle.draw_tables.specs.declared.moves.Phase.{Phase}
use Rattle.draw_tables.specs.Lists.{IsAmong}
use Rattle.draw_tables.specs.States.{phase_of, candidates, IsMoveOf}
use Rattle.draw_tables.specs.Offers.{IsPossible}
use Rattle.draw_state.specs.declared.commands.Word.{Word}
use Rattle.draw_state.specs.declared.commands.Command.{Command}
use Rattle.draw_state.specs.declared.commands.Action.{Action}
use Rattle.draw_state.specs.declared.replies.Refusal.{Refusal}

-- ---- what a command asks for

-- the choice that a number names: in a group draw a position, from 1 to the number of pots; in a
-- pairing none
abbrev pub choice_of_number : Kind → DrawFile → ℕ → Option Choice
choice_of_number Kind.Group file n =
    if nat_le 1 n && nat_le n file.pots then Some (Choice.Position n) else None
choice_of_number Kind.Pairing file n = None

-- the choice that a ball's word names: a code names the team that has it
abbrev pub choice_of : DrawFile → Word → Option Choice
choice_of file (Word.Team code) = option_map (λ t. Choice.Team t) (find code file.teams)
choice_of file (Word.Number n) = choice_of_number file.kind file n

-- the command is a ball that names the choice
abbrev pub IsBallOf : DrawFile → Command → Choice → Type 0
IsBallOf file command c = (word : Word) × (command ≡ Command.Ball word) × (choice_of file word ≡ Some c)

-- the command asks for the action
abbrev pub IsActionOf : DrawFile → Command → Action → Type 0
IsActionOf file command (Action.Ball c) = IsBallOf file command c

-- ---- the refusals, each a fact by itself

-- so many commands are answered; each later one is refused
abbrev pub most_commands : ℕ
most_commands = 4096

-- as many commands were answered as are answered at most
abbrev pub IsPastLimit : ℕ → Type 0
IsPastLimit answered = most_commands ≤ answered

-- the line is no command
abbrev pub HasNoForm : Command → Type 0
HasNoForm command = command ≡ Command.Bad

-- a ball that names no choice of the file
abbrev pub IsUnknown : DrawFile → Command → Type 0
IsUnknown file command = (word : Word) × (command ≡ Command.Ball word) × (choice_of file word ≡ None)

-- a ball, and nothing comes any more
abbrev pub ComesAfterTheEnd : DrawFile → List Move → Command → Type 0
ComesAfterTheEnd file ms command = (word : Word) × (command ≡ Command.Ball word) × (phase_of file ms ≡ Phase.Complete)

-- a ball that names a choice, and this is no candidate of the phase
abbrev pub IsNoCandidate : DrawFile → List Move → Command → Type 0
IsNoCandidate file ms command = (c : Choice) × IsBallOf file command c × ¬ IsAmong (candidates file ms) c

-- a ball that names a candidate of the phase, and this is not possible
abbrev pub IsExcluded : DrawFile → List Move → Command → Type 0
IsExcluded file ms command = (c : Choice) × IsBallOf file command c × IsAmong (candidates file ms) c × ¬ IsPossible file ms c

-- The cause holds of the command after these moves, where so many commands were answered before, whatever other causes hold.
abbrev pub Refuses : DrawFile → List Move → ℕ → Command → Refusal → Type 0
Refuses file ms answered command Refusal.Limit = IsPastLimit answered
Refuses file ms answered command Refusal.Form = HasNoForm command
Refuses file ms answered command Refusal.Unknown = IsUnknown file command
Refuses file ms answered command Refusal.Complete = ComesAfterTheEnd file ms command
Refuses file ms answered command Refusal.Phase = IsNoCandidate file ms command
Refuses file ms answered command Refusal.Excluded = IsExcluded file ms command

-- ---- the first cause

-- The causes in the order in which they are told.
abbrev pub causes : List Refusal
causes =
    Refusal.Limit
    ∷ Refusal.Form
    ∷ Refusal.Unknown
    ∷ Refusal.Complete
    ∷ Refusal.Phase
    ∷ Refusal.Excluded
    ∷ []

-- the first of the list that has the property
abbrev pub IsFirst : {A : Type 0} → (A → Type 0) → List A → A → Type 0
IsFirst P [] x = ⊥
IsFirst P (y ∷ ys) x = ((x ≡ y) × P y) ⊎ (¬ P y × IsFirst P ys x)

-- The command is refused for this cause, the first that holds.
abbrev pub IsRefusedCommand : DrawFile → List Move → ℕ → Command → Refusal → Type 0
IsRefusedCommand file ms answered command refusal = IsFirst (Refuses file ms answered command) causes refusal

-- The command is accepted: it asks for this action, and no cause refuses it.
pub record IsAcceptedCommand (file : DrawFile) (ms : List Move) (answered : ℕ) (command : Command) (action : Action) : Type 0 where
  pub asks : IsActionOf file command action
  pub nothing_refuses : (refusal : Refusal) → ¬ Refuses file ms answered command refusal

-- What is said of a command: it is accepted with an action, or refused for a cause.
abbrev pub IsOutcome : DrawFile → List Move → ℕ → Command → Result Action Refusal → Type 0
IsOutcome file ms answered command (Ok action) = IsAcceptedCommand file ms answered command action
IsOutcome file ms answered command (Err refusal) = IsRefusedCommand file ms answered command refusal

-- ---- what an accepted ball adds

-- The group is the first possible one, by letter, after the moves.
pub record IsFirstPossibleGroup (file : DrawFile) (ms : List Move) (group : ℕ) : Type 0 where
  pub possible : IsPossible file ms (Choice.Group group)
  pub before : (other : ℕ) → other < group → ¬ IsPossible file ms (Choice.Group other)

-- The moves that a phase adds without a ball of its own: in the phase Group the team takes the
-- first possible group. A phase that waits for a ball adds none.
abbrev pub AddsOfItself : DrawFile → List Move → Phase → List Move → Type 0
AddsOfItself file ms Phase.Runner more = more ≡ []
AddsOfItself file ms (Phase.Opponent r) more = more ≡ []
AddsOfItself file ms (Phase.Team pot) more = more ≡ []
AddsOfItself file ms (Phase.Group t) more =
    (group : ℕ) × IsFirstPossibleGroup file ms group × (more ≡ Move.Placed t group ∷ [])
AddsOfItself file ms (Phase.Position t) more = more ≡ []
AddsOfItself file ms Phase.Complete more = more ≡ []

-- An accepted ball adds these moves: the choice's move, and then what the phase after it adds of itself.
abbrev pub Adds : DrawFile → List Move → Choice → List Move → Type 0
Adds file ms c added =
    (m : Move) × (more : List Move) × IsMoveOf file ms c m
    × AddsOfItself file (ms ++ m ∷ []) (phase_of file (ms ++ m ∷ [])) more × (added ≡ m ∷ more)
