-- The opening and the reply to one line, as texts.
use Rattle.std.specs.Prelude.{◌≡◌, ℕ, List}
use Rattle.draw_state.specs.declared.commands.Command.{Command}
use Rattle.draw_state.specs.declared.replies.NextLine.{NextLine}
use Rattle.draw_state.specs.declared.replies.Reply.{Reply}
use Rattle.draw_state.specs.Runs.{IsNextLine, IsStep}
use Rattle.draw_lines.specs.Words.{command_of}
use Rattle.draw_lines.specs.Texts.{opening_text, reply_text}
use Rattle.draw_top.specs.Turns.{Turn}

-- the text opens the turn: it tells what comes next
abbrev pub IsOpeningOf : Turn → List ℕ → Type 0
IsOpeningOf turn text = (next : NextLine) × IsNextLine turn.file turn.moves next × (text ≡ opening_text turn.file next)

-- the reply to the command, which leads from the one turn to the other
abbrev pub StepsTo : Turn → Turn → ℕ → Command → Reply → Type 0
StepsTo old new answered command reply =
    IsStep old.file old.moves answered command new.moves reply

-- the text tells the reply to the line, which leads from the one turn to the other
abbrev pub IsReplyTo : Turn → Turn → ℕ → List ℕ → List ℕ → Type 0
IsReplyTo old new answered line text =
    (reply : Reply) × StepsTo old new answered (command_of line) reply
    × (text ≡ reply_text old.file reply)

-- the reply tells that the command is refused
abbrev pub IsRefusal : Reply → Type 0
IsRefusal (Reply.Refused refusal) = Unit {0}
IsRefusal (Reply.Taken added group next) = ⊥
