-- The programs, the modes of their calls, and what holds of each.
use Rattle.std.specs.Prelude.{ℕ, List, codes}
use Rattle.draw_top.specs.Follow.{IsFollow}
use Rattle.draw_top.specs.Check.{IsJudge}

pub data Program : Type 0 where
  Draw : Program
  Drawcheck : Program

-- What a call can be asked for.
pub data Mode : Type 0 where
  Follow : Mode
  Judge : Mode

-- The words after the program's name ask for the mode: one row a mode.
abbrev pub AsksFor : Program → List (List ℕ) → Mode → Type 0
AsksFor Draw words Follow = IsFollow words
AsksFor Drawcheck words Judge = IsJudge words
AsksFor program words mode = ⊥

-- what is written where the words ask for no mode
abbrev pub usage_line : Program → List ℕ
usage_line Draw = codes "usage: draw follow|prove|room|trial N [--workers 1..16]\n"
usage_line Drawcheck = codes "usage: drawcheck judge|audit|replay\n"

-- at most so many bytes are taken as the head and the lines of a draw
abbrev pub input_limit : ℕ
input_limit = 4194304

-- at most so many bytes are taken as an input of the mode
abbrev pub limit_of : Mode → ℕ
limit_of Follow = input_limit
limit_of Judge = input_limit
