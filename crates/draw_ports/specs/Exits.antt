-- How programs end: their exit code, and what standard error says of it.
use Rattle.std.specs.Prelude.{◌≡◌, ℕ, ◌==◌, if◌then◌else◌, List, [], ◌∷◌, ◌++◌, codes, Option}
use Rattle.std.specs.Process.{exit_status}
use Rattle.std.specs.declared.process.ExitCode.{ExitCode}
use Rattle.std.specs.Io.KnownBytes.{Appends}
use Rattle.draw_ports.specs.Causes.{Rose, AppendsSome}

-- The exit code is the number of a status of which this is so.
abbrev pub ExitsWith : {A : Type 0} → (A → ℕ) → (A → Type 0) → ExitCode → Type 0
ExitsWith {A} number_of IsSo code =
    (status : A) × (exit_status code ≡ number_of status) × IsSo status

-- What an exit status means, where standard output does not tell it; nothing for any other.
abbrev pub text_of_status : ℕ → List ℕ
text_of_status status =
    if status == 3 then codes ": the input failed (status 3)\n" else (
    if status == 4 then codes ": the output failed (status 4)\n" else (
    if status == 5 then codes ": no memory was left (status 5)\n" else (
    if status == 6 then codes ": the input is longer than is taken (status 6)\n" else [])))

-- the text behind a program's name; no line without a text
abbrev pub line_with : List ℕ → List ℕ → List ℕ
line_with name [] = []
line_with name (byte ∷ text) = name ++ byte ∷ text

-- The line on standard error of a program with this name that ends with this status.
abbrev pub line_of_status : List ℕ → ℕ → List ℕ
line_of_status name status = line_with name (text_of_status status)

-- A sink was given the line: it took the whole of it, or some first bytes where it failed.
pub record IsTold (line : List ℕ) (old new : Option (List ℕ)) (before now : ℕ) : Type 0 where
  pub whole : ¬ Rose before now → Appends old new line
  pub part : AppendsSome old new line
