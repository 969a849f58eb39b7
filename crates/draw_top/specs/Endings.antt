-- How a top call ends: the table of the statuses, one row a status.
-- A new mode adds rows and changes none. A row of its own stands above the row of every mode.
use Rattle.std.specs.Prelude.{◌≡◌, ℕ, ◌<◌, ◌≤◌, List, length, Option, IsSomeAnd, ◌⊎◌}
use Rattle.std.specs.Io.KnownBytes.{Appends, Keeps, IsAtEnd}
use Rattle.draw_ports.specs.Causes.{Rose, AppendsSome}
use Rattle.draw_top.specs.declared.status.Status.{Status}
use Rattle.draw_top.specs.Outside.{Outside, NothingFailed, Gains, GainsSome, FitsLimit, PassesLimit}
use Rattle.draw_top.specs.Follow.{HasFile, IsAnswerOf, IsRefusalOf}
use Rattle.draw_top.specs.Check.{IsLegalInput, IsApprovalOf, IsObjectionTo}
use Rattle.draw_top.specs.Modes.{Program, Mode, AsksFor, usage_line, limit_of, Follow, Judge}

-- ---- the ways to end, from one moment to a later one

-- A whole text that is so of what the source held was written, and the source was read to its end.
pub record WritesWhole (IsSo : List ℕ → List ℕ → Type 0) (limit : ℕ) (old new : Outside)
    : Type 0 where
  pub gained : Gains IsSo old.left old.wrote new.wrote
  pub end : IsAtEnd new.left
  pub fits : FitsLimit limit old.left
  pub source_quiet : new.read_faults ≡ old.read_faults
  pub sink_quiet : new.write_faults ≡ old.write_faults

-- The sink failed after some first bytes of such a text, and the source was read to its end.
pub record WritesPart (IsSo : List ℕ → List ℕ → Type 0) (limit : ℕ) (old new : Outside)
    : Type 0 where
  pub rose : Rose old.write_faults new.write_faults
  pub part : GainsSome IsSo old.left old.wrote new.wrote
  pub end : IsAtEnd new.left
  pub fits : FitsLimit limit old.left
  pub source_quiet : new.read_faults ≡ old.read_faults

-- The source failed, and nothing was written.
pub record FailsToRead (old new : Outside) : Type 0 where
  pub rose : Rose old.read_faults new.read_faults
  pub kept : Keeps old.wrote new.wrote
  pub sink_quiet : new.write_faults ≡ old.write_faults

-- The source held more bytes than are taken, and nothing was written.
pub record FindsTooMuch (limit : ℕ) (old new : Outside) : Type 0 where
  pub too_long : PassesLimit limit old.left
  pub kept : Keeps old.wrote new.wrote
  pub source_quiet : new.read_faults ≡ old.read_faults
  pub sink_quiet : new.write_faults ≡ old.write_faults

-- No memory was left, and nothing was written.
pub record LacksMemory (old new : Outside) : Type 0 where
  pub kept : Keeps old.wrote new.wrote
  pub source_quiet : new.read_faults ≡ old.read_faults
  pub sink_quiet : new.write_faults ≡ old.write_faults

-- The whole line was written, and nothing was read.
pub record WritesLine (line : List ℕ) (old new : Outside) : Type 0 where
  pub gained : Appends old.wrote new.wrote line
  pub left : new.left ≡ old.left
  pub source_quiet : new.read_faults ≡ old.read_faults
  pub sink_quiet : new.write_faults ≡ old.write_faults

-- The sink failed after some first bytes of the line, and nothing was read.
pub record WritesLinePart (line : List ℕ) (old new : Outside) : Type 0 where
  pub rose : Rose old.write_faults new.write_faults
  pub part : AppendsSome old.wrote new.wrote line
  pub left : new.left ≡ old.left
  pub source_quiet : new.read_faults ≡ old.read_faults

-- ---- the table

-- The text is one that a call of the mode may write of the input.
abbrev pub IsWrittenIn : Mode → List ℕ → List ℕ → Type 0
IsWrittenIn Follow input text = IsAnswerOf input text ⊎ IsRefusalOf input text
IsWrittenIn Judge input text =
    IsApprovalOf input text ⊎ (IsObjectionTo input text ⊎ IsRefusalOf input text)

-- How a call ends that was asked for the mode.
abbrev pub EndsAs : Mode → Status → Outside → Outside → Type 0
EndsAs Follow Status.Ok old new = WritesWhole IsAnswerOf (limit_of Follow) old new
EndsAs Judge Status.Ok old new = WritesWhole IsApprovalOf (limit_of Judge) old new
EndsAs mode Status.FileRefused old new = WritesWhole IsRefusalOf (limit_of mode) old new
EndsAs mode Status.ReadFault old new = FailsToRead old new
EndsAs mode Status.WriteFault old new = WritesPart (IsWrittenIn mode) (limit_of mode) old new
EndsAs mode Status.NoMemory old new = LacksMemory old new
EndsAs mode Status.TooLong old new = FindsTooMuch (limit_of mode) old new
EndsAs Judge Status.NotValid old new = WritesWhole IsObjectionTo (limit_of Judge) old new
EndsAs mode status old new = ⊥

-- How a call ends whose words ask for no mode.
abbrev pub EndsUnasked : Program → Status → Outside → Outside → Type 0
EndsUnasked program Status.Usage old new = WritesLine (usage_line program) old new
EndsUnasked program Status.WriteFault old new = WritesLinePart (usage_line program) old new
EndsUnasked program status old new = ⊥

-- How a call of the program ends that got these words.
pub record Ends (program : Program) (status : Status) (words : List (List ℕ)) (old new : Outside)
    : Type 0 where
  pub asked : (mode : Mode) → AsksFor program words mode → EndsAs mode status old new
  pub unasked : ((mode : Mode) → ¬ AsksFor program words mode)
      → EndsUnasked program status old new

-- ---- which status it is, where nothing fails

-- The bytes of an input alone decide that a call of the mode ends with the status.
abbrev pub IsDecided : Mode → List ℕ → Status → Type 0
IsDecided Follow input Status.Ok = (length input ≤ limit_of Follow) × HasFile input
IsDecided Judge input Status.Ok = (length input ≤ limit_of Judge) × IsLegalInput input
IsDecided mode input Status.FileRefused = (length input ≤ limit_of mode) × (¬ HasFile input)
IsDecided mode input Status.TooLong = limit_of mode < length input
IsDecided Judge input Status.NotValid =
    (length input ≤ limit_of Judge) × HasFile input × (¬ IsLegalInput input)
IsDecided mode input status = ⊥

-- The source tells that it held an input whose bytes decide for the status.
abbrev pub CallsFor : Mode → Option (List ℕ) → Status → Type 0
CallsFor mode left status = IsSomeAnd left (λ input. IsDecided mode input status)

-- Where nothing fails, a call of the mode ends with the status that the bytes decide for, or no
-- memory was left.
abbrev pub EndsAsDecided : Mode → Status → Outside → Outside → Type 0
EndsAsDecided mode result old new = (status : Status) → CallsFor mode old.left status
    → NothingFailed old new → (result ≡ status) ⊎ (result ≡ Status.NoMemory)

-- The same of a call of the program, in each mode that its words ask for.
abbrev pub IsComplete : Program → Status → List (List ℕ) → Outside → Outside → Type 0
IsComplete program result words old new = (mode : Mode) → AsksFor program words mode
    → EndsAsDecided mode result old new
