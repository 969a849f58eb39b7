-- How a run of `solve` ends: the table of the statuses, one row a status.
use Rattle.std.specs.Prelude.{◌≡◌, ℕ, ◌<◌, ◌≤◌, ◌⊎◌, List, length, codes, Option, IfSome, IsSomeAnd}
use Rattle.std.specs.Io.KnownBytes.{Appends, Keeps, IsAtEnd}
use Rattle.draw_ports.specs.Causes.{Rose, AppendsSome}
use Rattle.draw_ports.specs.Outside.{Outside, NothingFailed}
use Rattle.list_texts.specs.Limits.{AreLimit, HaveLimit}
use Rattle.solve.specs.declared.status.Status.{Status}
use Rattle.solve.specs.Reports.{IsAnswering, IsRefusalOf, IsAskableText, IsUncountableText}

-- the line that is written where the words are not one limit
abbrev pub usage_line : List ℕ
usage_line = codes "usage: solve BYTES\n"

-- ---- the ways to end, from one moment to a later one

-- A whole text that is so of what the source held was written, and the source was read to its end.
pub record WritesWhole (IsSo : List ℕ → List ℕ → Type 0) (limit : ℕ) (old new : Outside)
    : Type 0 where
  pub gained : IfSome old.left
      (λ bytes. (text : List ℕ) × IsSo bytes text × Appends old.wrote new.wrote text)
  pub end : IsAtEnd new.left
  pub fits : IfSome old.left (λ bytes. length bytes ≤ limit)
  pub source_quiet : new.read_faults ≡ old.read_faults
  pub sink_quiet : new.write_faults ≡ old.write_faults

-- The sink failed after some first bytes of such a text, and the source was read to its end.
pub record WritesPart (IsSo : List ℕ → List ℕ → Type 0) (limit : ℕ) (old new : Outside)
    : Type 0 where
  pub rose : Rose old.write_faults new.write_faults
  pub part : IfSome old.left
      (λ bytes. (text : List ℕ) × IsSo bytes text × AppendsSome old.wrote new.wrote text)
  pub end : IsAtEnd new.left
  pub fits : IfSome old.left (λ bytes. length bytes ≤ limit)
  pub source_quiet : new.read_faults ≡ old.read_faults

-- The source failed, and nothing was written.
pub record FailsToRead (old new : Outside) : Type 0 where
  pub rose : Rose old.read_faults new.read_faults
  pub kept : Keeps old.wrote new.wrote
  pub sink_quiet : new.write_faults ≡ old.write_faults

-- The source held more bytes than are taken, or an inquiry whose rules a u32 does not number, and
-- nothing was written.
pub record FindsTooMuch (limit : ℕ) (old new : Outside) : Type 0 where
  pub too_much : IfSome old.left (λ bytes. (limit < length bytes) ⊎ IsUncountableText bytes)
  pub kept : Keeps old.wrote new.wrote
  pub source_quiet : new.read_faults ≡ old.read_faults
  pub sink_quiet : new.write_faults ≡ old.write_faults

-- No memory was left, and nothing was written.
pub record LacksMemory (old new : Outside) : Type 0 where
  pub kept : Keeps old.wrote new.wrote
  pub source_quiet : new.read_faults ≡ old.read_faults
  pub sink_quiet : new.write_faults ≡ old.write_faults

-- The whole usage line was written, and nothing was read.
pub record WritesUsage (old new : Outside) : Type 0 where
  pub gained : Appends old.wrote new.wrote usage_line
  pub left : new.left ≡ old.left
  pub source_quiet : new.read_faults ≡ old.read_faults
  pub sink_quiet : new.write_faults ≡ old.write_faults

-- The sink failed after some first bytes of that line, and nothing was read.
pub record WritesUsagePart (old new : Outside) : Type 0 where
  pub rose : Rose old.write_faults new.write_faults
  pub part : AppendsSome old.wrote new.wrote usage_line
  pub left : new.left ≡ old.left
  pub source_quiet : new.read_faults ≡ old.read_faults

-- ---- the table

-- The text is one that may be written of the bytes.
abbrev pub IsWritten : List ℕ → List ℕ → Type 0
IsWritten bytes text = IsAnswering bytes text ⊎ IsRefusalOf bytes text

-- How a run ends that takes at most so many bytes.
abbrev pub EndsWithin : ℕ → Status → Outside → Outside → Type 0
EndsWithin limit Status.Answered old new = WritesWhole IsAnswering limit old new
EndsWithin limit Status.Refused old new = WritesWhole IsRefusalOf limit old new
EndsWithin limit Status.ReadFault old new = FailsToRead old new
EndsWithin limit Status.WriteFault old new = WritesPart IsWritten limit old new
EndsWithin limit Status.NoMemory old new = LacksMemory old new
EndsWithin limit Status.TooLong old new = FindsTooMuch limit old new
EndsWithin limit Status.Usage old new = ⊥

-- How a run ends whose words are not one limit.
abbrev pub EndsUnasked : Status → Outside → Outside → Type 0
EndsUnasked Status.Usage old new = WritesUsage old new
EndsUnasked Status.WriteFault old new = WritesUsagePart old new
EndsUnasked status old new = ⊥

-- How a run ends that got these words.
pub record Ends (status : Status) (words : List (List ℕ)) (old new : Outside) : Type 0 where
  pub asked : (limit : ℕ) → AreLimit words limit → EndsWithin limit status old new
  pub unasked : ¬ HaveLimit words → EndsUnasked status old new

-- ---- which status it is, where nothing fails

-- The bytes alone decide that a run that takes at most so many of them ends with the status.
abbrev pub IsDecided : ℕ → List ℕ → Status → Type 0
IsDecided limit bytes Status.Answered = (length bytes ≤ limit) × IsAskableText bytes
IsDecided limit bytes Status.Refused = (length bytes ≤ limit) × (¬ IsAskableText bytes)
IsDecided limit bytes Status.TooLong = limit < length bytes
IsDecided limit bytes status = ⊥

-- Where nothing fails, a run ends with the status that the bytes decide for, or there were more rules
-- than a u32 numbers, or no memory was left.
abbrev pub EndsAsDecided : ℕ → Status → Outside → Outside → Type 0
EndsAsDecided limit result old new = (status : Status)
    → IsSomeAnd old.left (λ bytes. IsDecided limit bytes status) → NothingFailed old new
    → (result ≡ status) ⊎ ((result ≡ Status.TooLong) ⊎ (result ≡ Status.NoMemory))

-- The same of a run that got these words.
abbrev pub IsComplete : Status → List (List ℕ) → Outside → Outside → Type 0
IsComplete result words old new = (limit : ℕ) → AreLimit words limit
    → EndsAsDecided limit result old new
