-- How a run of `stepcheck` ends: the table of the statuses, one row a status.
use Rattle.std.specs.Prelude.{◌≡◌, ℕ, List, Option}
use Rattle.std.specs.Io.KnownBytes.{Appends, Keeps, IsAtEnd}
use Rattle.draw_ports.specs.Causes.{Rose, AppendsSome}
use Rattle.draw_ports.specs.Outside.{Outside}
use Rattle.stepcheck.specs.declared.status.Status.{Status}
use Rattle.list_texts.specs.Limits.{HaveLimit}
use Rattle.stepcheck.specs.Runs.{usage_line, IsApprovalOf, IsObjectionTo, IsRefusalOf, Gains, GainsPart, FitsLimit, IsTooMuch, HoldsAccepted, HoldsBad, HoldsRefused, HoldsTooMuch}

-- ---- the ways to end, from one moment to a later one

-- A whole line that is so of what the source held was written, and the source was read to its end.
pub record WritesWhole (IsSo : List ℕ → List ℕ → Type 0) (words : List (List ℕ))
    (old new : Outside) : Type 0 where
  pub gained : Gains IsSo old.left old.wrote new.wrote
  pub end : IsAtEnd new.left
  pub fits : FitsLimit words old.left
  pub source_quiet : new.read_faults ≡ old.read_faults
  pub sink_quiet : new.write_faults ≡ old.write_faults

-- The words are not one limit: the usage line was written, and nothing was read.
pub record WritesUsage (words : List (List ℕ)) (old new : Outside) : Type 0 where
  pub unasked : ¬ HaveLimit words
  pub gained : Appends old.wrote new.wrote usage_line
  pub left : new.left ≡ old.left
  pub source_quiet : new.read_faults ≡ old.read_faults
  pub sink_quiet : new.write_faults ≡ old.write_faults

-- The source failed, and nothing was written.
pub record FailsToRead (old new : Outside) : Type 0 where
  pub rose : Rose old.read_faults new.read_faults
  pub kept : Keeps old.wrote new.wrote
  pub sink_quiet : new.write_faults ≡ old.write_faults

-- The sink failed after some first bytes of a line that may be written.
pub record WritesPart (words : List (List ℕ)) (old new : Outside) : Type 0 where
  pub rose : Rose old.write_faults new.write_faults
  pub asked : HaveLimit words → GainsPart old.left old.wrote new.wrote
  pub unasked : ¬ HaveLimit words → AppendsSome old.wrote new.wrote usage_line
  pub unread : ¬ HaveLimit words → new.left ≡ old.left
  pub source_quiet : new.read_faults ≡ old.read_faults

-- No memory was left, and nothing was written.
pub record LacksMemory (old new : Outside) : Type 0 where
  pub kept : Keeps old.wrote new.wrote
  pub source_quiet : new.read_faults ≡ old.read_faults
  pub sink_quiet : new.write_faults ≡ old.write_faults

-- The source held more than the limit, or a list that a u32 does not number; nothing was written.
pub record FindsTooMuch (words : List (List ℕ)) (old new : Outside) : Type 0 where
  pub too_much : IsTooMuch words old.left
  pub kept : Keeps old.wrote new.wrote
  pub source_quiet : new.read_faults ≡ old.read_faults
  pub sink_quiet : new.write_faults ≡ old.write_faults

-- ---- the table

-- How a run ends that got these words.
abbrev pub Ends : Status → List (List ℕ) → Outside → Outside → Type 0
Ends Status.Accepted words old new = WritesWhole IsApprovalOf words old new
Ends Status.Usage words old new = WritesUsage words old new
Ends Status.Refused words old new = WritesWhole IsRefusalOf words old new
Ends Status.ReadFault words old new = FailsToRead old new
Ends Status.WriteFault words old new = WritesPart words old new
Ends Status.NoMemory words old new = LacksMemory old new
Ends Status.TooLong words old new = FindsTooMuch words old new
Ends Status.Bad words old new = WritesWhole IsObjectionTo words old new

-- ---- which status it is, where nothing fails

-- The words are one limit, and what the source held alone decides for the status.
abbrev pub CallsFor : List (List ℕ) → Option (List ℕ) → Status → Type 0
CallsFor words left Status.Accepted = HoldsAccepted words left
CallsFor words left Status.Refused = HoldsRefused words left
CallsFor words left Status.TooLong = HoldsTooMuch words left
CallsFor words left Status.Bad = HoldsBad words left
CallsFor words left status = ⊥
