-- How a run ends, from what `run` promises of its status.
use Rattle.std.proofs.Common.{◌≡◌, ◌≢◌, ◌⊎◌, ℕ, List, Option, refl, inr}
use Rattle.std.specs.Io.KnownBytes.{Appends, Keeps, IsAtEnd}
use Rattle.draw_ports.specs.Causes.{Rose, AppendsSome}
use Rattle.draw_ports.specs.Outside.{Outside}
use Rattle.stepcheck.specs.declared.status.Status.{Status}
use Rattle.stepcheck.specs.declared.status.Status.TheVariants.{Accepted, Usage, Refused, ReadFault, WriteFault, NoMemory, TooLong, Bad}
use Rattle.list_texts.specs.Limits.{HaveLimit}
use Rattle.stepcheck.specs.Runs.{usage_line, IsApprovalOf, IsObjectionTo, IsRefusalOf, Gains, GainsPart, FitsLimit, IsTooMuch, HoldsAccepted, HoldsBad, HoldsRefused, HoldsTooMuch}
use Rattle.stepcheck.specs.Endings.{Ends, CallsFor}

-- the clauses of `run`, of its status and two moments
pub record Promised (status : Status) (words : List (List ℕ)) (old new : Outside) : Type 0 where
  pub accepted : status ≡ Accepted → Gains IsApprovalOf old.left old.wrote new.wrote
  pub accepted_end : status ≡ Accepted → IsAtEnd new.left
  pub accepted_fits : status ≡ Accepted → FitsLimit words old.left
  pub bad : status ≡ Bad → Gains IsObjectionTo old.left old.wrote new.wrote
  pub bad_end : status ≡ Bad → IsAtEnd new.left
  pub bad_fits : status ≡ Bad → FitsLimit words old.left
  pub refused : status ≡ Refused → Gains IsRefusalOf old.left old.wrote new.wrote
  pub refused_end : status ≡ Refused → IsAtEnd new.left
  pub refused_fits : status ≡ Refused → FitsLimit words old.left
  pub usage : status ≡ Usage → ¬ HaveLimit words
  pub usage_told : status ≡ Usage → Appends old.wrote new.wrote usage_line
  pub usage_reads_nothing : ¬ HaveLimit words
      → (new.left ≡ old.left) × (new.read_faults ≡ old.read_faults)
  pub read : status ≡ ReadFault → Rose old.read_faults new.read_faults
  pub source_quiet : status ≢ ReadFault → new.read_faults ≡ old.read_faults
  pub sink_quiet : status ≢ WriteFault → new.write_faults ≡ old.write_faults
  pub read_none : status ≡ ReadFault → Keeps old.wrote new.wrote
  pub write : status ≡ WriteFault → Rose old.write_faults new.write_faults
  pub write_part : status ≡ WriteFault → HaveLimit words → GainsPart old.left old.wrote new.wrote
  pub write_usage : status ≡ WriteFault → ¬ HaveLimit words
      → AppendsSome old.wrote new.wrote usage_line
  pub too_long : status ≡ TooLong → IsTooMuch words old.left
  pub too_long_none : status ≡ TooLong → Keeps old.wrote new.wrote
  pub no_memory_none : status ≡ NoMemory → Keeps old.wrote new.wrote

-- make the row of its status
pub ended : (status : Status) (words : List (List ℕ)) (old new : Outside)
    → Promised status words old new → Ends status words old new
ended Accepted words old new p =
    record {
      gained = p.accepted refl;
      end = p.accepted_end refl;
      fits = p.accepted_fits refl;
      source_quiet = p.source_quiet (λ e. cc);
      sink_quiet = p.sink_quiet (λ e. cc);
    }
ended Bad words old new p =
    record {
      gained = p.bad refl;
      end = p.bad_end refl;
      fits = p.bad_fits refl;
      source_quiet = p.source_quiet (λ e. cc);
      sink_quiet = p.sink_quiet (λ e. cc);
    }
ended Refused words old new p =
    record {
      gained = p.refused refl;
      end = p.refused_end refl;
      fits = p.refused_fits refl;
      source_quiet = p.source_quiet (λ e. cc);
      sink_quiet = p.sink_quiet (λ e. cc);
    }
ended Usage words old new p =
    record {
      unasked = p.usage refl;
      gained = p.usage_told refl;
      left = (p.usage_reads_nothing (p.usage refl)).0;
      source_quiet = p.source_quiet (λ e. cc);
      sink_quiet = p.sink_quiet (λ e. cc);
    }
ended ReadFault words old new p =
    record {
      rose = p.read refl;
      kept = p.read_none refl;
      sink_quiet = p.sink_quiet (λ e. cc);
    }
ended WriteFault words old new p =
    record {
      rose = p.write refl;
      asked = p.write_part refl;
      unasked = p.write_usage refl;
      unread = λ no. (p.usage_reads_nothing no).0;
      source_quiet = p.source_quiet (λ e. cc);
    }
ended NoMemory words old new p =
    record {
      kept = p.no_memory_none refl;
      source_quiet = p.source_quiet (λ e. cc);
      sink_quiet = p.sink_quiet (λ e. cc);
    }
ended TooLong words old new p =
    record {
      too_much = p.too_long refl;
      kept = p.too_long_none refl;
      source_quiet = p.source_quiet (λ e. cc);
      sink_quiet = p.sink_quiet (λ e. cc);
    }

-- the statuses that a run may end with where the bytes call for this one
abbrev pub MayEnd : Status → Status → Type 0
MayEnd status end = (end ≡ status) ⊎ ((end ≡ TooLong) ⊎ (end ≡ NoMemory))

-- each status that the bytes may call for, from what is promised of it
pub completed : (status end : Status) (words : List (List ℕ)) (left : Option (List ℕ))
    → (HoldsAccepted words left → MayEnd Accepted end) → (HoldsBad words left → MayEnd Bad end)
    → (HoldsRefused words left → MayEnd Refused end)
    → (HoldsTooMuch words left → (end ≡ TooLong) ⊎ (end ≡ NoMemory))
    → CallsFor words left status → MayEnd status end
completed Accepted end words left accepted bad refused too_long holds = accepted holds
completed Bad end words left accepted bad refused too_long holds = bad holds
completed Refused end words left accepted bad refused too_long holds = refused holds
completed TooLong end words left accepted bad refused too_long holds = inr (too_long holds)
completed Usage end words left accepted bad refused too_long holds = absurd holds
completed ReadFault end words left accepted bad refused too_long holds = absurd holds
completed WriteFault end words left accepted bad refused too_long holds = absurd holds
completed NoMemory end words left accepted bad refused too_long holds = absurd holds
