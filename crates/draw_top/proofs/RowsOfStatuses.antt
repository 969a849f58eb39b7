-- What a call read and wrote makes a row of the table of statuses.
use Rattle.std.proofs.Common.{◌≡◌, ℕ, ◌≤◌, List, length, ◌⊎◌, inl, inr, sym, subst, ◌∙◌}
use Rattle.draw_top.specs.declared.status.Status.{Status}
use Rattle.draw_top.specs.Outside.{Outside, NothingFailed}
use Rattle.draw_top.specs.Transfers.{IsRead, IsPut}
use Rattle.draw_top.specs.Modes.{Mode, Follow, Judge, Draw, Drawcheck, AsksFor, limit_of}
use Rattle.draw_top.specs.Endings.{WritesWhole, WritesPart, IsWrittenIn, EndsAs, Ends, IsDecided, CallsFor}
use Rattle.draw_top.proofs.WhatWasRead.{read_all_of, gains, gains_some, told}

-- a failed put ends each mode alike
part_of : (mode : Mode) (old new : Outside)
    → WritesPart (IsWrittenIn mode) (limit_of mode) old new → EndsAs mode Status.WriteFault old new
part_of Follow old new h = h
part_of Judge old new h = h

module _ (mode : Mode) (input text : List ℕ) (wanted status : Status) (old new : Outside) where
  -- A text that goes with the wanted status was put, whole or in part: the call ends by the table.
  pub ended : (IsSo : List ℕ → List ℕ → Type 0)
      → (WritesWhole IsSo (limit_of mode) old new → EndsAs mode wanted old new)
      → IsRead (limit_of mode) input old.left new.left old.read_faults new.read_faults
      → IsSo input text → IsWrittenIn mode input text
      → IsPut text wanted status old.wrote new.wrote old.write_faults new.write_faults
      → EndsAs mode status old new
  ended IsSo row read is may (inl done) =
      let P : Status → Type 0 = λ s. EndsAs mode s old new in
      subst P (sym done.0) (row (record {
        gained = gains IsSo input text old.left new.left old.wrote new.wrote read.all read.end is done.1;
        end = read.end;
        fits = read_all_of input old.left new.left (λ i. length i ≤ limit_of mode) read.all read.end read.fits;
        source_quiet = read.quiet;
        sink_quiet = done.2;
      }))
  ended IsSo row read is may (inr failed) =
      let P : Status → Type 0 = λ s. EndsAs mode s old new in
      subst P (sym failed.0) (part_of mode old new (record {
        rose = failed.2;
        part = gains_some (IsWrittenIn mode) input text old.left new.left old.wrote new.wrote read.all read.end may failed.1;
        end = read.end;
        fits = read_all_of input old.left new.left (λ i. length i ≤ limit_of mode) read.all read.end read.fits;
        source_quiet = read.quiet;
      }))

  -- Where nothing failed, the status is the one that the input calls for.
  pub complete : (called : Status)
      → IsRead (limit_of mode) input old.left new.left old.read_faults new.read_faults
      → (IsDecided mode input called → wanted ≡ called)
      → IsPut text wanted status old.wrote new.wrote old.write_faults new.write_faults
      → CallsFor mode old.left called → NothingFailed old new
      → (status ≡ called) ⊎ (status ≡ Status.NoMemory)
  complete called read one (inl done) calls none =
      inl (done.0 ∙ one (told input old.left new.left (λ i. IsDecided mode i called) read.all read.end calls))
  complete called read one (inr failed) calls none = absurd (none.1 failed.2)

-- ---- words that ask for a mode ask for no other

pub draw_asked : (status : Status) (words : List (List ℕ)) (old new : Outside)
    → AsksFor Draw words Follow → EndsAs Follow status old new → Ends Draw status words old new
draw_asked status words old new asked h =
    record { asked = each; unasked = λ none. absurd (none Follow asked) }
  where
    each : (mode : Mode) → AsksFor Draw words mode → EndsAs mode status old new
    each Follow asks = h
    each Judge asks = absurd asks

pub drawcheck_asked : (status : Status) (words : List (List ℕ)) (old new : Outside)
    → AsksFor Drawcheck words Judge → EndsAs Judge status old new
    → Ends Drawcheck status words old new
drawcheck_asked status words old new asked h =
    record { asked = each; unasked = λ none. absurd (none Judge asked) }
  where
    each : (mode : Mode) → AsksFor Drawcheck words mode → EndsAs mode status old new
    each Follow asks = absurd asks
    each Judge asks = h
