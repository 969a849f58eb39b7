-- What a run read and wrote makes a row of the table of statuses.
use Rattle.std.proofs.Common.{◌≡◌, ℕ, ◌<◌, ◌≤◌, List, length, ◌++◌, Option, Some, None, ◌⊎◌, inl, inr, refl, sym, ap, subst, ◌∙◌, append-nil}
use Rattle.std.specs.Prelude.{IfSome, IsSomeAnd}
use Rattle.std.specs.Io.KnownBytes.{Consumes, IsAtEnd, Appends}
use Rattle.draw_ports.specs.Causes.{Rose, AppendsSome}
use Rattle.draw_ports.specs.Outside.{Outside, NothingFailed}
use Rattle.list_texts.specs.Limits.{AreLimit, HaveLimit}
use Rattle.std.specs.Fmt.{decimal}
use Rattle.std.proofs.lemmas.Fmt.{decimal_injective}
use Rattle.solve.specs.declared.status.Status.{Status}
use Rattle.solve.specs.Reports.{IsAnswering, IsRefusalOf, IsReportOf}
use Rattle.solve.specs.Transfers.{IsRead, IsPut}
use Rattle.solve.specs.Endings.{usage_line, WritesWhole, WritesPart, IsWritten, EndsWithin, EndsUnasked, Ends, IsDecided, EndsAsDecided, IsComplete}
use Rattle.solve.proofs.OneReport.{report_decides}

-- what the source told is what was read
read_all_of : (bytes : List ℕ) (left rest : Option (List ℕ)) (P : List ℕ → Type 0) → Consumes left rest bytes → IsAtEnd rest → P bytes → IfSome left P
read_all_of bytes None rest P p q h = tt
read_all_of bytes (Some x) None P p q h = absurd p
read_all_of bytes (Some x) (Some y) P p q h = let same : x ≡ bytes = p ∙ ap (λ l. bytes ++ l) q ∙ append-nil bytes in subst P (sym same) h

-- what the source tells is so of what was read
told : (bytes : List ℕ) (left rest : Option (List ℕ)) (P : List ℕ → Type 0) → Consumes left rest bytes → IsAtEnd rest → IsSomeAnd left P → P bytes
told bytes None rest P p q h = absurd h
told bytes (Some x) None P p q h = absurd p
told bytes (Some x) (Some y) P p q h = let same : x ≡ bytes = p ∙ ap (λ l. bytes ++ l) q ∙ append-nil bytes in subst P same h

module _ (limit : ℕ) (bytes : List ℕ) (old new : Outside) (read : IsRead limit bytes old.left new.left old.read_faults new.read_faults) where
  fits : IfSome old.left (λ held. length held ≤ limit)
  fits = read_all_of bytes old.left new.left (λ held. length held ≤ limit) read.all read.end read.fits

  -- ---- a text was put, whole or in part

  module _ (text : List ℕ) where
    whole : (IsSo : List ℕ → List ℕ → Type 0) → IsSo bytes text → Appends old.wrote new.wrote text → new.write_faults ≡ old.write_faults → WritesWhole IsSo limit old new
    whole IsSo is put quiet = record {
      gained = read_all_of bytes old.left new.left (λ held. (t : List ℕ) × IsSo held t × Appends old.wrote new.wrote t) read.all read.end (text, is, put);
      end = read.end;
      fits = fits;
      source_quiet = read.quiet;
      sink_quiet = quiet;
    }

    part : IsWritten bytes text → AppendsSome old.wrote new.wrote text → Rose old.write_faults new.write_faults → WritesPart IsWritten limit old new
    part is put rose = record {
      rose = rose;
      part = read_all_of bytes old.left new.left (λ held. (t : List ℕ) × IsWritten held t × AppendsSome old.wrote new.wrote t) read.all read.end (text, is, put);
      end = read.end;
      fits = fits;
      source_quiet = read.quiet;
    }

    may_write : (wanted : Status) → IsReportOf bytes wanted text → IsWritten bytes text
    may_write Status.Answered is = inl is
    may_write Status.Refused is = inr is
    may_write wanted is = absurd is

    row : (wanted : Status) → IsReportOf bytes wanted text → Appends old.wrote new.wrote text → new.write_faults ≡ old.write_faults → EndsWithin limit wanted old new
    row Status.Answered is put quiet = whole IsAnswering is put quiet
    row Status.Refused is put quiet = whole IsRefusalOf is put quiet
    row wanted is put quiet = absurd is

    pub ended : (wanted status : Status) → IsReportOf bytes wanted text → IsPut text wanted status old.wrote new.wrote old.write_faults new.write_faults → EndsWithin limit status old new
    ended wanted status is (inl done) = subst (λ s. EndsWithin limit s old new) (sym done.0) (row wanted is done.1 done.2)
    ended wanted status is (inr failed) = subst (λ s. EndsWithin limit s old new) (sym failed.0) (part (may_write wanted is) failed.1 failed.2)

    pub complete : (wanted status : Status) → IsReportOf bytes wanted text → IsPut text wanted status old.wrote new.wrote old.write_faults new.write_faults → EndsAsDecided limit status old new
    complete wanted status is (inl done) called calls none =
        inl (done.0 ∙ report_decides bytes text limit wanted called read.fits is (told bytes old.left new.left (λ held. IsDecided limit held called) read.all read.end calls))
    complete wanted status is (inr failed) called calls none = absurd (none.1 failed.2)

-- ---- words that are not one limit

unasked_row : (status : Status) (old new : Outside) → new.left ≡ old.left → new.read_faults ≡ old.read_faults
    → IsPut usage_line Status.Usage status old.wrote new.wrote old.write_faults new.write_faults → EndsUnasked status old new
unasked_row status old new same quiet (inl done) =
    subst (λ s. EndsUnasked s old new) (sym done.0) (record { gained = done.1; left = same; source_quiet = quiet; sink_quiet = done.2 })
unasked_row status old new same quiet (inr failed) =
    subst (λ s. EndsUnasked s old new) (sym failed.0) (record { rose = failed.2; part = failed.1; left = same; source_quiet = quiet })

pub unasked : (status : Status) (words : List (List ℕ)) (old new : Outside) → ¬ HaveLimit words → new.left ≡ old.left → new.read_faults ≡ old.read_faults
    → IsPut usage_line Status.Usage status old.wrote new.wrote old.write_faults new.write_faults → Ends status words old new
unasked status words old new none same quiet put = record {
  asked = λ limit are. absurd (none (limit, are));
  unasked = λ _. unasked_row status old new same quiet put;
}

-- ---- words that are one limit are no other

one_limit : (words : List (List ℕ)) (limit other : ℕ) → AreLimit words limit → AreLimit words other → limit ≡ other
one_limit words limit other h g =
    let both = sym h.0 ∙ g.0 in
    let digits : decimal limit ≡ decimal other = cc in
    decimal_injective limit other h.1 g.1 digits

pub asked : (limit : ℕ) (status : Status) (words : List (List ℕ)) (old new : Outside) → AreLimit words limit → EndsWithin limit status old new → Ends status words old new
asked limit status words old new are h = record {
  asked = λ other others. subst (λ l. EndsWithin l status old new) (one_limit words limit other are others) h;
  unasked = λ none. absurd (none (limit, are));
}

pub asked_complete : (limit : ℕ) (status : Status) (words : List (List ℕ)) (old new : Outside) → AreLimit words limit → EndsAsDecided limit status old new → IsComplete status words old new
asked_complete limit status words old new are h other others =
    subst (λ l. EndsAsDecided l status old new) (one_limit words limit other are others) h
