-- Bytes are the text of an inquiry that may be asked, or they are refused, and not both.
use Rattle.std.proofs.Common.{◌≡◌, ℕ, ◌≤◌, List, length, take, Some, None, inl, inr, refl, sym, subst, ◌∙◌, arith}
use Rattle.count_core.specs.declared.lit.Lit.{Lit}
use Rattle.count_core.specs.declared.count_rule.CountRule.{CountRule}
use Rattle.count_core.specs.Problems.{Problem, first_fault, problem_of}
use Rattle.count_core.proofs.Lists.{each_at}
use Rattle.list_texts.proofs.Lists.{one_inquiry}
use Rattle.solve.specs.declared.questions.QuestionFault.{QuestionFault}
use Rattle.solve.specs.declared.questions.QuestionFault.TheVariants.{AtomRange, RepeatedAtom}
use Rattle.solve.specs.declared.status.Status.{Status}
use Rattle.solve.specs.Questions.{IsAskable, AreAskable, HasFault, IsFirstFaulty}
use Rattle.solve.specs.Reports.{IsProblemWhere, IsInquiryWhere, MayBeAsked, IsAskableText, TellsFault, TellsQuestion, TellsWhyNot, IsAnswering, IsRefusalOf, IsReportOf}
use Rattle.solve.specs.Endings.{IsDecided}

-- a question that may be asked has no fault
no_fault : (atoms : ℕ) (lits : List Lit) (fault : QuestionFault) → IsAskable atoms lits → HasFault atoms lits fault → ⊥
no_fault atoms lits AtomRange may fault = let clash = sym may.within ∙ fault in cc
no_fault atoms lits RepeatedAtom may fault = fault.1 may.distinct

none_faulty : (atoms : ℕ) (questions : List (List Lit)) (n : ℕ) (fault : QuestionFault) → AreAskable atoms questions → IsFirstFaulty atoms questions n fault → ⊥
none_faulty atoms questions n fault may first = no_fault atoms first.lits fault (each_at (IsAskable atoms) questions n first.lits may first.is_there) first.fails

-- an inquiry that may be asked is not refused
not_both : (atoms : ℕ) (rules : List CountRule) (questions : List (List Lit)) (text : List ℕ) → IsProblemWhere MayBeAsked atoms rules questions → TellsWhyNot text atoms rules questions → ⊥
not_both atoms rules questions text may (inl told) = let clash = sym may.no_fault ∙ told.1 in cc
not_both atoms rules questions text may (inr told) = none_faulty atoms questions told.is_so.0 told.is_so.1 may.is_so told.is_so.2

module _ (bytes text : List ℕ) where
  -- of two that are said of bytes, both are said of one inquiry
  same_inquiry : (P Q : ℕ → List CountRule → List (List Lit) → Type 0) → IsInquiryWhere P bytes → IsInquiryWhere Q bytes
      → (atoms : ℕ) × (rules : List CountRule) × (questions : List (List Lit)) × P atoms rules questions × Q atoms rules questions
  same_inquiry P Q h g =
      let same = one_inquiry bytes g.0 g.1 g.2 g.3 h.0 h.1 h.2 h.3 in
      (g.0, g.1, g.2, subst (λ (l : ℕ × List CountRule × List (List Lit)). P l.0 l.1 l.2) (λ i. (same.0 i, same.1 i, same.2 i)) h.4, g.4)

  not_refused : IsAskableText bytes → IsRefusalOf bytes text → ⊥
  not_refused may (inl told) = told.0 may.0 may.1 may.2 may.3
  not_refused may (inr told) =
      let both = same_inquiry (IsProblemWhere MayBeAsked) (TellsWhyNot text) may told in
      not_both both.0 both.1 both.2 text both.3 both.4

  answered_may : IsAnswering bytes text → IsAskableText bytes
  answered_may h = (h.0, h.1, h.2, h.3, record { no_fault = h.4.no_fault; is_so = h.4.is_so.may })

  -- ---- the bytes decide for the status of the report alone

  answer_decides : (limit : ℕ) (called : Status) → length bytes ≤ limit → IsAnswering bytes text → IsDecided limit bytes called → Status.Answered ≡ called
  answer_decides limit Status.Answered fits is decided = refl
  answer_decides limit Status.Refused fits is decided = absurd (decided.1 (answered_may is))
  answer_decides limit Status.TooLong fits is decided = absurd (omega arith)
  answer_decides limit called fits is decided = absurd decided

  refusal_decides : (limit : ℕ) (called : Status) → length bytes ≤ limit → IsRefusalOf bytes text → IsDecided limit bytes called → Status.Refused ≡ called
  refusal_decides limit Status.Refused fits is decided = refl
  refusal_decides limit Status.Answered fits is decided = absurd (not_refused decided.1 is)
  refusal_decides limit Status.TooLong fits is decided = absurd (omega arith)
  refusal_decides limit called fits is decided = absurd decided

  pub report_decides : (limit : ℕ) (wanted called : Status) → length bytes ≤ limit → IsReportOf bytes wanted text → IsDecided limit bytes called → wanted ≡ called
  report_decides limit Status.Answered called fits is decided = answer_decides limit called fits is decided
  report_decides limit Status.Refused called fits is decided = refusal_decides limit called fits is decided
  report_decides limit wanted called fits is decided = absurd is
