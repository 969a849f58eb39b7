-- One line of each kind stands in front of a text.
use Rattle.std.proofs.Common.{◌≡◌, ℕ, List, [], ◌∷◌, ◌++◌, drop, refl, sym, ap, ◌∙◌, append_assoc}
use Rattle.std.specs.Prelude.{flat_map}
use Rattle.std.specs.Fmt.{decimal}
use Rattle.std.specs.List.{AllByRecursion}
use Rattle.count_core.specs.declared.lit.Lit.{Lit}
use Rattle.count_core.specs.declared.hint.Hint.{Hint}
use Rattle.count_core.specs.declared.count_rule.CountRule.{CountRule}
use Rattle.count_core.specs.declared.step.Step.{Step}
use Rattle.list_texts.specs.ListTexts.{FitsNumber, FitsLit, FitsHint, FitsRule, FitsStep, FitsQuestion, lit_text, hint_text, atoms_line, rule_line, step_line, question_line}
use Rattle.list_texts.specs.Fronts.{EndsNumber, EndsLine, spaced_number, bounds_text, FitBounds, IsByteAt, NoByteAt, IsSlashAt, NoSlashAt, IsSpacedNumberAt, NoSpacedNumberAt, AreLitsAt, AreHintsAt, AreAtomsAt, NoAtomsAt, AreBoundsAt, NoBoundsAt, IsRuleAt, NoRuleAt, IsStepAt, NoStepAt, IsQuestionAt, NoQuestionAt}
use Rattle.list_texts.proofs.Fronts.{IsOne, ends_all, are_all, all_of}
use Rattle.list_texts.proofs.WordFronts.{one_spaced, space_ends, feed_ends, one_lit, after_lit, no_lit_at_slash, no_lit_at_feed, one_hint, after_hint, no_hint_at_feed}

-- ---- literals and hints, as far as they go

abbrev pub lits_text : List Lit → List ℕ
lits_text lits = flat_map lit_text lits

abbrev pub hints_text : List Hint → List ℕ
hints_text hints = flat_map hint_text hints

lits_to : (lits others : List Lit) (text r s : List ℕ) → AllByRecursion FitsLit lits → text ≡ lits_text lits ++ (10 ∷ r) → AreLitsAt text others s → (lits ≡ others) × (10 ∷ r ≡ s)
lits_to lits others text r s fits e h = are_all lit_text FitsLit EndsNumber one_lit after_lit text lits others (10 ∷ r) s fits (feed_ends r) (no_lit_at_feed r) e h

lits_to_slash : (lits others : List Lit) (text r s : List ℕ) → AllByRecursion FitsLit lits → text ≡ lits_text lits ++ (32 ∷ 47 ∷ r) → AreLitsAt text others s → (lits ≡ others) × (32 ∷ 47 ∷ r ≡ s)
lits_to_slash lits others text r s fits e h = are_all lit_text FitsLit EndsNumber one_lit after_lit text lits others (32 ∷ 47 ∷ r) s fits (space_ends (47 ∷ r)) (no_lit_at_slash r) e h

hints_to : (hints others : List Hint) (text r s : List ℕ) → AllByRecursion FitsHint hints → text ≡ hints_text hints ++ (10 ∷ r) → AreHintsAt text others s → (hints ≡ others) × (10 ∷ r ≡ s)
hints_to hints others text r s fits e h = are_all hint_text FitsHint EndsNumber one_hint after_hint text hints others (10 ∷ r) s fits (feed_ends r) (no_hint_at_feed r) e h

lits_before : (lits : List Lit) (r : List ℕ) → AllByRecursion FitsLit lits → AreLitsAt (lits_text lits ++ (10 ∷ r)) lits (10 ∷ r)
lits_before lits r fits = all_of lit_text FitsLit EndsNumber one_lit after_lit lits (10 ∷ r) fits (feed_ends r) (no_lit_at_feed r)

lits_before_slash : (lits : List Lit) (r : List ℕ) → AllByRecursion FitsLit lits → AreLitsAt (lits_text lits ++ (32 ∷ 47 ∷ r)) lits (32 ∷ 47 ∷ r)
lits_before_slash lits r fits = all_of lit_text FitsLit EndsNumber one_lit after_lit lits (32 ∷ 47 ∷ r) fits (space_ends (47 ∷ r)) (no_lit_at_slash r)

hints_before : (hints : List Hint) (r : List ℕ) → AllByRecursion FitsHint hints → AreHintsAt (hints_text hints ++ (10 ∷ r)) hints (10 ∷ r)
hints_before hints r fits = all_of hint_text FitsHint EndsNumber one_hint after_hint hints (10 ∷ r) fits (feed_ends r) (no_hint_at_feed r)

-- ---- the line of the number of atoms

atoms_apart : (n : ℕ) (rest : List ℕ) → atoms_line n ++ rest ≡ 112 ∷ (spaced_number n ++ (10 ∷ rest))
atoms_apart n rest = ap (λ l. 112 ∷ 32 ∷ l) (append_assoc (decimal n) (10 ∷ []) rest)

number_in_atoms : (text : List ℕ) (n : ℕ) (left rest : List ℕ) → IsByteAt 112 text left → AreAtomsAt text n rest → IsSpacedNumberAt left n (10 ∷ rest)
number_in_atoms text n left rest is h = record { whole = ap (drop 1) (sym is ∙ h.whole ∙ atoms_apart n rest); fits = h.fits; ends = feed_ends rest }

pub no_atoms : (text : List ℕ) → NoByteAt 112 text → NoAtomsAt text
no_atoms text none n rest h = none (spaced_number n ++ (10 ∷ rest)) (h.whole ∙ atoms_apart n rest)

pub no_atoms_number : (text left : List ℕ) → IsByteAt 112 text left → NoSpacedNumberAt left → NoAtomsAt text
no_atoms_number text left is none n rest h = none n (10 ∷ rest) (number_in_atoms text n left rest is h)

pub no_atoms_end : (text left : List ℕ) (n : ℕ) (after : List ℕ) → IsByteAt 112 text left → IsSpacedNumberAt left n after → NoByteAt 10 after → NoAtomsAt text
no_atoms_end text left n after is number none m rest h = none rest (sym (one_spaced left m n (10 ∷ rest) after (number_in_atoms text m left rest is h) number).1)

pub atoms_stand : (text left : List ℕ) (n : ℕ) (after rest : List ℕ) → IsByteAt 112 text left → IsSpacedNumberAt left n after → IsByteAt 10 after rest → AreAtomsAt text n rest
atoms_stand text left n after rest is number end = record {
  whole = is ∙ ap (λ l. 112 ∷ l) (number.whole ∙ ap (λ l. spaced_number n ++ l) end) ∙ sym (atoms_apart n rest);
  fits = number.fits;
  ends = tt;
}

pub one_atoms : IsOne atoms_line FitsNumber EndsLine
one_atoms text n m r s h g =
    let left = spaced_number n ++ (10 ∷ r) in
    let is : IsByteAt 112 text left = h.whole ∙ atoms_apart n r in
    let both = one_spaced left n m (10 ∷ r) (10 ∷ s) (number_in_atoms text n left r is h) (number_in_atoms text m left s is g) in
    (both.0, ap (drop 1) both.1)

-- ---- lo and hi

bounds_apart : (p : ℕ × ℕ) (rest : List ℕ) → bounds_text p ++ rest ≡ 114 ∷ (spaced_number p.0 ++ (spaced_number p.1 ++ rest))
bounds_apart p rest = ap (λ l. 114 ∷ 32 ∷ l) (append_assoc (decimal p.0) (32 ∷ decimal p.1) rest)

lo_in_bounds : (text left : List ℕ) (p : ℕ × ℕ) (rest : List ℕ) → IsByteAt 114 text left → AreBoundsAt text p rest → IsSpacedNumberAt left p.0 (spaced_number p.1 ++ rest)
lo_in_bounds text left p rest is h =
    record { whole = ap (drop 1) (sym is ∙ h.whole ∙ bounds_apart p rest); fits = h.fits.0; ends = space_ends (decimal p.1 ++ rest) }

hi_in_bounds : (p : ℕ × ℕ) (rest : List ℕ) → FitBounds p → EndsNumber rest → IsSpacedNumberAt (spaced_number p.1 ++ rest) p.1 rest
hi_in_bounds p rest fits ends = record { whole = refl; fits = fits.1; ends = ends }

pub no_bounds : (text : List ℕ) → NoByteAt 114 text → NoBoundsAt text
no_bounds text none p rest h = none (spaced_number p.0 ++ (spaced_number p.1 ++ rest)) (h.whole ∙ bounds_apart p rest)

pub no_lo : (text left : List ℕ) → IsByteAt 114 text left → NoSpacedNumberAt left → NoBoundsAt text
no_lo text left is none p rest h = none p.0 (spaced_number p.1 ++ rest) (lo_in_bounds text left p rest is h)

pub no_hi : (text left : List ℕ) (lo : ℕ) (after : List ℕ) → IsByteAt 114 text left → IsSpacedNumberAt left lo after → NoSpacedNumberAt after → NoBoundsAt text
no_hi text left lo after is number none p rest h =
    let same = one_spaced left p.0 lo (spaced_number p.1 ++ rest) after (lo_in_bounds text left p rest is h) number in
    none p.1 rest (record { whole = sym same.1; fits = h.fits.1; ends = h.ends })

pub bounds_stand : (text left : List ℕ) (lo : ℕ) (after : List ℕ) (hi : ℕ) (rest : List ℕ) → IsByteAt 114 text left → IsSpacedNumberAt left lo after → IsSpacedNumberAt after hi rest → AreBoundsAt text (lo, hi) rest
bounds_stand text left lo after hi rest is first second = record {
  whole = is ∙ ap (λ l. 114 ∷ l) (first.whole ∙ ap (λ l. spaced_number lo ++ l) second.whole) ∙ sym (bounds_apart (lo, hi) rest);
  fits = (first.fits, second.fits);
  ends = second.ends;
}

one_bounds : IsOne bounds_text FitBounds EndsNumber
one_bounds text p q r s h g =
    let left = spaced_number p.0 ++ (spaced_number p.1 ++ r) in
    let is : IsByteAt 114 text left = h.whole ∙ bounds_apart p r in
    let lo = one_spaced left p.0 q.0 (spaced_number p.1 ++ r) (spaced_number q.1 ++ s) (lo_in_bounds text left p r is h) (lo_in_bounds text left q s is g) in
    let hi = one_spaced (spaced_number p.1 ++ r) p.1 q.1 r s (hi_in_bounds p r h.fits h.ends) (record { whole = lo.1; fits = g.fits.1; ends = g.ends }) in
    ((λ i. (lo.0 i, hi.0 i)), hi.1)

-- ---- the line of a rule

lits_end : (lits : List Lit) (rest : List ℕ) → EndsNumber (lits_text lits ++ (10 ∷ rest))
lits_end lits rest = ends_all lit_text FitsLit EndsNumber one_lit after_lit lits (10 ∷ rest) (feed_ends rest)

rule_apart : (rule : CountRule) (rest : List ℕ) → rule_line rule ++ rest ≡ bounds_text (rule.lo, rule.hi) ++ (lits_text rule.lits ++ (10 ∷ rest))
rule_apart rule rest =
    let lo = decimal rule.lo in
    let hi = decimal rule.hi in
    let lits = lits_text rule.lits in
    ap (λ l. 114 ∷ 32 ∷ l)
    (append_assoc lo (32 ∷ (hi ++ (lits ++ (10 ∷ [])))) rest
    ∙ ap (λ l. lo ++ (32 ∷ l)) (append_assoc hi (lits ++ (10 ∷ [])) rest ∙ ap (λ l. hi ++ l) (append_assoc lits (10 ∷ []) rest))
    ∙ sym (append_assoc lo (32 ∷ hi) (lits ++ (10 ∷ rest))))

bounds_in_rule : (text : List ℕ) (rule : CountRule) (rest : List ℕ) → IsRuleAt text rule rest → AreBoundsAt text (rule.lo, rule.hi) (lits_text rule.lits ++ (10 ∷ rest))
bounds_in_rule text rule rest h = record { whole = h.whole ∙ rule_apart rule rest; fits = (h.fits.lo, h.fits.hi); ends = lits_end rule.lits rest }

pub no_rule : (text : List ℕ) → NoBoundsAt text → NoRuleAt text
no_rule text none rule rest h = none (rule.lo, rule.hi) (lits_text rule.lits ++ (10 ∷ rest)) (bounds_in_rule text rule rest h)

pub no_rule_end : (text : List ℕ) (p : ℕ × ℕ) (left : List ℕ) (lits : List Lit) (after : List ℕ) → AreBoundsAt text p left → AreLitsAt left lits after → NoByteAt 10 after → NoRuleAt text
no_rule_end text p left lits after bounds are none rule rest h =
    let same = one_bounds text (rule.lo, rule.hi) p (lits_text rule.lits ++ (10 ∷ rest)) left (bounds_in_rule text rule rest h) bounds in
    none rest (sym (lits_to rule.lits lits left rest after h.fits.lits (sym same.1) are).1)

pub rule_stands : (text : List ℕ) (lo hi : ℕ) (left : List ℕ) (lits : List Lit) (after rest : List ℕ) → AreBoundsAt text (lo, hi) left → AreLitsAt left lits after → IsByteAt 10 after rest
    → IsRuleAt text (record { lits = lits; lo = lo; hi = hi }) rest
rule_stands text lo hi left lits after rest bounds are end = record {
  whole = bounds.whole ∙ ap (λ l. bounds_text (lo, hi) ++ l) (are.some.whole ∙ ap (λ l. lits_text lits ++ l) end) ∙ sym (rule_apart (record { lits = lits; lo = lo; hi = hi }) rest);
  fits = record { lo = bounds.fits.0; hi = bounds.fits.1; lits = are.some.fits };
  ends = tt;
}

pub one_rule : IsOne rule_line FitsRule EndsLine
one_rule text a b r s h g =
    let bounds = one_bounds text (a.lo, a.hi) (b.lo, b.hi) (lits_text a.lits ++ (10 ∷ r)) (lits_text b.lits ++ (10 ∷ s)) (bounds_in_rule text a r h) (bounds_in_rule text b s g) in
    let lits = lits_to a.lits b.lits (lits_text b.lits ++ (10 ∷ s)) r (10 ∷ s) h.fits.lits (sym bounds.1) (lits_before b.lits s g.fits.lits) in
    ((λ i. record { lits = lits.0 i; lo = (bounds.0 i).0; hi = (bounds.0 i).1 }), ap (drop 1) lits.1)

-- ---- the line of a step

step_apart : (step : Step) (rest : List ℕ) → step_line step ++ rest ≡ 115 ∷ (lits_text step.clause ++ (32 ∷ 47 ∷ (hints_text step.hints ++ (10 ∷ rest))))
step_apart step rest =
    let clause = lits_text step.clause in
    let hints = hints_text step.hints in
    ap (λ l. 115 ∷ l) (append_assoc clause (32 ∷ 47 ∷ (hints ++ (10 ∷ []))) rest ∙ ap (λ l. clause ++ (32 ∷ 47 ∷ l)) (append_assoc hints (10 ∷ []) rest))

clause_in_step : (text left : List ℕ) (step : Step) (rest : List ℕ) → IsByteAt 115 text left → IsStepAt text step rest → left ≡ lits_text step.clause ++ (32 ∷ 47 ∷ (hints_text step.hints ++ (10 ∷ rest)))
clause_in_step text left step rest is h = ap (drop 1) (sym is ∙ h.whole ∙ step_apart step rest)

pub no_step : (text : List ℕ) → NoByteAt 115 text → NoStepAt text
no_step text none step rest h = none (lits_text step.clause ++ (32 ∷ 47 ∷ (hints_text step.hints ++ (10 ∷ rest)))) (h.whole ∙ step_apart step rest)

pub no_step_slash : (text left : List ℕ) (clause : List Lit) (after : List ℕ) → IsByteAt 115 text left → AreLitsAt left clause after → NoSlashAt after → NoStepAt text
no_step_slash text left clause after is lits none step rest h =
    let same = lits_to_slash step.clause clause left (hints_text step.hints ++ (10 ∷ rest)) after h.fits.clause (clause_in_step text left step rest is h) lits in
    none (hints_text step.hints ++ (10 ∷ rest)) (sym same.1)

pub no_step_end : (text left : List ℕ) (clause : List Lit) (after behind : List ℕ) (hints : List Hint) (end : List ℕ) → IsByteAt 115 text left → AreLitsAt left clause after → IsSlashAt after behind → AreHintsAt behind hints end → NoByteAt 10 end → NoStepAt text
no_step_end text left clause after behind hints end is lits slash are none step rest h =
    let same = lits_to_slash step.clause clause left (hints_text step.hints ++ (10 ∷ rest)) after h.fits.clause (clause_in_step text left step rest is h) lits in
    none rest (sym (hints_to step.hints hints behind rest end h.fits.hints (ap (drop 2) (sym slash ∙ sym same.1)) are).1)

pub step_stands : (text left : List ℕ) (clause : List Lit) (after behind : List ℕ) (hints : List Hint) (end rest : List ℕ) → IsByteAt 115 text left → AreLitsAt left clause after → IsSlashAt after behind → AreHintsAt behind hints end → IsByteAt 10 end rest
    → IsStepAt text (record { clause = clause; hints = hints }) rest
step_stands text left clause after behind hints end rest is lits slash are feed = record {
  whole = is ∙ ap (λ l. 115 ∷ l) (lits.some.whole ∙ ap (λ l. lits_text clause ++ l) (slash ∙ ap (λ l. 32 ∷ 47 ∷ l) (are.some.whole ∙ ap (λ l. hints_text hints ++ l) feed)))
      ∙ sym (step_apart (record { clause = clause; hints = hints }) rest);
  fits = record { clause = lits.some.fits; hints = are.some.fits };
  ends = tt;
}

pub one_step : IsOne step_line FitsStep EndsLine
one_step text a b r s h g =
    let left = lits_text b.clause ++ (32 ∷ 47 ∷ (hints_text b.hints ++ (10 ∷ s))) in
    let is : IsByteAt 115 text left = g.whole ∙ step_apart b s in
    let clause = lits_to_slash a.clause b.clause left (hints_text a.hints ++ (10 ∷ r)) (32 ∷ 47 ∷ (hints_text b.hints ++ (10 ∷ s))) h.fits.clause (clause_in_step text left a r is h) (lits_before_slash b.clause (hints_text b.hints ++ (10 ∷ s)) g.fits.clause) in
    let hints = hints_to a.hints b.hints (hints_text b.hints ++ (10 ∷ s)) r (10 ∷ s) h.fits.hints (ap (drop 2) (sym clause.1)) (hints_before b.hints s g.fits.hints) in
    ((λ i. record { clause = clause.0 i; hints = hints.0 i }), ap (drop 1) hints.1)

-- ---- the line of a question

question_apart : (lits : List Lit) (rest : List ℕ) → question_line lits ++ rest ≡ 113 ∷ (lits_text lits ++ (10 ∷ rest))
question_apart lits rest = ap (λ l. 113 ∷ l) (append_assoc (lits_text lits) (10 ∷ []) rest)

lits_in_question : (text left : List ℕ) (lits : List Lit) (rest : List ℕ) → IsByteAt 113 text left → IsQuestionAt text lits rest → left ≡ lits_text lits ++ (10 ∷ rest)
lits_in_question text left lits rest is h = ap (drop 1) (sym is ∙ h.whole ∙ question_apart lits rest)

pub no_question : (text : List ℕ) → NoByteAt 113 text → NoQuestionAt text
no_question text none lits rest h = none (lits_text lits ++ (10 ∷ rest)) (h.whole ∙ question_apart lits rest)

pub no_question_end : (text left : List ℕ) (lits : List Lit) (after : List ℕ) → IsByteAt 113 text left → AreLitsAt left lits after → NoByteAt 10 after → NoQuestionAt text
no_question_end text left lits after is are none others rest h =
    none rest (sym (lits_to others lits left rest after h.fits (lits_in_question text left others rest is h) are).1)

pub question_stands : (text left : List ℕ) (lits : List Lit) (after rest : List ℕ) → IsByteAt 113 text left → AreLitsAt left lits after → IsByteAt 10 after rest → IsQuestionAt text lits rest
question_stands text left lits after rest is are end = record {
  whole = is ∙ ap (λ l. 113 ∷ l) (are.some.whole ∙ ap (λ l. lits_text lits ++ l) end) ∙ sym (question_apart lits rest);
  fits = are.some.fits;
  ends = tt;
}

pub one_question : IsOne question_line FitsQuestion EndsLine
one_question text a b r s h g =
    let left = lits_text b ++ (10 ∷ s) in
    let is : IsByteAt 113 text left = g.whole ∙ question_apart b s in
    let lits = lits_to a b left r (10 ∷ s) h.fits (lits_in_question text left a r is h) (lits_before b s g.fits) in
    (lits.0, ap (drop 1) lits.1)
