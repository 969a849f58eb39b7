-- The failing hint that is reported of a step is its failing hint.
use Rattle.std.proofs.Common.{◌≡◌, ℕ, zero, suc, ◌+◌, ◌⊎◌, Bool, true, false, cond, List, [], ◌∷◌, length, take, slice_get, Option, Some, None, refl, sym, ap, ◌∙◌, subst, inl, inr, arith}
use Rattle.std.specs.Prelude.{◌==◌}
use Rattle.std.proofs.lemmas.Bool.Decides.{nat_tests}
use Rattle.count_core.specs.declared.count_rule.CountRule.{CountRule}
use Rattle.count_core.specs.declared.hint.Hint.{Hint}
use Rattle.count_core.specs.PartialAssignments.{PartialAssignment, conflicts, forces, forced_assignment}
use Rattle.count_core.specs.Steps.{rule_at, is_last, apply_hint, failing_from, failing_hint, assumed_negation, is_clause}
use Rattle.count_core.specs.FailingHints.{LeadTo, IsFaulty, FailAt, IsFailingHint, TellsFailingHint}

-- ---- the last hint by its number

same_last : (k m : ℕ) → (suc k + 1 == suc m) ≡ (k + 1 == m)
same_last k m = grind (arith, nat_tests)

one_more : (m : ℕ) → (zero + 1 == suc (suc m)) ≡ false
one_more m = grind (arith, nat_tests)

-- where the first hint is not the last, another comes after it
last_first : (hs : List Hint) → (zero + 1 == suc (length hs)) ≡ false → is_last hs ≡ false
last_first [] e = cc
last_first (y ∷ ys) e = refl

module _ (find : Hint → Option CountRule) where
  -- what stands at n: no hint, or a faulty one
  abbrev EndsAt : PartialAssignment → List Hint → ℕ → Type 0
  EndsAt q hints n = (n ≡ length hints) ⊎ ((h : Hint) × (slice_get hints n ≡ Some h) × IsFaulty find q h (n + 1 == length hints))

  ends_later : (x : Hint) (hs : List Hint) (q : PartialAssignment) (k : ℕ) → EndsAt q hs k → EndsAt q (x ∷ hs) (suc k)
  ends_later x hs q k (inl e) = inl (ap suc e)
  ends_later x hs q k (inr (h, at, faulty)) = inr (h, at, subst (IsFaulty find q h) (sym (same_last k (length hs))) faulty)

  ends_earlier : (x : Hint) (hs : List Hint) (q : PartialAssignment) (k : ℕ) → EndsAt q (x ∷ hs) (suc k) → EndsAt q hs k
  ends_earlier x hs q k (inl e) = inl (omega (arith, e))
  ends_earlier x hs q k (inr (h, at, faulty)) = inr (h, at, subst (IsFaulty find q h) (same_last k (length hs)) faulty)

  -- ---- hints that are numbered from i

  record FailFrom (p : PartialAssignment) (hints : List Hint) (i n : ℕ) : Type 0 where
    place : ℕ
    is_place : i + place ≡ n
    fails : FailAt find p hints place

  -- the first hint fails
  at_once : (p : PartialAssignment) (h : Hint) (hs : List Hint) (i n : ℕ) → i ≡ n → IsFaulty find p h (zero + 1 == suc (length hs)) → FailFrom p (h ∷ hs) i n
  at_once p h hs i n same faulty = record {
    place = zero;
    is_place = omega (arith, same);
    fails = record { reached = p; before = refl; after = inr (h, refl, faulty) };
  }

  -- the first hint forces without a conflict, and a later one fails
  later : (p : PartialAssignment) (h : Hint) (hs : List Hint) (i n : ℕ) (r : CountRule) → find h ≡ Some r → conflicts p r.lits r.lo r.hi ≡ false → forces p r.lits r.lo r.hi ≡ true
      → FailFrom (forced_assignment p r.lits r.lo r.hi) hs (i + 1) n → FailFrom p (h ∷ hs) i n
  later p h hs i n r found c f rest = record {
    place = suc rest.place;
    is_place = (let e = rest.is_place in omega (arith, e));
    fails = record { reached = rest.fails.reached; before = (r, found, c, f, rest.fails.before); after = ends_later h hs rest.fails.reached rest.place rest.fails.after };
  }

  -- what is reported is where the hints fail
  failing_told : (hs : List Hint) (p : PartialAssignment) (i n : ℕ) → failing_from find p hs i ≡ Some n → FailFrom p hs i n
  failing_told [] p i n e =
      let same : i ≡ n = cc in
      record { place = zero; is_place = omega (arith, same); fails = record { reached = p; before = refl; after = inl refl } }
  failing_told (h ∷ hs) p i n e = go (find h) refl (λ q g. failing_told hs q (i + 1) n g) e
    where
      conflict : (r : CountRule) → find h ≡ Some r → conflicts p r.lits r.lo r.hi ≡ true → (ys : List Hint) → cond (is_last ys) None (Some i) ≡ Some n → FailFrom p (h ∷ ys) i n
      conflict r found c [] e = cc
      conflict r found c (y ∷ ys) e = let same : i ≡ n = cc in at_once p h (y ∷ ys) i n same (inr (inl (r, found, c, one_more (length ys))))

      by_case : (r : CountRule) → find h ≡ Some r → ((q : PartialAssignment) → failing_from find q hs (i + 1) ≡ Some n → FailFrom q hs (i + 1) n) → (c f : Bool) → conflicts p r.lits r.lo r.hi ≡ c → forces p r.lits r.lo r.hi ≡ f
          → cond c (cond (is_last hs) None (Some i)) (cond f (failing_from find (forced_assignment p r.lits r.lo r.hi) hs (i + 1)) (Some i)) ≡ Some n → FailFrom p (h ∷ hs) i n
      by_case r found rest true f isc isf e = conflict r found isc hs e
      by_case r found rest false true isc isf e = later p h hs i n r found isc isf (rest (forced_assignment p r.lits r.lo r.hi) e)
      by_case r found rest false false isc isf e = let same : i ≡ n = cc in at_once p h hs i n same (inr (inr (r, found, isc, isf)))

      go : (o : Option CountRule) → find h ≡ o → ((q : PartialAssignment) → failing_from find q hs (i + 1) ≡ Some n → FailFrom q hs (i + 1) n) → apply_hint p o (is_last hs) i (λ q. failing_from find q hs (i + 1)) ≡ Some n → FailFrom p (h ∷ hs) i n
      go None found rest e = let same : i ≡ n = cc in at_once p h hs i n same (inl found)
      go (Some r) found rest e = by_case r found rest (conflicts p r.lits r.lo r.hi) (forces p r.lits r.lo r.hi) refl refl e

  -- a faulty first hint is reported
  first_told : (p : PartialAssignment) (h : Hint) (hs : List Hint) (i : ℕ) → IsFaulty find p h (zero + 1 == suc (length hs)) → failing_from find p (h ∷ hs) i ≡ Some i
  first_told p h hs i (inl none) = rw none refl
  first_told p h hs i (inr (inl (r, found, c, more))) = rw (found, c, last_first hs more) refl
  first_told p h hs i (inr (inr (r, found, c, f))) = rw (found, c, f) refl

  -- hints that fail at k are reported to fail there
  fails_told : (hs : List Hint) (p : PartialAssignment) (i k : ℕ) (q : PartialAssignment) → LeadTo find p (take k hs) q → EndsAt q hs k → failing_from find p hs i ≡ Some (i + k)
  fails_told [] p i zero q before after = ap Some (omega arith)
  fails_told [] p i (suc k) q before (inl e) = absurd (omega (arith, e))
  fails_told [] p i (suc k) q before (inr (h, at, faulty)) = cc
  fails_told (x ∷ hs) p i zero q before (inl e) = absurd (omega (arith, e))
  fails_told (x ∷ hs) p i zero q before (inr (h, at, faulty)) =
      let same : x ≡ h = cc in
      let here : i ≡ i + zero = omega arith in
      first_told p x hs i (subst (λ y. IsFaulty find p y (zero + 1 == suc (length hs))) (sym same) (subst (λ s. IsFaulty find s h (zero + 1 == suc (length hs))) (sym before) faulty)) ∙ ap Some here
  fails_told (x ∷ hs) p i (suc k) q (r, found, c, f, before) after =
      let on : (i + 1) + k ≡ i + suc k = omega arith in
      let rest = fails_told hs (forced_assignment p r.lits r.lo r.hi) (i + 1) k q before (ends_earlier x hs q k after) in
      rw (found, c, f) (rest ∙ ap Some on)

-- ---- the failing hint of a step

-- what is reported is the failing hint, and the other way
pub tells_failing_hint : TellsFailingHint
tells_failing_hint problem earlier s n = (there, back)
  where
    from_none : (k : ℕ) → 0 + k ≡ k
    from_none k = omega arith

    fails : FailFrom (rule_at problem earlier) (assumed_negation problem.atoms s.clause) s.hints 0 n → FailAt (rule_at problem earlier) (assumed_negation problem.atoms s.clause) s.hints n
    fails h = subst (FailAt (rule_at problem earlier) (assumed_negation problem.atoms s.clause) s.hints) (sym (from_none h.place) ∙ h.is_place) h.fails

    by_clause : (c : Bool) → is_clause problem s.clause ≡ c → cond c (failing_from (rule_at problem earlier) (assumed_negation problem.atoms s.clause) s.hints 0) (Some 0) ≡ Some n → IsFailingHint problem earlier s n
    by_clause true is e = inr (is, fails (failing_told (rule_at problem earlier) s.hints (assumed_negation problem.atoms s.clause) 0 n e))
    by_clause false is e = let same : n ≡ 0 = cc in inl (is, same)

    there : failing_hint problem earlier s ≡ Some n → IsFailingHint problem earlier s n
    there e = by_clause (is_clause problem s.clause) refl e

    back : IsFailingHint problem earlier s n → failing_hint problem earlier s ≡ Some n
    back (inl (is, same)) = rw is (ap Some (sym same))
    back (inr (is, h)) = rw is (fails_told (rule_at problem earlier) s.hints (assumed_negation problem.atoms s.clause) 0 n h.reached h.before h.after ∙ ap Some (from_none n))
