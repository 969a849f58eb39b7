-- What the answer of a check says of the list.
use Rattle.std.proofs.Common.{◌≡◌, ℕ, zero, suc, ◌+◌, List, [], ◌∷◌, ◌++◌, refl, ap, ◌∙◌, arith, Option, Some, None, slice_get, take, append_assoc, append-nil, add-zero}
use Rattle.count_core.specs.declared.step.Step.{Step}
use Rattle.count_core.specs.Problems.{Problem}
use Rattle.count_core.specs.Steps.{failing_hint, AreAcceptedAfter}
use Rattle.cert_checker.specs.declared.checked.Checked.TheVariants.{Accepted, Bad}
use Rattle.cert_checker.specs.Checks.{bad_or, first_bad, IsFirstBad}

module _ (problem : Problem) where
  -- ---- accepted

  -- where the answer is Accepted, each step is accepted
  pub all_accepted : (earlier steps : List Step) (n : ℕ) → first_bad problem earlier steps n ≡ Accepted → AreAcceptedAfter problem earlier steps
  all_accepted earlier [] n e = tt
  all_accepted earlier (s ∷ steps) n e = go (failing_hint problem earlier s) refl e (all_accepted (earlier ++ s ∷ []) steps (n + 1))
    where
      go : (o : Option ℕ) → failing_hint problem earlier s ≡ o → bad_or n o (first_bad problem (earlier ++ s ∷ []) steps (n + 1)) ≡ Accepted → (first_bad problem (earlier ++ s ∷ []) steps (n + 1) ≡ Accepted → AreAcceptedAfter problem (earlier ++ s ∷ []) steps) → AreAcceptedAfter problem earlier (s ∷ steps)
      go None is e rest = (is, rest e)
      go (Some h) is e rest = cc

  -- and the other way
  pub none_bad : (earlier steps : List Step) (n : ℕ) → AreAcceptedAfter problem earlier steps → first_bad problem earlier steps n ≡ Accepted
  none_bad earlier [] n h = refl
  none_bad earlier (s ∷ steps) n h = rw h.0 (none_bad (earlier ++ s ∷ []) steps (n + 1) h.1)

-- the first bad one, k steps on
record IsBadAfter (problem : Problem) (earlier steps : List Step) (k h : ℕ) : Type 0 where
  step : Step
  is_step : slice_get steps k ≡ Some step
  before : AreAcceptedAfter problem earlier (take k steps)
  fails : failing_hint problem (earlier ++ take k steps) step ≡ Some h

module _ (problem : Problem) where
  bad_is : (earlier steps : List Step) (n m h : ℕ) → first_bad problem earlier steps n ≡ Bad m h → (k : ℕ) × (m ≡ n + k) × IsBadAfter problem earlier steps k h
  bad_is earlier [] n m h e = cc
  bad_is earlier (s ∷ steps) n m h e = go (failing_hint problem earlier s) refl e (bad_is (earlier ++ s ∷ []) steps (n + 1) m h)
    where
      go : (o : Option ℕ) → failing_hint problem earlier s ≡ o → bad_or n o (first_bad problem (earlier ++ s ∷ []) steps (n + 1)) ≡ Bad m h → (first_bad problem (earlier ++ s ∷ []) steps (n + 1) ≡ Bad m h → (k : ℕ) × (m ≡ n + 1 + k) × IsBadAfter problem (earlier ++ s ∷ []) steps k h) → (k : ℕ) × (m ≡ n + k) × IsBadAfter problem earlier (s ∷ steps) k h
      go None is e rest =
          let (k, at, bad) = rest e in (
            suc k,
            omega arith,
            record {
              step = bad.step;
              is_step = bad.is_step;
              before = (is, bad.before);
              fails = rw append_assoc at bad.fails;
            },
          )
      go (Some g) is e rest =
          let here : n ≡ m = cc in
          let same : g ≡ h = cc in (
            zero,
            omega arith,
            record {
              step = s;
              is_step = refl;
              before = tt;
              fails = rw append-nil (is ∙ ap Some same);
            },
          )

  is_bad : (earlier steps : List Step) (n k h : ℕ) → IsBadAfter problem earlier steps k h → first_bad problem earlier steps n ≡ Bad (n + k) h
  is_bad earlier [] n k h b = let e = b.is_step in cc
  is_bad earlier (s ∷ steps) n zero h b =
      let same : s ≡ b.step = let e = b.is_step in cc in
      let fails : failing_hint problem earlier s ≡ Some h = rw same (rw append-nil at b.fails) in
      rw (fails, add-zero) refl
  is_bad earlier (s ∷ steps) n (suc k) h b =
      let rest = is_bad (earlier ++ s ∷ []) steps (n + 1) k h (record {
        step = b.step;
        is_step = b.is_step;
        before = b.before.1;
        fails = rw append_assoc b.fails;
      }) in
      let sum : n + 1 + k ≡ n + suc k = omega arith in
      rw (b.before.0, ← sum) rest

  -- where the answer is Bad, that step is the first bad one
  pub first_is_bad : (steps : List Step) (n h : ℕ) → first_bad problem [] steps 0 ≡ Bad n h → IsFirstBad problem steps n h
  first_is_bad steps n h e =
      let (k, at, bad) = bad_is [] steps 0 n h e in
      let same : n ≡ k = omega arith in
      rw same (record { step = bad.step; is_step = bad.is_step; before = bad.before; fails = bad.fails })

  -- and the other way
  pub bad_is_first : (steps : List Step) (n h : ℕ) → IsFirstBad problem steps n h → first_bad problem [] steps 0 ≡ Bad n h
  bad_is_first steps n h b =
      let sum : 0 + n ≡ n = omega arith in
      rw sum at (is_bad [] steps 0 n h (record { step = b.step; is_step = b.is_step; before = b.before; fails = b.fails }))
