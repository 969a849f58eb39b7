-- Marks of the steps that a step reaches, set from the last step down.
use Rattle.std.proofs.Common.{◌≡◌, ◌≢◌, ◌↔◌, ℕ, suc, ◌+◌, ◌≤◌, ◌<◌, Bool, true, false, List, length, refl, sym, ◌∙◌, arith, Some, slice_get, subst, ◌⊎◌, inl, inr, get_or-set_same, get_or-set_other}
use Rattle.std.specs.Prelude.{slice_set, ◌||◌, ◌==◌}
use Rattle.std.specs.List.{list_any}
use Rattle.std.proofs.lemmas.Bool.Decides.{Decides-eqb}
use Rattle.count_core.specs.declared.step.Step.{Step}
use Rattle.refutations.specs.EarlierSteps.{AreEarlier}
use Rattle.refutations.specs.Cones.{is_to, AddsNamed, Names, Reaches, itself, onward, is_in}
use Rattle.refutations.proofs.EarlierSteps.{any_below}

-- What is marked is reached, the named step is marked, and what steps from i on name is marked where
-- they are.
pub record IsMarked (steps : List Step) (from : ℕ) (marks : List Bool) (i : ℕ) : Type 0 where
  pub sound : (n : ℕ) → is_in marks n ≡ true → Reaches steps from n
  pub start : is_in marks from ≡ true
  pub closed : (n m : ℕ) → i ≤ n → is_in marks n ≡ true → Names steps n m → is_in marks m ≡ true

-- ---- tests

or_cases : (x y : Bool) → (x || y) ≡ true → (x ≡ true) ⊎ (y ≡ true)
or_cases true y e = inl refl
or_cases false y e = inr e

or_left : (x y : Bool) → x ≡ true → (x || y) ≡ true
or_left true y e = refl
or_left false y e = cc

-- one test that passes is enough
pub or_right : (x y : Bool) → y ≡ true → (x || y) ≡ true
or_right true y e = refl
or_right false y e = e

cut : (i n : ℕ) → i ≤ n → (n ≡ i) ⊎ (suc i ≤ n)
cut i n le = go (n == i) refl
  where
    go : (b : Bool) → (n == i) ≡ b → (n ≡ i) ⊎ (suc i ≤ n)
    go true e = inl ((Decides-eqb n i).0 e)
    go false e =
        let ne : n ≢ i = λ q. (let yes : (n == i) ≡ true = (Decides-eqb n i).1 q in cc) in
        inr (omega arith)

-- ---- one turn after the other

-- the named step alone is marked
pub mark_start : (steps : List Step) (from : ℕ) (marks : List Bool) → from < length marks → ((n : ℕ) → ¬ (is_in marks n ≡ true)) → IsMarked steps from (slice_set marks from true) (from + 1)
mark_start steps from marks lt none = record {
  sound = λ n e. subst (Reaches steps from) (sym (only n e)) itself;
  start = get_or-set_same marks from true false lt;
  closed = λ n m le e names. (let q = only n e in absurd (omega arith));
}
  where
    only : (n : ℕ) → is_in (slice_set marks from true) n ≡ true → n ≡ from
    only n e = go (n == from) refl
      where
        go : (b : Bool) → (n == from) ≡ b → n ≡ from
        go true is = (Decides-eqb n from).0 is
        go false is =
            let ne : n ≢ from = λ q. (let yes : (n == from) ≡ true = (Decides-eqb n from).1 q in cc) in
            absurd (none n (sym (get_or-set_other marks from n true false ne) ∙ e))

-- the step i is marked, and what it names is marked too
pub mark_next : (steps : List Step) (from : ℕ) (marks new : List Bool) (i : ℕ) (s : Step) → AreEarlier steps → slice_get steps i ≡ Some s → IsMarked steps from marks (i + 1) → is_in marks i ≡ true → AddsNamed marks new s.hints → IsMarked steps from new i
mark_next steps from marks new i s earlier at h here is = record {
  sound = λ n e. elim (or_cases (is_in marks n) (list_any (is_to n) s.hints) (sym (is n) ∙ e)) [ inl old ↦ h.sound n old | inr any ↦ onward i n (h.sound i here) (s, at, any) ];
  start = stays from h.start;
  closed = λ n m le e names. elim (cut i n le) [ inl q ↦ by_step m (subst (λ k. Names steps k m) q names) | inr more ↦ by_old n m more e names ];
}
  where
    stays : (n : ℕ) → is_in marks n ≡ true → is_in new n ≡ true
    stays n e = is n ∙ or_left (is_in marks n) (list_any (is_to n) s.hints) e

    by_step : (m : ℕ) → Names steps i m → is_in new m ≡ true
    by_step m (t, there, any) =
        let same : s ≡ t = cc in
        is m ∙ or_right (is_in marks m) (list_any (is_to m) s.hints) (rw same any)

    by_old : (n m : ℕ) → suc i ≤ n → is_in new n ≡ true → Names steps n m → is_in new m ≡ true
    by_old n m more e names = elim (or_cases (is_in marks n) (list_any (is_to n) s.hints) (sym (is n) ∙ e)) [ inl old ↦ stays m (h.closed n m (omega arith) old names) | inr any ↦ (let lt = any_below i n s.hints (earlier i s at) any in absurd (omega arith)) ]

module _ (steps : List Step) (from : ℕ) (marks : List Bool) (h : IsMarked steps from marks 0) where
  complete : (n : ℕ) → Reaches steps from n → is_in marks n ≡ true
  complete n itself = h.start
  complete n (onward k m r names) = h.closed k m (omega arith) (complete k r) names

  -- at the end what is reached is marked, and nothing else
  pub mark_done : (n : ℕ) → (is_in marks n ≡ true) ↔ Reaches steps from n
  mark_done n = (h.sound n, complete n)
