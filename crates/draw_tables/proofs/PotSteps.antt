-- One more team is looked at.
use Rattle.std.proofs.Common.{◌≡◌, ℕ, zero, suc, ◌+◌, Bool, true, false, List, [], ◌∷◌, ◌++◌, drop, Some, slice_get, cond, arith, refl, ap, sym, ◌∙◌, append_assoc}
use Rattle.std.specs.Prelude.{◌==◌, ◌||◌, count_by}
use Rattle.std.specs.List.{list_any}
use Rattle.std.proofs.lemmas.List.Sums.{sum_by-cons}
use Rattle.std.proofs.lemmas.Bool.{eq-eqb, ne_eqb}
use Rattle.team_files.specs.declared.team.Team.{Team}
use Rattle.team_files.specs.declared.team_id.TeamId.{TeamId}
use Rattle.draw_tables.specs.Pots.{teams_from, pot_from}

-- ---- counts

count_next : {A : Type 0} (p : A → Bool) (x : A) (xs : List A) → count_by p (x ∷ xs) ≡ cond (p x) 1 0 + count_by p xs
count_next p x xs = sum_by-cons (λ y. cond (p y) 1 0) x xs

-- an item that passes counts
pub counts : {A : Type 0} (p : A → Bool) (x : A) (xs : List A) → p x ≡ true → count_by p (x ∷ xs) ≡ 1 + count_by p xs
counts p x xs e = count_next p x xs ∙ ap (λ b. cond b 1 0 + count_by p xs) e

-- another does not
pub counts_not : {A : Type 0} (p : A → Bool) (x : A) (xs : List A) → p x ≡ false → count_by p (x ∷ xs) ≡ count_by p xs
counts_not p x xs e = let h = count_next p x xs ∙ ap (λ b. cond b 1 0 + count_by p xs) e in omega (arith, h)

-- ---- one more team

next_team : (ts : List Team) (i : ℕ) (t : Team) → slice_get ts i ≡ Some t → drop i ts ≡ t ∷ drop (i + 1) ts
next_team [] i t e = cc
next_team (x ∷ ts) zero t e = cc
next_team (x ∷ ts) (suc i) t e = let n : suc i + 1 ≡ suc (i + 1) = omega arith in rw n (next_team ts i t e)

module _ (test : Team → Bool) (i : ℕ) (ts : List Team) (t : Team) (is : slice_get ts i ≡ Some t) where
  -- a team that passes the test stands first in what is left
  pub from_has : test t ≡ true → teams_from test i (drop i ts) ≡ record { 0 = i } ∷ teams_from test (i + 1) (drop (i + 1) ts)
  from_has e = rw (next_team ts i t is, e) refl

  -- another team does not
  pub from_lacks : test t ≡ false → teams_from test i (drop i ts) ≡ teams_from test (i + 1) (drop (i + 1) ts)
  from_lacks e = rw (next_team ts i t is, e) refl

  -- ---- whether some team that passes both tests is left

  module _ (second : TeamId → Bool) (whole : Bool) (so_far : list_any second (teams_from test i (drop i ts)) ≡ whole) where
    -- one is found
    pub any_found : test t ≡ true → second (record { 0 = i }) ≡ true → true ≡ whole
    any_found e holds = sym (ap (λ b. b || list_any second (teams_from test (i + 1) (drop (i + 1) ts))) holds) ∙ (rw (from_has e) at so_far)

    -- a team that fails the first test changes nothing
    pub any_passed : test t ≡ false → list_any second (teams_from test (i + 1) (drop (i + 1) ts)) ≡ whole
    any_passed e = rw (from_lacks e) at so_far

    -- nor does one that fails the second
    pub any_failed : test t ≡ true → second (record { 0 = i }) ≡ false → list_any second (teams_from test (i + 1) (drop (i + 1) ts)) ≡ whole
    any_failed e fails = sym (ap (λ b. b || list_any second (teams_from test (i + 1) (drop (i + 1) ts))) fails) ∙ (rw (from_has e) at so_far)

  -- ---- how many of the teams that pass the first test pass the second

  module _ (second : TeamId → Bool) (number whole : ℕ) (so_far : number + count_by second (teams_from test i (drop i ts)) ≡ whole) where
    -- one more counts
    pub count_more : test t ≡ true → second (record { 0 = i }) ≡ true → number + 1 + count_by second (teams_from test (i + 1) (drop (i + 1) ts)) ≡ whole
    count_more e holds =
        let step = counts second (record { 0 = i }) (teams_from test (i + 1) (drop (i + 1) ts)) holds in
        let here : number + count_by second (record { 0 = i } ∷ teams_from test (i + 1) (drop (i + 1) ts)) ≡ whole = rw (from_has e) at so_far in
        omega arith

    -- a team that fails the first test changes nothing
    pub count_passed : test t ≡ false → number + count_by second (teams_from test (i + 1) (drop (i + 1) ts)) ≡ whole
    count_passed e = rw (from_lacks e) at so_far

    -- nor does one that fails the second
    pub count_failed : test t ≡ true → second (record { 0 = i }) ≡ false → number + count_by second (teams_from test (i + 1) (drop (i + 1) ts)) ≡ whole
    count_failed e fails =
        let step = counts_not second (record { 0 = i }) (teams_from test (i + 1) (drop (i + 1) ts)) fails in
        let here : number + count_by second (record { 0 = i } ∷ teams_from test (i + 1) (drop (i + 1) ts)) ≡ whole = rw (from_has e) at so_far in
        omega arith

module _ (pot i : ℕ) (ts : List Team) (t : Team) (is : slice_get ts i ≡ Some t) where
  -- a team of the pot stands first in what is left
  pub pot_has : t.pot ≡ pot → pot_from pot i (drop i ts) ≡ record { 0 = i } ∷ pot_from pot (i + 1) (drop (i + 1) ts)
  pot_has e = from_has (λ u. u.pot == pot) i ts t is (eq-eqb t.pot pot e)

  -- another team does not
  pub pot_lacks : (t.pot ≡ pot → ⊥) → pot_from pot i (drop i ts) ≡ pot_from pot (i + 1) (drop (i + 1) ts)
  pot_lacks e = from_lacks (λ u. u.pot == pot) i ts t is (ne_eqb t.pot pot e)

  -- the teams so far with one more
  pub pot_pushed : (found new whole : List TeamId)
      → t.pot ≡ pot → new ≡ found ++ record { 0 = i } ∷ [] → found ++ pot_from pot i (drop i ts) ≡ whole
      → new ++ pot_from pot (i + 1) (drop (i + 1) ts) ≡ whole
  pot_pushed found new whole e new_is so_far = rw (new_is, append_assoc) (rw (pot_has e) at so_far)
