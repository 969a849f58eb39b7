-- How often a table gives a team.
use Rattle.std.proofs.Common.{◌≡◌, ◌≢◌, ℕ, zero, suc, ◌+◌, ◌≤◌, Bool, true, false, List, [], ◌∷◌, Some, slice_get, cond, arith, refl, ap, ◌∙◌}
use Rattle.std.specs.Prelude.{◌==◌}
use Rattle.std.proofs.lemmas.Bool.{eqb-true, eqb-false, eq-eqb}
use Rattle.std.proofs.lemmas.List.Sums.{sum_by-cons}
use Rattle.team_files.specs.declared.team_id.TeamId.{TeamId}
use Rattle.draw_tables.specs.Lists.{IsAmong}
use Rattle.draw_tables.specs.Verdicts.{times_given}
use Rattle.draw_tables.proofs.Lists.{same_item}
use Rattle.draw_tables.proofs.Numbers.{same_id}

-- one team more
one_more : (w t : TeamId) (ts : List TeamId) → times_given w (t ∷ ts) ≡ cond (t.0 == w.0) 1 0 + times_given w ts
one_more w t ts = sum_by-cons (λ (u : TeamId). cond (u.0 == w.0) 1 0) t ts

-- the team itself counts
pub it_counts : (w t : TeamId) (ts : List TeamId) → (t.0 == w.0) ≡ true → times_given w (t ∷ ts) ≡ 1 + times_given w ts
it_counts w t ts e = one_more w t ts ∙ ap (λ b. cond b 1 0 + times_given w ts) e

-- another team does not count
pub other_counts_not : (w t : TeamId) (ts : List TeamId) → (t.0 == w.0) ≡ false → times_given w (t ∷ ts) ≡ times_given w ts
other_counts_not w t ts e = let h = one_more w t ts ∙ ap (λ b. cond b 1 0 + times_given w ts) e in omega (arith, h)

zero_unless : (n : ℕ) → (n ≢ 0 → ⊥) → n ≡ 0
zero_unless zero h = refl
zero_unless (suc n) h = absurd (h (λ e. omega arith))

-- a team that counts is given
pub given_at : (w : TeamId) (ts : List TeamId) → times_given w ts ≢ 0 → IsAmong ts w
given_at w [] h = absurd (h refl)
given_at w (t ∷ ts) h = go (t.0 == w.0) refl (given_at w ts)
  where
    go : (b : Bool) → (t.0 == w.0) ≡ b → (times_given w ts ≢ 0 → IsAmong ts w) → IsAmong (t ∷ ts) w
    go true e later = (0, ap Some (same_id t w (eqb-true t.0 w.0 e)))
    go false e later = let found = later (λ z. h (other_counts_not w t ts e ∙ z)) in (suc found.0, found.1)

fewer_than : (w t : TeamId) (ts : List TeamId) → times_given w ts ≤ times_given w (t ∷ ts)
fewer_than w t ts = let h = one_more w t ts in omega arith

-- a team that is given counts
pub counts : (w : TeamId) (ts : List TeamId) (k : ℕ) → slice_get ts k ≡ Some w → 1 ≤ times_given w ts
counts w [] k e = cc
counts w (t ∷ ts) zero e = let h = it_counts w t ts (eq-eqb t.0 w.0 (ap (λ x. x.0) (same_item t w e))) in omega arith
counts w (t ∷ ts) (suc k) e = let h = counts w ts k e in let g = fewer_than w t ts in omega arith

-- a team that counts once is given once
pub once_at : (w : TeamId) (ts : List TeamId) → times_given w ts ≡ 1 → (i j : ℕ) → slice_get ts i ≡ Some w → slice_get ts j ≡ Some w → i ≡ j
once_at w [] one i j e f = cc
once_at w (t ∷ ts) one zero zero e f = refl
once_at w (t ∷ ts) one zero (suc j) e f =
    let h = it_counts w t ts (eq-eqb t.0 w.0 (ap (λ x. x.0) (same_item t w e))) in
    let g = counts w ts j f in
    absurd (omega arith)
once_at w (t ∷ ts) one (suc i) zero e f =
    let h = it_counts w t ts (eq-eqb t.0 w.0 (ap (λ x. x.0) (same_item t w f))) in
    let g = counts w ts i e in
    absurd (omega arith)
once_at w (t ∷ ts) one (suc i) (suc j) e f =
    let h = counts w ts i e in
    let g = fewer_than w t ts in
    ap suc (once_at w ts (omega arith) i j e f)

-- a team that is given once counts once
pub counts_once : (w : TeamId) (ts : List TeamId) (k : ℕ) → slice_get ts k ≡ Some w
    → ((i j : ℕ) → slice_get ts i ≡ Some w → slice_get ts j ≡ Some w → i ≡ j) → times_given w ts ≡ 1
counts_once w [] k e same = cc
counts_once w (t ∷ ts) k e same = go (t.0 == w.0) refl k e (counts_once w ts)
  where
    none_later : (t.0 == w.0) ≡ true → times_given w ts ≡ 0
    none_later is =
        let here = ap Some (same_id t w (eqb-true t.0 w.0 is)) in
        zero_unless (times_given w ts) (λ n. let found = given_at w ts n in let s = same 0 (suc found.0) here found.1 in omega arith)

    go : (b : Bool) → (t.0 == w.0) ≡ b → (k : ℕ) → slice_get (t ∷ ts) k ≡ Some w
        → ((k : ℕ) → slice_get ts k ≡ Some w → ((i j : ℕ) → slice_get ts i ≡ Some w → slice_get ts j ≡ Some w → i ≡ j) → times_given w ts ≡ 1)
        → times_given w (t ∷ ts) ≡ 1
    go true is k e later = let h = it_counts w t ts is in let z = none_later is in omega arith
    go false is zero e later = absurd (eqb-false t.0 w.0 is (ap (λ x. x.0) (same_item t w e)))
    go false is (suc k) e later =
        other_counts_not w t ts is ∙ later k e (λ i j f g. let s = same (suc i) (suc j) f g in omega arith)
