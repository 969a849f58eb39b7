-- Which teams stand in a pot, and among those of it that have a property.
use Rattle.std.proofs.Common.{◌≡◌, ℕ, zero, suc, ◌+◌, Bool, true, false, List, [], ◌∷◌, map, Some, slice_get, arith, refl, ap, sym, ◌∙◌, add-zero}
use Rattle.std.specs.Prelude.{filter, ◌==◌, if◌then◌else◌}
use Rattle.std.proofs.lemmas.Bool.{eqb-true, eq-eqb}
use Rattle.team_files.specs.declared.team.Team.{Team}
use Rattle.team_files.specs.declared.team_id.TeamId.{TeamId}
use Rattle.draw_tables.specs.declared.moves.Choice.{Choice}
use Rattle.draw_tables.specs.Lists.{IsAmong}
use Rattle.draw_tables.specs.Pots.{pot_from}
use Rattle.draw_tables.proofs.Lists.{none_among}

-- ---- one more item, where the test holds

module _ {A : Type 0} (x : A) (xs : List A) where
  here : (b : Bool) → b ≡ true → IsAmong (if b then x ∷ xs else xs) x
  here true e = (0, refl)
  here false e = cc

  later : (b : Bool) (y : A) → IsAmong xs y → IsAmong (if b then x ∷ xs else xs) y
  later true y h = (suc h.0, h.1)
  later false y h = h

-- ---- the teams of a pot

-- a team of the pot stands in it
pub pot_among : (pot i : ℕ) (ts : List Team) (k : ℕ) (t : Team) → slice_get ts k ≡ Some t → t.pot ≡ pot → IsAmong (pot_from pot i ts) (record { 0 = i + k })
pot_among pot i [] k t e p = cc
pot_among pot i (u ∷ ts) zero t e p =
    let same : u ≡ t = cc in
    let is : u.pot ≡ pot = ap (λ v. v.pot) same ∙ p in
    rw add-zero (here (record { 0 = i }) (pot_from pot (i + 1) ts) (u.pot == pot) (eq-eqb u.pot pot is))
pot_among pot i (u ∷ ts) (suc k) t e p =
    let n : i + 1 + k ≡ i + suc k = omega arith in
    let found = rw n at (pot_among pot (i + 1) ts k t e p) in
    later (record { 0 = i }) (pot_from pot (i + 1) ts) (u.pot == pot) (record { 0 = i + suc k }) found

-- the team stands at this number, and is of the pot
pub record StandsIn (pot i : ℕ) (ts : List Team) (x : TeamId) (k : ℕ) (t : Team) : Type 0 where
  pub number : x.0 ≡ i + k
  pub stands : slice_get ts k ≡ Some t
  pub pot_is : t.pot ≡ pot

-- what stands in a pot is a team of it
pub among_pot : (pot i : ℕ) (ts : List Team) (x : TeamId) → IsAmong (pot_from pot i ts) x → (k : ℕ) × (t : Team) × StandsIn pot i ts x k t
among_pot pot i [] x h = absurd (none_among x h)
among_pot pot i (u ∷ ts) x h = go (λ g. among_pot pot (i + 1) ts x g) (u.pot == pot) refl h.0 h.1
  where
    after : (k : ℕ) × (t : Team) × StandsIn pot (i + 1) ts x k t → (k : ℕ) × (t : Team) × StandsIn pot i (u ∷ ts) x k t
    after g = (suc g.0, g.1, record { number = omega (arith, g.2.number); stands = g.2.stands; pot_is = g.2.pot_is })

    go : (IsAmong (pot_from pot (i + 1) ts) x → (k : ℕ) × (t : Team) × StandsIn pot (i + 1) ts x k t)
        → (b : Bool) → (u.pot == pot) ≡ b → (k : ℕ) → slice_get (if b then record { 0 = i } ∷ pot_from pot (i + 1) ts else pot_from pot (i + 1) ts) k ≡ Some x
        → (k : ℕ) × (t : Team) × StandsIn pot i (u ∷ ts) x k t
    go found false is k e = after (found (k, e))
    go found true is (suc k) e = after (found (k, e))
    go found true is zero e =
        let same : record { 0 = i } ≡ x = cc in
        let number : i ≡ x.0 = ap (λ y. y.0) same in
        (0, u, record { number = omega arith; stands = refl; pot_is = eqb-true u.pot pot is })

-- ---- those that have a property

-- an item with the property is kept
pub kept_among : {A : Type 0} (p : A → Bool) (xs : List A) (x : A) → IsAmong xs x → p x ≡ true → IsAmong (filter p xs) x
kept_among {A = A} p xs x h is = at xs h.0 h.1
  where
    at : (ys : List A) (k : ℕ) → slice_get ys k ≡ Some x → IsAmong (filter p ys) x
    at [] k e = cc
    at (y ∷ ys) zero e = let same : x ≡ y = cc in rw same (here y (filter p ys) (p y) (ap p (sym same) ∙ is))
    at (y ∷ ys) (suc k) e = later y (filter p ys) (p y) x (at ys k e)

-- what is kept is an item with the property
pub among_kept : {A : Type 0} (p : A → Bool) (xs : List A) (x : A) → IsAmong (filter p xs) x → (p x ≡ true) × IsAmong xs x
among_kept p [] x h = absurd (none_among x h)
among_kept {A = A} p (y ∷ ys) x h = go (λ g. among_kept p ys x g) (p y) refl h.0 h.1
  where
    after : (p x ≡ true) × IsAmong ys x → (p x ≡ true) × IsAmong (y ∷ ys) x
    after g = (g.0, (suc g.1.0, g.1.1))

    go : (IsAmong (filter p ys) x → (p x ≡ true) × IsAmong ys x) → (b : Bool) → p y ≡ b → (k : ℕ) → slice_get (if b then y ∷ filter p ys else filter p ys) k ≡ Some x → (p x ≡ true) × IsAmong (y ∷ ys) x
    go found false is k e = after (found (k, e))
    go found true is (suc k) e = after (found (k, e))
    go found true is zero e = let same : y ≡ x = cc in (ap p (sym same) ∙ is, (0, ap Some same))

-- ---- choices

-- the choice of a team among teams is among their choices
pub choice_among : (ts : List TeamId) (t : TeamId) → IsAmong ts t → IsAmong (map (λ s. Choice.Team s) ts) (Choice.Team t)
choice_among ts t h = at ts h.0 h.1
  where
    at : (ss : List TeamId) (k : ℕ) → slice_get ss k ≡ Some t → IsAmong (map (λ s. Choice.Team s) ss) (Choice.Team t)
    at [] k e = cc
    at (s ∷ ss) zero e = let same : s ≡ t = cc in (0, ap (λ y. Some (Choice.Team y)) same)
    at (s ∷ ss) (suc k) e = let found = at ss k e in (suc found.0, found.1)

-- a team whose choice is among the choices of teams is among them
pub among_choices : (ts : List TeamId) (t : TeamId) → IsAmong (map (λ s. Choice.Team s) ts) (Choice.Team t) → IsAmong ts t
among_choices ts t h = at ts h.0 h.1
  where
    at : (ss : List TeamId) (k : ℕ) → slice_get (map (λ s. Choice.Team s) ss) k ≡ Some (Choice.Team t) → IsAmong ss t
    at [] k e = cc
    at (s ∷ ss) zero e = let same : s ≡ t = cc in (0, ap Some same)
    at (s ∷ ss) (suc k) e = let found = at ss k e in (suc found.0, found.1)
