-- The teams of a pot stand in the order of their places, each once, and are teams of the file.
use Rattle.std.proofs.Common.{◌≡◌, ℕ, zero, suc, ◌+◌, ◌<◌, ◌≤◌, Bool, true, false, List, [], ◌∷◌, length, Some, slice_get, cond, arith, refl, ap}
use Rattle.std.specs.Prelude.{◌==◌, if◌then◌else◌}
use Rattle.std.proofs.lemmas.List.Sums.{sum_by-cons, count_by-le-length}
use Rattle.team_files.specs.declared.team.Team.{Team}
use Rattle.team_files.specs.declared.team_id.TeamId.{TeamId}
use Rattle.team_files.specs.Heads.{pot_size}
use Rattle.rule_sets.specs.Files.{DrawFile}
use Rattle.draw_tables.specs.Pots.{pot_from, teams_of_pot, IsTeam}
use Rattle.draw_tables.proofs.Lists.{item_at}

-- each number is below those after it
abbrev pub IsInOrder : List TeamId → Type 0
IsInOrder [] = Unit {0}
IsInOrder (x ∷ xs) = ((k : ℕ) (y : TeamId) → slice_get xs k ≡ Some y → x.0 < y.0) × IsInOrder xs

-- each number is at least n and below m
range_put : (n m : ℕ) (xs : List TeamId) (b : Bool) → n < m → ((k : ℕ) (x : TeamId) → slice_get xs k ≡ Some x → (n + 1 ≤ x.0) × (x.0 < m))
    → (k : ℕ) (x : TeamId) → slice_get (if b then record { 0 = n } ∷ xs else xs) k ≡ Some x → (n ≤ x.0) × (x.0 < m)
range_put n m xs false lt h k x e = let g = h k x e in (omega arith, g.1)
range_put n m xs true lt h zero x e = let s : record { 0 = n } ≡ x = cc in rw (← s) (omega arith, lt)
range_put n m xs true lt h (suc k) x e = let g = h k x e in (omega arith, g.1)

in_range : (pot n m : ℕ) (ts : List Team) → n + length ts ≤ m → (k : ℕ) (x : TeamId) → slice_get (pot_from pot n ts) k ≡ Some x → (n ≤ x.0) × (x.0 < m)
in_range pot n m [] le = λ k x e. cc
in_range pot n m (t ∷ ts) le = range_put n m (pot_from pot (n + 1) ts) (t.pot == pot) (omega arith) (in_range pot (n + 1) m ts (omega arith))

order_put : (n m : ℕ) (xs : List TeamId) (b : Bool) → ((k : ℕ) (x : TeamId) → slice_get xs k ≡ Some x → (n + 1 ≤ x.0) × (x.0 < m)) → IsInOrder xs → IsInOrder (if b then record { 0 = n } ∷ xs else xs)
order_put n m xs false h rest = rest
order_put n m xs true h rest = (λ k y e. let g = h k y e in omega arith, rest)

order_from : (pot n : ℕ) (ts : List Team) → IsInOrder (pot_from pot n ts)
order_from pot n [] = tt
order_from pot n (t ∷ ts) = order_put n (n + 1 + length ts) (pot_from pot (n + 1) ts) (t.pot == pot) (in_range pot (n + 1) (n + 1 + length ts) ts (omega arith)) (order_from pot (n + 1) ts)

-- the teams of a pot are in order
pub pot_in_order : (pot : ℕ) (file : DrawFile) → IsInOrder (teams_of_pot pot file)
pot_in_order pot file = order_from pot 0 file.teams

-- in order, each stands once
pub once : (xs : List TeamId) → IsInOrder xs → (i j : ℕ) (x : TeamId) → slice_get xs i ≡ Some x → slice_get xs j ≡ Some x → i ≡ j
once [] h i j x e f = cc
once (y ∷ xs) h zero zero x e f = refl
once (y ∷ xs) h zero (suc j) x e f = let s : y ≡ x = cc in let q : y.0 ≡ x.0 = ap (λ z. z.0) s in let g = h.0 j x f in absurd (omega arith)
once (y ∷ xs) h (suc i) zero x e f = let s : y ≡ x = cc in let q : y.0 ≡ x.0 = ap (λ z. z.0) s in let g = h.0 i x e in absurd (omega arith)
once (y ∷ xs) h (suc i) (suc j) x e f = ap suc (once xs h.1 i j x e f)

-- each team stands once in a pot
pub pot_once : (pot : ℕ) (file : DrawFile) (i j : ℕ) (x : TeamId) → slice_get (teams_of_pot pot file) i ≡ Some x → slice_get (teams_of_pot pot file) j ≡ Some x → i ≡ j
pot_once pot file i j x e f = once (teams_of_pot pot file) (pot_in_order pot file) i j x e f

-- what stands in a pot is a team of the file
pub pot_team : (pot : ℕ) (file : DrawFile) (k : ℕ) (x : TeamId) → slice_get (teams_of_pot pot file) k ≡ Some x → (t : Team) × IsTeam file x t
pot_team pot file k x e = item_at file.teams x.0 (in_range pot 0 (length file.teams) file.teams (omega arith) k x e).1

-- ---- sizes

size_put : (n : ℕ) (xs : List TeamId) (b : Bool) (count : ℕ) → length xs ≡ count → length (if b then record { 0 = n } ∷ xs else xs) ≡ cond b 1 0 + count
size_put n xs true count e = omega arith
size_put n xs false count e = omega arith

size_from : (pot n : ℕ) (ts : List Team) → length (pot_from pot n ts) ≡ pot_size pot ts
size_from pot n [] = refl
size_from pot n (t ∷ ts) =
    let whole : pot_size pot (t ∷ ts) ≡ cond (t.pot == pot) 1 0 + pot_size pot ts = sum_by-cons (λ (u : Team). cond (u.pot == pot) 1 0) t ts in
    rw whole (size_put n (pot_from pot (n + 1) ts) (t.pot == pot) (pot_size pot ts) (size_from pot (n + 1) ts))

-- a pot has as many teams as it is counted to have
pub pot_length : (pot : ℕ) (file : DrawFile) → length (teams_of_pot pot file) ≡ pot_size pot file.teams
pot_length pot file = size_from pot 0 file.teams

-- and no more than the file has
pub pot_at_most : (pot : ℕ) (file : DrawFile) → length (teams_of_pot pot file) ≤ length file.teams
pot_at_most pot file = rw (pot_length pot file) (count_by-le-length (λ (t : Team). t.pot == pot) file.teams)
