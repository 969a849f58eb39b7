-- Numbers, and teams by their numbers.
use Rattle.std.proofs.Common.{◌≡◌, ℕ, ◌⊎◌, ap}
use Rattle.std.proofs.lemmas.Bool.{cases_eq}
use Rattle.team_files.specs.declared.team_id.TeamId.{TeamId}

-- two numbers are one or not
pub same_number : (a b : ℕ) → (a ≡ b) ⊎ (a ≡ b → ⊥)
same_number a b = cases_eq a b

-- teams of one number are one team
pub same_id : (a b : TeamId) → a.0 ≡ b.0 → a ≡ b
same_id a b e = ap (λ n. record { 0 = n }) e
