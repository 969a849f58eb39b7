-- Atoms as numbers: with n columns, that of row r and column w is r * n + w.
use Rattle.std.proofs.Common.{◌≡◌, ℕ, ◌+◌, ◌*◌, ◌<◌, ◌≤◌, ◌⊎◌, inl, inr, sym, ap, arith}
use Rattle.std.proofs.Math.Nat.{mul-le-mul_left}
use Rattle.std.proofs.lemmas.Bool.{cases_order}

-- an atom is one of m rows of n
pub atom_within : (m n r w : ℕ) → r < m → w < n → r * n + w < m * n
atom_within m n r w in_m in_n =
    let h : n * (r + 1) ≤ n * m = mul-le-mul_left n (omega arith) in
    omega arith

-- few rows and few columns have few atoms
pub small_product : (m n a b : ℕ) → m ≤ a → n ≤ b → m * n ≤ a * b
small_product m n a b few_m few_n =
    let h : m * n ≤ m * b = mul-le-mul_left m few_n in
    let g : b * m ≤ b * a = mul-le-mul_left b few_m in
    omega arith

rows_apart : (n r s w v : ℕ) → r < s → w < n → r * n + w ≡ s * n + v → ⊥
rows_apart n r s w v before in_n e =
    let h : n * (r + 1) ≤ n * s = mul-le-mul_left n (omega arith) in
    absurd (omega arith)

-- an atom is of one row and one column
pub same_atom : (n r s w v : ℕ) → w < n → v < n → r * n + w ≡ s * n + v → (r ≡ s) × (w ≡ v)
same_atom n r s w v in_w in_v e = by_cases (cases_order r s)
  where
    by_cases : (r ≡ s) ⊎ ((r < s) ⊎ (s < r)) → (r ≡ s) × (w ≡ v)
    by_cases (inl q) = let p : r * n ≡ s * n = ap (λ x. x * n) q in (q, omega arith)
    by_cases (inr (inl lt)) = absurd (rows_apart n r s w v lt in_w e)
    by_cases (inr (inr gt)) = absurd (rows_apart n s r v w gt in_v (sym e))
