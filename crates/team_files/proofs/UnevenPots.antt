-- The first pot that has not one team for each group.
use Rattle.std.proofs.Common.{◌≡◌, ◌≢◌, ℕ, zero, suc, ◌+◌, ◌-◌, ◌<◌, ◌≤◌, ◌⊎◌, inl, inr, Bool, true, false, Option, Some, None, refl, sym, ap, ◌∙◌, subst, arith}
use Rattle.std.specs.Prelude.{◌==◌, if◌then◌else◌}
use Rattle.std.proofs.lemmas.Bool.{cases_order, eqb-true, eqb-false, eq-eqb, ne_eqb}
use Rattle.team_files.specs.declared.fault.FileFault.{FileFault}
use Rattle.team_files.specs.Heads.{first_uneven}

-- pots of the same sizes
pub same_sizes : (f g : ℕ → ℕ) (groups pot more : ℕ) → ((p : ℕ) → f p ≡ g p) → first_uneven f groups pot more ≡ first_uneven g groups pot more
same_sizes f g groups pot zero h = refl
same_sizes f g groups pot (suc more) h = rw (h pot) (rw (same_sizes f g groups (pot + 1) more h) refl)

-- What holds of the first uneven pot, of so many from `from` on.
pub record Uneven (size : ℕ → ℕ) (groups from more pot number : ℕ) : Type 0 where
  pub low : from ≤ pot
  pub high : pot < from + more
  pub number_is : number ≡ size pot
  pub uneven : number ≢ groups
  pub first : (k : ℕ) → from ≤ k → k < pot → size k ≡ groups

module _ (size : ℕ → ℕ) (groups : ℕ) where
  further : (from more pot number : ℕ) → size from ≡ groups → Uneven size groups (from + 1) more pot number → Uneven size groups from (suc more) pot number
  further from more pot number even u = record {
    low = omega (arith, u.low);
    high = omega (arith, u.high);
    number_is = u.number_is;
    uneven = u.uneven;
    first = λ k low high. by k low high (cases_order from k);
  }
    where
      by : (k : ℕ) → from ≤ k → k < pot → (from ≡ k) ⊎ ((from < k) ⊎ (k < from)) → size k ≡ groups
      by k low high (inl same) = subst (λ n. size n ≡ groups) same even
      by k low high (inr (inl more)) = u.first k (omega (arith, more)) high
      by k low high (inr (inr less)) = absurd (omega (arith, low, less))

  -- what is told holds
  pub uneven_told : (from more pot number : ℕ) → first_uneven size groups from more ≡ Some (FileFault.PotSize pot number) → Uneven size groups from more pot number
  uneven_told from zero pot number e = cc
  uneven_told from (suc more) pot number e = go (size from == groups) refl (λ h. uneven_told (from + 1) more pot number h) e
    where
      go : (b : Bool) → (size from == groups) ≡ b → (first_uneven size groups (from + 1) more ≡ Some (FileFault.PotSize pot number) → Uneven size groups (from + 1) more pot number) → (if b then first_uneven size groups (from + 1) more else Some (FileFault.PotSize from (size from))) ≡ Some (FileFault.PotSize pot number)
          → Uneven size groups from (suc more) pot number
      go true is rest h = further from more pot number (eqb-true (size from) groups is) (rest h)
      go false is rest h =
          let here : from ≡ pot = cc in
          let size_is : size from ≡ number = cc in
          record {
            low = omega (arith, here);
            high = omega (arith, here);
            number_is = sym size_is ∙ ap size here;
            uneven = λ same. eqb-false (size from) groups is (size_is ∙ same);
            first = λ k low high. absurd (omega (arith, low, high, here));
          }

  -- only a pot is told
  pub uneven_is_pot : (from more : ℕ) (fault : FileFault) → first_uneven size groups from more ≡ Some fault → (pot : ℕ) × (number : ℕ) × (FileFault.PotSize pot number ≡ fault)
  uneven_is_pot from zero fault e = cc
  uneven_is_pot from (suc more) fault e = go (size from == groups) (λ h. uneven_is_pot (from + 1) more fault h) e
    where
      go : (b : Bool) → (first_uneven size groups (from + 1) more ≡ Some fault → (pot : ℕ) × (number : ℕ) × (FileFault.PotSize pot number ≡ fault)) → (if b then first_uneven size groups (from + 1) more else Some (FileFault.PotSize from (size from))) ≡ Some fault → (pot : ℕ) × (number : ℕ) × (FileFault.PotSize pot number ≡ fault)
      go true rest h = rest h
      go false rest h = (from, size from, cc)

  -- where nothing is told, each pot has one team for each group
  pub all_even : (from more : ℕ) → first_uneven size groups from more ≡ None → (k : ℕ) → from ≤ k → k < from + more → size k ≡ groups
  all_even from zero e k low high = absurd (omega (arith, low, high))
  all_even from (suc more) e k low high = go (size from == groups) refl (λ h later. all_even (from + 1) more h k later (omega (arith, high))) e
    where
      go : (b : Bool) → (size from == groups) ≡ b → (first_uneven size groups (from + 1) more ≡ None → from + 1 ≤ k → size k ≡ groups) → (if b then first_uneven size groups (from + 1) more else Some (FileFault.PotSize from (size from))) ≡ None → size k ≡ groups
      go false is rest h = cc
      go true is rest h = by (cases_order from k)
        where
          by : (from ≡ k) ⊎ ((from < k) ⊎ (k < from)) → size k ≡ groups
          by (inl same) = subst (λ n. size n ≡ groups) same (eqb-true (size from) groups is)
          by (inr (inl later)) = rest h (omega (arith, later))
          by (inr (inr less)) = absurd (omega (arith, low, less))

  -- what holds is told
  pub uneven_back : (from more pot number : ℕ) → Uneven size groups from more pot number → first_uneven size groups from more ≡ Some (FileFault.PotSize pot number)
  uneven_back from more pot number u = go (first_uneven size groups from more) refl
    where
      one_pot : (a : ℕ) (n : ℕ) → Uneven size groups from more a n → (a ≡ pot) ⊎ ((a < pot) ⊎ (pot < a)) → a ≡ pot
      one_pot a n v (inl same) = same
      one_pot a n v (inr (inl less)) = absurd (v.uneven (v.number_is ∙ u.first a v.low less))
      one_pot a n v (inr (inr after)) = absurd (u.uneven (u.number_is ∙ v.first pot u.low after))

      go : (o : Option FileFault) → first_uneven size groups from more ≡ o → first_uneven size groups from more ≡ Some (FileFault.PotSize pot number)
      go None e = absurd (u.uneven (u.number_is ∙ all_even from more e pot u.low u.high))
      go (Some fault) e =
          let is = uneven_is_pot from more fault e in
          let told : first_uneven size groups from more ≡ Some (FileFault.PotSize is.0 is.1) = e ∙ ap (λ f. Some f) (sym is.2) in
          let v = uneven_told from more is.0 is.1 told in
          let same : is.0 ≡ pot = one_pot is.0 is.1 v (cases_order is.0 pot) in
          let number_is : is.1 ≡ number = v.number_is ∙ ap size same ∙ sym u.number_is in
          told ∙ rw same (rw number_is refl)

  -- the pots from the next one on, where this one has one team for each group
  pub uneven_step : (pots before : ℕ) → before < pots → size (before + 1) ≡ groups
      → first_uneven size groups ((before + 1) + 1) (pots - (before + 1)) ≡ first_uneven size groups (before + 1) (pots - before)
  uneven_step pots before within even =
      let more : pots - before ≡ suc (pots - (before + 1)) = omega (arith, within) in
      rw more (rw (eq-eqb (size (before + 1)) groups even) refl)

  -- where it has not, it is told
  pub uneven_here : (pots before : ℕ) → before < pots → size (before + 1) ≢ groups → first_uneven size groups (before + 1) (pots - before) ≡ Some (FileFault.PotSize (before + 1) (size (before + 1)))
  uneven_here pots before within uneven =
      let more : pots - before ≡ suc (pots - (before + 1)) = omega (arith, within) in
      rw more (rw (ne_eqb (size (before + 1)) groups uneven) refl)
