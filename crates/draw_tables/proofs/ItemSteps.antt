-- Reading the items of a table's text, one after the other.
use Rattle.std.proofs.Common.{◌≡◌, ◌≢◌, ℕ, suc, ◌+◌, ◌-◌, ◌<◌, ◌≤◌, List, [], ◌∷◌, ◌++◌, length, drop, append_assoc, append-nil, Option, Some, None, arith, refl, sym, ap, ◌∙◌}
use Rattle.std.specs.Prelude.{option_map}
use Rattle.draw_tables.specs.Reading.{spaced_item, spaced_items}

-- nothing was read where nothing came of it
pub none_before : {A B : Type 0} (f : A → B) (o : Option A) → None ≡ option_map f o → o ≡ None
none_before f None e = refl
none_before f (Some a) e = cc

-- the list that was read, in a vector that was empty before
pub read_first : {A : Type 0} (front xs : List A) (o : Option (List A)) → front ≡ [] → option_map (λ ys. front ++ ys) o ≡ Some xs → o ≡ Some xs
read_first {A = A} front xs o none e = go o (rw none at e)
  where
    go : (o : Option (List A)) → option_map (λ ys. [] ++ ys) o ≡ Some xs → o ≡ Some xs
    go None f = cc
    go (Some ys) f = f

module _ {A : Type 0} (front : List ℕ → Option A) (width : ℕ) where
  -- one more item in front
  more : (n : ℕ) (rest : List ℕ) (x : A) → spaced_item front rest ≡ Some x → spaced_items front width (suc n) rest ≡ option_map (λ xs. x ∷ xs) (spaced_items front width n (drop (suc width) rest))
  more n rest x e = rw e refl

  no_more : (n : ℕ) (rest : List ℕ) → spaced_item front rest ≡ None → spaced_items front width (suc n) rest ≡ None
  no_more n rest e = rw e refl

  behind : (found : List A) (x : A) (o : Option (List A)) → option_map (λ xs. found ++ xs) (option_map (λ xs. x ∷ xs) o) ≡ option_map (λ xs. (found ++ x ∷ []) ++ xs) o
  behind found x None = refl
  behind found x (Some xs) = ap Some (sym (append_assoc found (x ∷ []) xs))

  module _ (n i : ℕ) (rest : List ℕ) (found : List A) (whole : Option (List A)) (so_far : option_map (λ xs. found ++ xs) (spaced_items front width (n - i) rest) ≡ whole) where
    left : i < n → n - i ≡ suc (n - (i + 1))
    left lt = omega arith

    -- an item is read
    pub read_next : i < n → (x : A) (new : List A) → spaced_item front rest ≡ Some x → new ≡ found ++ x ∷ []
        → option_map (λ xs. new ++ xs) (spaced_items front width (n - (i + 1)) (drop (suc width) rest)) ≡ whole
    read_next lt x new e is =
        let here = rw (left lt, more (n - (i + 1)) rest x e) at so_far in
        rw is (sym (behind found x (spaced_items front width (n - (i + 1)) (drop (suc width) rest))) ∙ here)

    -- no item stands in front
    pub read_none : i < n → spaced_item front rest ≡ None → None ≡ whole
    read_none lt e = rw (left lt, no_more (n - (i + 1)) rest e) at so_far

    -- something stands behind the last item
    pub read_left_over : n ≤ i → length rest ≢ 0 → None ≡ whole
    read_left_over le some = let zero_left : n - i ≡ 0 = omega arith in over rest some (rw zero_left at so_far)
      where
        over : (rest : List ℕ) → length rest ≢ 0 → option_map (λ xs. found ++ xs) (spaced_items front width 0 rest) ≡ whole → None ≡ whole
        over [] h e = absurd (h refl)
        over (b ∷ bs) h e = e

    -- nothing does
    pub read_whole : n ≤ i → length rest ≡ 0 → whole ≡ Some found
    read_whole le none = let zero_left : n - i ≡ 0 = omega arith in over rest none (rw zero_left at so_far)
      where
        over : (rest : List ℕ) → length rest ≡ 0 → option_map (λ xs. found ++ xs) (spaced_items front width 0 rest) ≡ whole → whole ≡ Some found
        over [] h e = sym e ∙ ap Some (append-nil found)
        over (b ∷ bs) h e = absurd (omega arith)
