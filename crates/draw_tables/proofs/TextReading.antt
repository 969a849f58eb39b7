-- What is read of a text has that text, and what has a text is read of it.
use Rattle.std.proofs.Common.{◌≡◌, ℕ, zero, suc, ◌+◌, Bool, true, false, List, [], ◌∷◌, ◌++◌, length, map, drop, Option, Some, None, arith, refl, ap, sym, ◌∙◌}
use Rattle.std.specs.Prelude.{◌==◌, if◌then◌else◌, option_map, option_and_then}
use Rattle.std.specs.List.{AllByRecursion as Each}
use Rattle.std.proofs.lemmas.Bool.{eqb-true}
use Rattle.draw_tables.specs.Reading.{spaced_item, spaced_items, items_in}
use Rattle.draw_tables.specs.TableTexts.{spaced_texts, texts_in_row}
use Rattle.draw_tables.proofs.Lists.{same_item}

-- Items of one width: what is read in front has its text there, and an item is read where its text stands in front.
pub record AreReadable {A : Type 0} (front : List ℕ → Option A) (width : ℕ) (text_of : A → List ℕ) (Within : A → Type 0) : Type 0 where
  pub gives : (bytes : List ℕ) (x : A) → front bytes ≡ Some x → Within x × (text_of x ++ drop width bytes ≡ bytes)
  pub is_read : (x : A) (rest : List ℕ) → Within x → (front (text_of x ++ rest) ≡ Some x) × (drop width (text_of x ++ rest) ≡ rest)

-- what one more item and the rest give
both_given : {A B C : Type 0} (o : Option A) (next : Option B) (f : A → B → C) (c : C) → option_and_then (λ a. option_map (λ b. f a b) next) o ≡ Some c → (a : A) × (b : B) × (o ≡ Some a) × (next ≡ Some b) × (f a b ≡ c)
both_given None next f c e = cc
both_given (Some a) None f c e = cc
both_given (Some a) (Some b) f c e = (a, b, refl, refl, same_item (f a b) c e)

give_both : {A B C : Type 0} (o : Option A) (next : A → Option B) (f : A → B → C) (a : A) (b : B) → o ≡ Some a → next a ≡ Some b → option_and_then (λ x. option_map (λ y. f x y) (next x)) o ≡ Some (f a b)
give_both o next f a b e h = rw (e, h) refl

-- so many items, each behind one space, are the bytes
pub record AreSpaced {A : Type 0} (text_of : A → List ℕ) (Within : A → Type 0) (n : ℕ) (bytes : List ℕ) (xs : List A) : Type 0 where
  pub size : length xs ≡ n
  pub within : Each Within xs
  pub text : spaced_texts (map text_of xs) ≡ bytes

-- an item and so many more, with one space between two, are the bytes
pub record AreTextOf {A : Type 0} (text_of : A → List ℕ) (Within : A → Type 0) (more : ℕ) (bytes : List ℕ) (xs : List A) : Type 0 where
  pub size : length xs ≡ more + 1
  pub within : Each Within xs
  pub text : texts_in_row (map text_of xs) ≡ bytes

module _ {A : Type 0} (front : List ℕ → Option A) (width : ℕ) (text_of : A → List ℕ) (Within : A → Type 0) (readable : AreReadable front width text_of Within) where
  -- an item stands in front behind one space
  spaced_gives : (bytes : List ℕ) (x : A) → spaced_item front bytes ≡ Some x → Within x × (32 ∷ text_of x ++ drop (suc width) bytes ≡ bytes)
  spaced_gives [] x e = cc
  spaced_gives (b ∷ bytes) x e = go (b == 32) refl e
    where
      go : (t : Bool) → (b == 32) ≡ t → (if t then front bytes else None) ≡ Some x → Within x × (32 ∷ text_of x ++ drop width bytes ≡ b ∷ bytes)
      go true is h =
          let given = readable.gives bytes x h in
          let same = eqb-true b 32 is in
          (given.0, ap (λ ys. 32 ∷ ys) given.1 ∙ ap (λ c. c ∷ bytes) (sym same))
      go false is h = cc

  all_given : (n : ℕ) (bytes : List ℕ) (xs : List A) → spaced_items front width n bytes ≡ Some xs → AreSpaced text_of Within n bytes xs
  all_given zero [] xs e = let none : [] ≡ xs = same_item [] xs e in rw (← none) (record { size = refl; within = tt; text = refl })
  all_given zero (b ∷ bytes) xs e = cc
  all_given (suc n) bytes xs e =
      let parts = both_given (spaced_item front bytes) (spaced_items front width n (drop (suc width) bytes)) (λ y ys. y ∷ ys) xs e in
      let here = spaced_gives bytes parts.0 parts.2 in
      let rest = all_given n (drop (suc width) bytes) parts.1 parts.3 in
      rw (← parts.4) (record {
        size = ap suc rest.size;
        within = (here.0, rest.within);
        text = ap (λ ys. 32 ∷ text_of parts.0 ++ ys) rest.text ∙ here.1;
      })

  -- what is read of the bytes has them as its text
  pub read_has_text : (more : ℕ) (bytes : List ℕ) (xs : List A) → items_in front width more bytes ≡ Some xs → AreTextOf text_of Within more bytes xs
  read_has_text more bytes xs e =
      let parts = both_given (front bytes) (spaced_items front width more (drop width bytes)) (λ y ys. y ∷ ys) xs e in
      let here = readable.gives bytes parts.0 parts.2 in
      let rest = all_given more (drop width bytes) parts.1 parts.3 in
      rw (← parts.4) (record {
        size = let h = rest.size in omega arith;
        within = (here.0, rest.within);
        text = ap (λ ys. text_of parts.0 ++ ys) rest.text ∙ here.1;
      })

  all_read : (xs : List A) → Each Within xs → spaced_items front width (length xs) (spaced_texts (map text_of xs)) ≡ Some xs
  all_read [] h = refl
  all_read (x ∷ xs) h =
      let here = readable.is_read x (spaced_texts (map text_of xs)) h.0 in
      let rest : spaced_items front width (length xs) (drop width (text_of x ++ spaced_texts (map text_of xs))) ≡ Some xs = rw here.1 (all_read xs h.1) in
      give_both (front (text_of x ++ spaced_texts (map text_of xs))) (λ _. spaced_items front width (length xs) (drop width (text_of x ++ spaced_texts (map text_of xs)))) (λ y ys. y ∷ ys) x xs here.0 rest

  -- what has the bytes as its text is read of them
  pub text_is_read : (more : ℕ) (bytes : List ℕ) (xs : List A) → AreTextOf text_of Within more bytes xs → items_in front width more bytes ≡ Some xs
  text_is_read more bytes [] h = absurd (omega (arith, h.size))
  text_is_read more bytes (x ∷ xs) h =
      let here = readable.is_read x (spaced_texts (map text_of xs)) h.within.0 in
      let size : length xs ≡ more = let s = h.size in omega arith in
      let rest : spaced_items front width more (drop width (text_of x ++ spaced_texts (map text_of xs))) ≡ Some xs = rw (here.1, ← size) (all_read xs h.within.1) in
      rw (← h.text) (give_both (front (text_of x ++ spaced_texts (map text_of xs))) (λ _. spaced_items front width more (drop width (text_of x ++ spaced_texts (map text_of xs)))) (λ y ys. y ∷ ys) x xs here.0 rest)
