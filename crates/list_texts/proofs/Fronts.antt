-- What stands in front of a text is one thing, where each item of its kind is.
use Rattle.std.proofs.Common.{◌≡◌, ℕ, List, [], ◌∷◌, ◌++◌, refl, sym, ap, ◌∙◌, append_assoc, subst}
use Rattle.std.specs.Prelude.{flat_map}
use Rattle.std.specs.List.{AllByRecursion}
use Rattle.std.proofs.lemmas.List.{flat_map_more}
use Rattle.list_texts.specs.Fronts.{InFront, NoneInFront, EndsAfter, SomeInFront, AllInFront}

-- two of the kind in front of one text are one, and the same follows
abbrev pub IsOne : {A : Type 0} → (A → List ℕ) → (A → Type 0) → (List ℕ → Type 0) → Type 0
IsOne {A} text_of Fits Ends = (text : List ℕ) (x y : A) (r s : List ℕ) → InFront text_of Fits Ends text x r → InFront text_of Fits Ends text y s → (x ≡ y) × (r ≡ s)

module _ {A : Type 0} (text_of : A → List ℕ) (Fits : A → Type 0) (Ends : List ℕ → Type 0) where
  -- ---- one more item

  pub none_yet : (text : List ℕ) → SomeInFront text_of Fits Ends text [] text
  none_yet text = record { whole = refl; fits = tt; ends = tt }

  fits_more : (xs : List A) (x : A) → AllByRecursion Fits xs → Fits x → AllByRecursion Fits (xs ++ x ∷ [])
  fits_more [] x h g = (g, tt)
  fits_more (y ∷ xs) x h g = (h.0, fits_more xs x h.1 g)

  pub ends_after : (xs : List A) (rest : List ℕ) → Ends rest → EndsAfter Ends xs rest
  ends_after [] rest h = tt
  ends_after (x ∷ xs) rest h = h

  pub one_more : (text left : List ℕ) (xs : List A) (x : A) (rest : List ℕ) → SomeInFront text_of Fits Ends text xs left → InFront text_of Fits Ends left x rest
      → SomeInFront text_of Fits Ends text (xs ++ x ∷ []) rest
  one_more text left xs x rest h g =
      let joined : flat_map text_of xs ++ text_of x ≡ flat_map text_of (xs ++ x ∷ []) = flat_map_more text_of [] xs x in
      record {
        whole = h.whole ∙ ap (λ l. flat_map text_of xs ++ l) g.whole ∙ sym (append_assoc (flat_map text_of xs) (text_of x) rest) ∙ ap (λ l. l ++ rest) joined;
        fits = fits_more xs x h.fits g.fits;
        ends = ends_after (xs ++ x ∷ []) rest g.ends;
      }

  -- ---- the items are these alone

  module _ (one : IsOne text_of Fits Ends) (follows : (x : A) (rest : List ℕ) → Ends (text_of x ++ rest)) where
    pub ends_all : (xs : List A) (rest : List ℕ) → Ends rest → Ends (flat_map text_of xs ++ rest)
    ends_all [] rest h = h
    ends_all (x ∷ xs) rest h = subst Ends (sym (append_assoc (text_of x) (flat_map text_of xs) rest)) (follows x (flat_map text_of xs ++ rest))

    ends_rest : (y : A) (ys : List A) (rest : List ℕ) → EndsAfter Ends (y ∷ ys) rest → Ends (flat_map text_of ys ++ rest)
    ends_rest y ys rest h = ends_all ys rest h

    same_items : (xs ys : List A) (r s : List ℕ) → AllByRecursion Fits xs → AllByRecursion Fits ys → Ends r → EndsAfter Ends ys s
        → NoneInFront text_of Fits Ends r → NoneInFront text_of Fits Ends s → flat_map text_of xs ++ r ≡ flat_map text_of ys ++ s → (xs ≡ ys) × (r ≡ s)
    same_items [] [] r s fx fy er es nr ns e = (refl, e)
    same_items [] (y ∷ ys) r s fx fy er es nr ns e =
        absurd (nr y (flat_map text_of ys ++ s) (record { whole = e ∙ append_assoc (text_of y) (flat_map text_of ys) s; fits = fy.0; ends = ends_all ys s es }))
    same_items (x ∷ xs) [] r s fx fy er es nr ns e =
        absurd (ns x (flat_map text_of xs ++ r) (record { whole = sym e ∙ append_assoc (text_of x) (flat_map text_of xs) r; fits = fx.0; ends = ends_all xs r er }))
    same_items (x ∷ xs) (y ∷ ys) r s fx fy er es nr ns e =
        let left : text_of x ++ (flat_map text_of xs ++ r) ≡ text_of y ++ (flat_map text_of ys ++ s) =
        sym (append_assoc (text_of x) (flat_map text_of xs) r) ∙ e ∙ append_assoc (text_of y) (flat_map text_of ys) s in
        let first = one (text_of x ++ (flat_map text_of xs ++ r)) x y (flat_map text_of xs ++ r) (flat_map text_of ys ++ s)
        (record { whole = refl; fits = fx.0; ends = ends_all xs r er })
        (record { whole = left; fits = fy.0; ends = ends_all ys s es }) in
        let rest = same_items xs ys r s fx.1 fy.1 er (ends_after ys s es) nr ns first.1 in
        ((λ i. first.0 i ∷ rest.0 i), rest.1)

    -- items that are followed by none are all that stand in front
    pub are_all : (text : List ℕ) (xs ys : List A) (r s : List ℕ) → AllByRecursion Fits xs → Ends r → NoneInFront text_of Fits Ends r → text ≡ flat_map text_of xs ++ r
        → AllInFront text_of Fits Ends text ys s → (xs ≡ ys) × (r ≡ s)
    are_all text xs ys r s fits ends none e h =
        same_items xs ys r s fits h.some.fits ends h.some.ends none h.last (sym e ∙ h.some.whole)

    pub all_of : (xs : List A) (r : List ℕ) → AllByRecursion Fits xs → Ends r → NoneInFront text_of Fits Ends r → AllInFront text_of Fits Ends (flat_map text_of xs ++ r) xs r
    all_of xs r fits ends none = record { some = record { whole = refl; fits = fits; ends = ends_after xs r ends }; last = none }
