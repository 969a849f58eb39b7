-- What is picked from a list: exactly those with the property, only one list, and some list where the property is decided.
use Rattle.std.proofs.Common.{◌≡◌, ℕ, zero, suc, ◌++◌, ◌⊎◌, inl, inr, List, [], ◌∷◌, Option, Some, None, slice_get, refl, sym, subst, ap, ◌∙◌}
use Rattle.rule_sets.specs.Files.{DrawFile}
use Rattle.draw_tables.specs.declared.moves.Move.{Move}
use Rattle.draw_tables.specs.declared.moves.Choice.{Choice}
use Rattle.draw_tables.specs.Lists.{IsAmong}
use Rattle.draw_tables.specs.States.{phase_of, candidates, move_in, IsMoveOf, IsCandidateMove}
use Rattle.draw_tables.specs.Offers.{IsCompletable, IsPossible, Picks, IsOffer, OneOffer, OfferedWherePossible, OfferWhereDecided}
use Rattle.draw_tables.proofs.Lists.{none_among}

-- ---- lists

-- only one list is picked
pub picks_once : {A : Type 0} (P : A → Type 0) (xs os qs : List A) → Picks P xs os → Picks P xs qs → os ≡ qs
picks_once P [] [] [] h g = refl
picks_once P [] [] (q ∷ qs) h g = absurd g
picks_once P [] (o ∷ os) qs h g = absurd h
picks_once P (x ∷ xs) os qs (inl h) (inl g) = h.1.1 ∙ ap (λ r. x ∷ r) (picks_once P xs h.1.0 g.1.0 h.1.2 g.1.2) ∙ sym g.1.1
picks_once P (x ∷ xs) os qs (inl h) (inr g) = absurd (g.0 h.0)
picks_once P (x ∷ xs) os qs (inr h) (inl g) = absurd (h.0 g.0)
picks_once P (x ∷ xs) os qs (inr h) (inr g) = picks_once P xs os qs h.1 g.1

module _ {A : Type 0} (P : A → Type 0) (x : A) where
  -- an item of one more: it is the first, or one of the rest
  of_more : (y : A) (xs os : List A) → P y → (IsAmong os x → P x × IsAmong xs x) → (k : ℕ) → slice_get (y ∷ os) k ≡ Some x → P x × IsAmong (y ∷ xs) x
  of_more y xs os holds later zero e = let same : y ≡ x = cc in (subst P same holds, (0, e))
  of_more y xs os holds later (suc k) e = let found = later (k, e) in (found.0, (suc found.1.0, found.1.1))

  -- What is picked has the property and is of the list.
  pub picked : (xs os : List A) → Picks P xs os → IsAmong os x → P x × IsAmong xs x
  picked [] [] h among = absurd (none_among x among)
  picked [] (o ∷ os) h among = absurd h
  picked (y ∷ xs) os (inl h) among =
      let here : IsAmong (y ∷ h.1.0) x = rw (← h.1.1) among in
      of_more y xs h.1.0 h.0 (λ g. picked xs h.1.0 h.1.2 g) here.0 here.1
  picked (y ∷ xs) os (inr h) among = let found = picked xs os h.1 among in (found.0, (suc found.1.0, found.1.1))

  -- what is picked of one more item, where the first is picked, and where it is not
  with_first : (y : A) (xs os : List A) → (IsAmong xs x → IsAmong os x) → (k : ℕ) → slice_get (y ∷ xs) k ≡ Some x → IsAmong (y ∷ os) x
  with_first y xs os later zero e = (0, e)
  with_first y xs os later (suc k) e = let found = later (k, e) in (suc found.0, found.1)

  without_first : (y : A) (xs os : List A) → P x → ¬ P y → (IsAmong xs x → IsAmong os x) → (k : ℕ) → slice_get (y ∷ xs) k ≡ Some x → IsAmong os x
  without_first y xs os holds fails later zero e = let same : x ≡ y = cc in absurd (fails (subst P same holds))
  without_first y xs os holds fails later (suc k) e = later (k, e)

  -- What has the property and is of the list is picked.
  pub is_picked : (xs os : List A) → Picks P xs os → P x → IsAmong xs x → IsAmong os x
  is_picked [] os h holds among = absurd (none_among x among)
  is_picked (y ∷ xs) os (inl h) holds among = rw h.1.1 (with_first y xs h.1.0 (λ g. is_picked xs h.1.0 h.1.2 holds g) among.0 among.1)
  is_picked (y ∷ xs) os (inr h) holds among = without_first y xs os holds h.0 (λ g. is_picked xs os h.1 holds g) among.0 among.1

-- Some list is picked where the property is decided of each item.
pub pick_decided : {A : Type 0} (P : A → Type 0) (xs : List A) → ((x : A) → IsAmong xs x → P x ⊎ ¬ P x) → (os : List A) × Picks P xs os
pick_decided P [] decide = ([], tt)
pick_decided {A = A} P (x ∷ xs) decide = add (decide x (0, refl)) (pick_decided P xs (λ y among. decide y (suc among.0, among.1)))
  where
    add : P x ⊎ ¬ P x → (os : List A) × Picks P xs os → (os : List A) × Picks P (x ∷ xs) os
    add (inl holds) rest = (x ∷ rest.0, inl (holds, (rest.0, refl, rest.1)))
    add (inr fails) rest = (rest.0, inr (fails, rest.1))

-- ---- offers

-- a state has one offer
pub one_offer : OneOffer
one_offer file ms os qs h g = picks_once (IsPossible file ms) (candidates file ms) os qs h g

module _ (file : DrawFile) (ms : List Move) (os : List Choice) (c : Choice) (offer : IsOffer file ms os) where
  -- What is offered is possible and a candidate.
  pub offered : IsAmong os c → IsPossible file ms c × IsAmong (candidates file ms) c
  offered among = picked (IsPossible file ms) c (candidates file ms) os offer among

  -- What is possible is offered.
  pub is_offered : IsPossible file ms c → IsAmong os c
  is_offered possible = is_picked (IsPossible file ms) c (candidates file ms) os offer possible possible.1.0

-- exactly what is possible is offered
pub offered_where_possible : OfferedWherePossible
offered_where_possible file ms os c offer = (λ among. (offered file ms os c offer among).0, is_offered file ms os c offer)

-- It is decided of each candidate whether it is possible, where it is of its move.
pub possible_decided : (file : DrawFile) (ms : List Move)
    → ((m : Move) → IsCandidateMove file ms m → IsCompletable file (ms ++ m ∷ []) ⊎ ¬ IsCompletable file (ms ++ m ∷ []))
    → (c : Choice) → IsAmong (candidates file ms) c → IsPossible file ms c ⊎ ¬ IsPossible file ms c
possible_decided file ms decide c among = go (move_in (phase_of file ms) c) refl
  where
    by : (m : Move) → IsMoveOf file ms c m → IsCompletable file (ms ++ m ∷ []) ⊎ ¬ IsCompletable file (ms ++ m ∷ []) → IsPossible file ms c ⊎ ¬ IsPossible file ms c
    by m is (inl completable) = inl (m, is, completable)
    by m is (inr not_so) = inr (λ p. let same : p.0 ≡ m = (let both = sym p.1.1 ∙ is.1 in cc) in not_so (rw (← same) p.2))

    go : (o : Option Move) → move_in (phase_of file ms) c ≡ o → IsPossible file ms c ⊎ ¬ IsPossible file ms c
    go None is = inr (λ p. let clash = sym is ∙ p.1.1 in cc)
    go (Some m) is = by m (among, is) (decide m (c, (among, is)))

-- a state has an offer where it is decided of each candidate's move
pub offer_where_decided : OfferWhereDecided
offer_where_decided file ms decide = pick_decided (IsPossible file ms) (candidates file ms) (possible_decided file ms decide)
