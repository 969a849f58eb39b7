-- The first of the groups that an offer has is the first possible one.
use Rattle.std.proofs.Common.{◌≡◌, ◌≢◌, ℕ, zero, suc, ◌+◌, ◌<◌, ◌≤◌, Bool, true, false, not, List, [], ◌∷◌, ◌⊎◌, inl, inr, length, get_or, Option, Some, None, refl, sym, ap, ◌∙◌, subst, arith}
use Rattle.std.specs.Prelude.{filter, if◌then◌else◌}
use Rattle.std.specs.List.{range_with_len}
use Rattle.std.proofs.lemmas.Bool.{cases_eq}
use Rattle.team_files.specs.declared.team_id.TeamId.{TeamId}
use Rattle.rule_sets.specs.Files.{DrawFile}
use Rattle.draw_tables.specs.declared.moves.Move.{Move}
use Rattle.draw_tables.specs.declared.moves.Choice.{Choice}
use Rattle.draw_tables.specs.declared.moves.Phase.{Phase}
use Rattle.draw_tables.specs.Lists.{IsAmong}
use Rattle.draw_tables.specs.Pots.{pot_of, groups_of}
use Rattle.draw_tables.specs.GroupPhases.{has_placed, open_groups}
use Rattle.draw_tables.specs.States.{group_choices, candidates_in, candidates, phase_of, move_in, IsMoveOf}
use Rattle.draw_tables.specs.Offers.{IsPossible, IsOffer, Picks, OfferedWherePossible}
use Rattle.draw_tables.proofs.Lists.{same_item, map_among, none_among}
use Rattle.draw_tables.proofs.OfferLaws.{picked}
use Rattle.draw_tables.proofs.PotMembers.{among_kept}
use Rattle.draw_state.specs.Commands.{IsFirstPossibleGroup}
use Rattle.draw_state.specs.State.{State}
use Rattle.offer_engine.specs.Questions.{AddsMoveOf}
use Rattle.offer_engine.specs.Turns.{state_with}
use Rattle.offer_engine.specs.Courses.{TakesGroup}
use Rattle.offer_engine.proofs.TurnNeeds.{same_head, with_move}

-- ---- the first that is picked of a range

module _ (P : Choice → Type 0) (test : ℕ → Bool) (c : Choice) (rest : List Choice) where
  -- The choice is a group from a that has the property, and no lower one from a that passes the test has it.
  record IsFirstFrom (a : ℕ) : Type 0 where
    pub group : ℕ
    pub is : c ≡ Choice.Group group
    pub holds : P c
    pub lower : (o : ℕ) → a ≤ o → o < group → test o ≡ true → ¬ P (Choice.Group o)

  -- from one lower
  from_lower : (a : ℕ) → (test a ≡ true → ¬ P (Choice.Group a)) → IsFirstFrom (a + 1) → IsFirstFrom a
  from_lower a fails first = record { group = first.group; is = first.is; holds = first.holds; lower = λ o le lt shows. at o le lt shows (cases_eq o a) }
    where
      at : (o : ℕ) → a ≤ o → o < first.group → test o ≡ true → (o ≡ a) ⊎ (o ≡ a → ⊥) → ¬ P (Choice.Group o)
      at o le lt shows (inl e) = rw e (fails (rw e at shows))
      at o le lt shows (inr n) = first.lower o (let m : o ≢ a = n in omega arith) lt shows

  first_from : (n a : ℕ) → Picks P (group_choices (filter test (range_with_len a n))) (c ∷ rest) → IsFirstFrom a
  first_from zero a h = absurd h
  first_from (suc n) a h = go (test a) refl h (first_from n (a + 1))
    where
      left : List ℕ
      left = filter test (range_with_len (a + 1) n)

      go : (b : Bool) → test a ≡ b → Picks P (group_choices (if b then a ∷ left else left)) (c ∷ rest) → (Picks P (group_choices left) (c ∷ rest) → IsFirstFrom (a + 1)) → IsFirstFrom a
      go true e (inl (holds, (others, is, picks))) later =
          let same : c ≡ Choice.Group a = same_head c (Choice.Group a) rest others is in
          record { group = a; is = same; holds = subst P (sym same) holds; lower = λ o le lt shows. absurd (omega arith) }
      go true e (inr (fails, picks)) later = from_lower a (λ shows. fails) (later picks)
      go false e picks later = from_lower a (λ shows. absurd (let clash = sym e ∙ shows in cc)) (later picks)

-- ---- the first group of an offer

module _ (file : DrawFile) (ms : List Move) (t : TeamId) (waits : phase_of file ms ≡ Phase.Group t) (c : Choice) (rest : List Choice) where
  -- with the pot of the team
  of_pot : (pot : Option ℕ) → pot_of file t ≡ pot → Picks (IsPossible file ms) (group_choices (open_groups file ms pot)) (c ∷ rest)
      → (group : ℕ) × (c ≡ Choice.Group group) × IsFirstPossibleGroup file ms group
  of_pot None e picks = absurd picks
  of_pot (Some pot) e picks =
      let first = first_from (IsPossible file ms) test c rest file.groups 0 picks in
      (first.group, first.is, record { possible = subst (IsPossible file ms) first.is first.holds; before = λ o lt possible. first.lower o (omega arith) lt (passes o possible) possible })
    where
      test : ℕ → Bool
      test group = not (has_placed file ms pot group)

      there : candidates file ms ≡ group_choices (open_groups file ms (Some pot))
      there = ap (candidates_in file ms) waits ∙ ap (λ o. group_choices (open_groups file ms o)) e

      passes : (o : ℕ) → IsPossible file ms (Choice.Group o) → test o ≡ true
      passes o possible =
          let among = subst (λ cs. IsAmong cs (Choice.Group o)) there possible.1.0 in
          let found = map_among (λ group. Choice.Group group) (open_groups file ms (Some pot)) (Choice.Group o) among in
          let same : found.0 ≡ o = (let both = found.2 in cc) in
          ap test (sym same) ∙ (among_kept test (groups_of file) found.0 found.1).0

  pub first_offered : IsOffer file ms (c ∷ rest) → (group : ℕ) × (c ≡ Choice.Group group) × IsFirstPossibleGroup file ms group
  first_offered offer = of_pot (pot_of file t) refl (subst (λ cs. Picks (IsPossible file ms) cs (c ∷ rest)) (ap (candidates_in file ms) waits) offer)

  -- its move
  pub first_move : (m : Move) → IsOffer file ms (c ∷ rest) → IsMoveOf file ms c m → (group : ℕ) × (m ≡ Move.Placed t group) × IsFirstPossibleGroup file ms group
  first_move m offer is =
      let first = first_offered offer in
      let e : Some (Move.Placed t first.0) ≡ Some m = sym (ap (λ p. move_in p (Choice.Group first.0)) waits) ∙ ap (move_in (phase_of file ms)) (sym first.1) ∙ is.1 in
      (first.0, sym (same_item (Move.Placed t first.0) m e), first.2)

-- ---- the first that an offer has

pub not_empty : (os : List Choice) (c : Choice) → IsAmong os c → 0 < length os
not_empty [] c among = absurd (none_among c among)
not_empty (o ∷ os) c among = omega arith

-- the item at the first place, and those after it
at_first : (os : List Choice) (d : Choice) → 0 < length os → d ≡ get_or os 0 d → (rest : List Choice) × (os ≡ d ∷ rest)
at_first [] d some e = absurd (omega arith)
at_first (o ∷ os) d some e = (os, ap (λ x. x ∷ os) (sym e))

module _ (state : State) (os : List Choice) (offer : IsOffer state.file state.moves os) where
  -- where a team takes a group, the offer has one
  pub some_offered : OfferedWherePossible → (next : State) → TakesGroup state next → 0 < length os
  some_offered law next takes =
      let c = Choice.Group takes.group in
      not_empty os c ((law state.file state.moves os c offer).1 takes.first.possible)

  module _ (d : Choice) (some : 0 < length os) (first : d ≡ get_or os 0 d) where
    -- what stands first is a candidate
    pub first_candidate : IsAmong (candidates state.file state.moves) d
    first_candidate =
        let parts = at_first os d some first in
        let among : IsAmong os d = subst (λ xs. IsAmong xs d) (sym parts.1) (0, refl) in
        (picked (IsPossible state.file state.moves) d (candidates state.file state.moves) os offer among).1

    -- where a team takes a group, it is the first possible one
    pub takes_first : (other next : State) → TakesGroup state other → AddsMoveOf state d next → TakesGroup state next
    takes_first other next takes adds =
        let parts = at_first os d some first in
        let here = subst (IsOffer state.file state.moves) parts.1 offer in
        let m = first_move state.file state.moves takes.team takes.waits d parts.0 adds.0 here adds.1 in
        record {
          team = takes.team;
          group = m.0;
          waits = takes.waits;
          first = m.2;
          next_is = with_move state next adds.0 adds.2 adds.3 ∙ ap (λ n. state_with state (n ∷ [])) m.1;
        }
