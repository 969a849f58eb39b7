-- Where a team waits for a group and the moves can be completed, some group is possible, and so a first one.
use Rattle.std.proofs.Common.{◌≡◌, ◌≢◌, ℕ, zero, suc, ◌+◌, ◌<◌, true, false, not, List, ◌⊎◌, inl, inr, Option, Some, None, slice_get, refl, sym, ap, subst, ◌∙◌, arith, zero-add}
use Rattle.std.specs.Prelude.{◌==◌, nat_eq, option_map}
use Rattle.std.specs.Option.{option_eq}
use Rattle.std.proofs.lemmas.Bool.{cases_eq, eqb-true, eq-eqb, and_parts, false_from_ne_true}
use Rattle.std.proofs.lemmas.Option.{slice_get_within}
use Rattle.team_files.specs.declared.kind.Kind.{Kind}
use Rattle.team_files.specs.declared.team.Team.{Team}
use Rattle.team_files.specs.declared.team_id.TeamId.{TeamId}
use Rattle.rule_sets.specs.Files.{DrawFile}
use Rattle.draw_tables.specs.declared.group_table.GroupTable.{GroupTable}
use Rattle.draw_tables.specs.declared.table.Table.TheVariants.{Group, Pairs}
use Rattle.draw_tables.specs.declared.moves.Move.{Move}
use Rattle.draw_tables.specs.declared.moves.Move.TheVariants.{Drawn, Placed, Positioned, Paired}
use Rattle.draw_tables.specs.declared.moves.Choice.{Choice}
use Rattle.draw_tables.specs.declared.moves.Choice.TheVariants as choice
use Rattle.draw_tables.specs.declared.moves.Phase.TheVariants as phase
use Rattle.draw_tables.specs.Lists.{IsAmong}
use Rattle.draw_tables.specs.Pots.{pot_of, is_of_pot, teams_of_pot, pots_of, IsPot}
use Rattle.draw_tables.specs.Moves.{is_drawn}
use Rattle.draw_tables.specs.GroupPhases.{has_undrawn, undrawn_of_pot, places_in, has_placed, open_groups, groups_for}
use Rattle.draw_tables.specs.GroupTables.{group_of, stands_in, IsLegalGroups}
use Rattle.draw_tables.specs.States.{candidates_in, candidates, phase_of, move_in, IsCandidateMove, IsState}
use Rattle.draw_tables.specs.Offers.{Extends, IsCompletable, IsPossible, IsOffer}
use Rattle.draw_tables.proofs.Lists.{same_item, item_at, map_at, in_range, found, one_passes}
use Rattle.draw_tables.proofs.PotMembers.{pot_among, among_pot, among_kept, among_choices}
use Rattle.draw_tables.proofs.PotOrder.{pot_team}
use Rattle.draw_tables.proofs.FreeGroups.{is_open_group}
use Rattle.draw_tables.proofs.GroupCounts.{only_counted}
use Rattle.draw_tables.proofs.HeldPositions.{extends_at, extends_more}
use Rattle.draw_tables.proofs.OfferLaws.{offered_where_possible}
use Rattle.draw_state.specs.Commands.{IsFirstPossibleGroup}
use Rattle.draw_state.proofs.Outcomes.{is_among}
use Rattle.draw_state.proofs.GroupPhases.{taken_by, drawn_choice, drawn_phase, waits_for_group, drawn_last, last_candidate, placed_has_group}

-- ---- the first number that has a property

-- below i no number has the property, and i + k has it
first_from : (P : ℕ → Type 0) → ((n : ℕ) → P n ⊎ ¬ P n) → (k i : ℕ) → P (i + k) → ((o : ℕ) → o < i → ¬ P o)
    → (g : ℕ) × P g × ((o : ℕ) → o < g → ¬ P o)
first_from P decide zero i has below = (i + 0, has, λ o lt. below o (omega arith))
first_from P decide (suc k) i has below = go (decide i) (λ more. first_from P decide k (i + 1) (let e : i + 1 + k ≡ i + suc k = omega arith in rw e has) more)
  where
    go : P i ⊎ ¬ P i → (((o : ℕ) → o < i + 1 → ¬ P o) → (g : ℕ) × P g × ((o : ℕ) → o < g → ¬ P o)) → (g : ℕ) × P g × ((o : ℕ) → o < g → ¬ P o)
    go (inl here) rest = (i, here, below)
    go (inr not) rest = rest (λ o lt. at o lt (cases_eq o i))
      where
        at : (o : ℕ) → o < i + 1 → (o ≡ i) ⊎ (o ≡ i → ⊥) → ¬ P o
        at o lt (inl e) = rw e not
        at o lt (inr n) = below o (let l : o < i = (let m : o ≢ i = n in omega arith) in l)

-- ---- pots

module _ (file : DrawFile) where
  -- the team is of a pot of the file
  abbrev IsInPot : TeamId → Type 0
  IsInPot t = (pot : ℕ) × IsPot file pot × IsAmong (teams_of_pot pot file) t

  -- a team that was drawn in a group draw is of a pot of the file
  drawn_in_pot : (ms : List Move) (t : TeamId) → file.kind ≡ Kind.Group → IsCandidateMove file ms (Drawn t) → IsInPot t
  drawn_in_pot ms t kind (c, (among, is)) =
      let p = drawn_phase file ms t kind (taken_by (phase_of file ms) c (Drawn t) is) in
      let pot = p.0 in
      let team = drawn_choice pot c t (subst (λ ph. move_in ph c ≡ Some (Drawn t)) p.1 is) in
      let there = subst (λ ph. IsAmong (candidates_in file ms ph) c) p.1 among in
      let kept = among_choices (undrawn_of_pot file ms pot) t (subst (λ d. IsAmong (candidates_in file ms (phase.Team pot)) d) team there) in
      let in_pots = (found (has_undrawn file ms) (pots_of file) pot p.2).0 in
      let range = in_range 1 file.pots in_pots.0 pot in_pots.1 in
      let low = range.0 in
      let high = range.1 in
      (pot, (omega arith, omega arith), (among_kept (λ s. not (is_drawn s ms)) (teams_of_pot pot file) t kept).1)

  -- the pot of a team that stands in a pot
  pub pot_is : (pot : ℕ) (t : TeamId) → IsAmong (teams_of_pot pot file) t → pot_of file t ≡ Some pot
  pot_is pot t among =
      let h = among_pot pot 0 file.teams t among in
      let n : t.0 ≡ h.0 = omega (arith, h.2.number) in
      ap (λ k. option_map (λ team. team.pot) (slice_get file.teams k)) n ∙ ap (option_map (λ team. team.pot)) h.2.stands ∙ ap Some h.2.pot_is

  -- a team stands in its pot
  in_pot : (pot : ℕ) (t : TeamId) → is_of_pot file pot t ≡ true → IsAmong (teams_of_pot pot file) t
  in_pot pot t e = go (slice_get file.teams t.0) refl e
    where
      go : (o : Option Team) → slice_get file.teams t.0 ≡ o → option_eq nat_eq (option_map (λ team. team.pot) o) (Some pot) ≡ true → IsAmong (teams_of_pot pot file) t
      go None is f = cc
      go (Some u) is f = rw zero-add at (pot_among pot 0 file.teams t.0 u is (eqb-true u.pot pot f))

  -- ---- the group that a table gives

  module _ (ms : List Move) (t : TeamId) (waits : phase_of file ms ≡ phase.Group t) where
    -- a group of the table has no other team of the pot
    free_there : (groups : GroupTable) → IsLegalGroups file groups.places → Extends file (Group groups) ms → (pot g : ℕ) → IsPot file pot → IsAmong (teams_of_pot pot file) t
        → g < file.groups → group_of groups.places t ≡ Some g → has_placed file ms pot g ≡ false
    free_there groups legal extends pot g is_pot among lt stands = false_from_ne_true (has_placed file ms pot g) (λ has. let m = one_passes (places_in file pot g) ms has in taken m.0 m.1 m.2)
      where
        test_of : (s : TeamId) → group_of groups.places s ≡ Some g → stands_in groups.places g s ≡ true
        test_of s e = ap (λ o. option_eq nat_eq o (Some g)) e ∙ eq-eqb g g refl

        taken : (m : Move) → IsAmong ms m → places_in file pot g m ≡ true → ⊥
        taken (Drawn s) there e = cc
        taken (Positioned s q) there e = cc
        taken (Paired r w) there e = cc
        taken (Placed s k) there e =
            let both = and_parts (k == g) (is_of_pot file pot s) e in
            let here : k ≡ g = eqb-true k g both.0 in
            let of_s = in_pot pot s both.1 in
            let in_g : group_of groups.places s ≡ Some g = extends_at file (Group groups) ms (Placed s k) extends there ∙ ap Some here in
            let place = only_counted (stands_in groups.places g) (teams_of_pot pot file) (legal.pots g pot lt is_pot) of_s.0 among.0 s t of_s.1 (test_of s in_g) among.1 (test_of t stands) in
            let same : s ≡ t = same_item s t (sym of_s.1 ∙ ap (slice_get (teams_of_pot pot file)) place ∙ among.1) in
            placed_has_group ms t k (subst (λ r. IsAmong ms (Placed r k)) same there) (waits_for_group file ms t waits).without

    -- an open group is possible where some legal table has the team in it
    pub is_possible : (groups : GroupTable) (g pot : ℕ) → file.kind ≡ Kind.Group → IsLegalGroups file groups.places → Extends file (Group groups) ms → pot_of file t ≡ Some pot
        → g < file.groups → has_placed file ms pot g ≡ false → group_of groups.places t ≡ Some g → IsPossible file ms (choice.Group g)
    is_possible groups g pot kind legal extends of_pot lt free stands = (Placed t g, (candidate, ap (λ p. move_in p (choice.Group g)) waits), (Group groups, (kind, legal), extends_more file (Group groups) ms (Placed t g) extends stands))
      where
        candidate : IsAmong (candidates file ms) (choice.Group g)
        candidate =
            let among = is_open_group file ms pot g lt free in
            let open_there : IsAmong (groups_for file ms t) g = subst (λ o. IsAmong (open_groups file ms o) g) (sym of_pot) among in
            subst (λ p. IsAmong (candidates_in file ms p) (choice.Group g)) (sym waits) (open_there.0, map_at (λ k. choice.Group k) (groups_for file ms t) open_there.0 g open_there.1)

    -- some group is possible
    pub some_group : IsState file ms → IsCompletable file ms → (g : ℕ) × IsPossible file ms (choice.Group g)
    some_group state (Pairs pairs, legal, extends) = let clash = sym legal.0 ∙ (waits_for_group file ms t waits).kind in cc
    some_group state (Group groups, legal, extends) =
        let kind = legal.0 in
        let front = drawn_last file ms t state waits in
        let p = drawn_in_pot front.0 t kind (last_candidate file front.0 (Drawn t) (subst (IsState file) front.1 state)) in
        let team = pot_team p.0 file p.2.0 t p.2.1 in
        let size = legal.1.size in
        let within = slice_get_within file.teams t.0 team.0 team.1 in
        let place = item_at groups.places t.0 (omega arith) in
        let g = place.0.group in
        let stands : group_of groups.places t ≡ Some g = ap (option_map (λ x. x.group)) place.1 in
        let lt = (legal.1.places place.0 (t.0, place.1)).0 in
        let free = free_there groups legal.1 extends p.0 g p.1 p.2 lt stands in
        (g, is_possible groups g p.0 kind legal.1 extends (pot_is p.0 t p.2) lt free stands)

    -- and a first one
    pub first_group : IsState file ms → IsCompletable file ms → (offered : List Choice) → IsOffer file ms offered → (g : ℕ) × IsFirstPossibleGroup file ms g
    first_group state completable offered offer =
        let some = some_group state completable in
        let first = first_from (λ g. IsPossible file ms (choice.Group g)) decide some.0 0 (let e : 0 + some.0 ≡ some.0 = omega arith in rw e some.1) (λ o lt. absurd (omega arith)) in
        (first.0, record { possible = first.1; before = first.2 })
      where
        decide : (g : ℕ) → IsPossible file ms (choice.Group g) ⊎ ¬ IsPossible file ms (choice.Group g)
        decide g = from (is_among (choice.Group g) offered)
          where
            from : IsAmong offered (choice.Group g) ⊎ (IsAmong offered (choice.Group g) → ⊥) → IsPossible file ms (choice.Group g) ⊎ ¬ IsPossible file ms (choice.Group g)
            from (inl h) = inl ((offered_where_possible file ms offered (choice.Group g) offer).0 h)
            from (inr n) = inr (λ possible. n ((offered_where_possible file ms offered (choice.Group g) offer).1 possible))
