-- What a legal group table gives: the pot's team of a group, its group, and the position that its ball gives it.
use Rattle.std.proofs.Common.{◌≡◌, ◌≢◌, ℕ, ◌<◌, ◌≤◌, ◌⊎◌, inl, inr, Bool, true, List, [], ◌∷◌, length, Option, Some, None, slice_get, arith, refl, sym, ap, ◌∙◌}
use Rattle.std.specs.Prelude.{nat_eq, option_map, filter}
use Rattle.std.specs.Option.{option_eq}
use Rattle.std.proofs.lemmas.Bool.{eqb-true, eq-eqb, cases_order}
use Rattle.std.proofs.lemmas.List.Sums.{length-filter}
use Rattle.std.proofs.lemmas.Option.{slice_get_within}
use Rattle.team_files.specs.declared.team_id.TeamId.{TeamId}
use Rattle.rule_sets.specs.Files.{DrawFile}
use Rattle.draw_tables.specs.declared.group_place.GroupPlace.{GroupPlace}
use Rattle.draw_tables.specs.Lists.{IsAmong}
use Rattle.draw_tables.specs.Pots.{IsPot, teams_of_pot, pot_of}
use Rattle.draw_tables.specs.GroupTables.{group_of, position_of, stands_in, IsLegalGroups}
use Rattle.draw_tables.proofs.Lists.{same_item, item_at}
use Rattle.draw_tables.proofs.Numbers.{same_id}
use Rattle.draw_tables.proofs.PotMembers.{among_kept}
use Rattle.draw_tables.proofs.PotOrder.{pot_team}
use Rattle.draw_tables.proofs.GroupCounts.{only_counted}
use Rattle.draw_tables.proofs.HeldPositions.{one_team_at}
use Rattle.draw_state.proofs.FirstGroups.{pot_is}

-- a list of one item
one_item : {A : Type 0} (xs : List A) → length xs ≡ 1 → (x : A) × (xs ≡ x ∷ [])
one_item [] e = cc
one_item (x ∷ []) e = (x, refl)
one_item (x ∷ y ∷ xs) e = absurd (omega arith)

-- the item of which there is one is all that is kept
kept_one : {A : Type 0} (p : A → Bool) (xs : List A) (x : A) → filter p xs ≡ x ∷ [] → (p x ≡ true) × IsAmong xs x
kept_one {A = A} p xs x e = among_kept p xs x (0, ap (λ (ys : List A). slice_get ys 0) e)

is_some : (o : Option ℕ) (n : ℕ) → option_eq nat_eq o (Some n) ≡ true → o ≡ Some n
is_some None n e = cc
is_some (Some m) n e = ap Some (eqb-true m n e)

-- another position than the first is a later one
later_one : (p : ℕ) → 1 ≤ p → p ≢ 1 → 2 ≤ p
later_one p low n = go (cases_order p 1)
  where
    go : (p ≡ 1) ⊎ ((p < 1) ⊎ (1 < p)) → 2 ≤ p
    go (inl e) = absurd (n e)
    go (inr (inl lt)) = absurd (omega arith)
    go (inr (inr gt)) = omega arith

module _ (file : DrawFile) (table : List GroupPlace) (legal : IsLegalGroups file table) where
  -- the team is of the pot and stands in the group
  pub record IsTeamAt (pot group : ℕ) (t : TeamId) : Type 0 where
    pub among : IsAmong (teams_of_pot pot file) t
    pub stands : stands_in table group t ≡ true

  pub of_pot : (pot group : ℕ) (t : TeamId) → IsTeamAt pot group t → pot_of file t ≡ Some pot
  of_pot pot group t is = pot_is file pot t is.among

  pub in_group : (pot group : ℕ) (t : TeamId) → IsTeamAt pot group t → group_of table t ≡ Some group
  in_group pot group t is = is_some (group_of table t) group is.stands

  -- a team is of one pot and stands in one group
  pub one_pot_and_group : (p g q k : ℕ) (t s : TeamId) → IsTeamAt p g t → IsTeamAt q k s → t.0 ≡ s.0 → (p ≡ q) × (g ≡ k)
  one_pot_and_group p g q k t s h f e =
      let same = same_id t s e in (
        same_item p q (sym (of_pot p g t h) ∙ ap (pot_of file) same ∙ of_pot q k s f),
        same_item g k (sym (in_group p g t h) ∙ ap (group_of table) same ∙ in_group q k s f),
      )

  -- a group has one team of a pot
  pub one_team : (pot group : ℕ) (t s : TeamId) → group < file.groups → IsPot file pot → IsTeamAt pot group t → IsTeamAt pot group s → t ≡ s
  one_team pot group t s in_groups in_pots h f =
      let place = only_counted (stands_in table group) (teams_of_pot pot file) (legal.pots group pot in_groups in_pots) h.among.0 f.among.0 t s h.among.1 h.stands f.among.1 f.stands in
      same_item t s (sym h.among.1 ∙ ap (slice_get (teams_of_pot pot file)) place ∙ f.among.1)

  -- it is all that the teams of the pot that stand in the group are
  pub team_there : (pot group : ℕ) → group < file.groups → IsPot file pot
      → (t : TeamId) × IsTeamAt pot group t × (filter (stands_in table group) (teams_of_pot pot file) ≡ t ∷ [])
  team_there pot group in_groups in_pots =
      let one = one_item (filter (stands_in table group) (teams_of_pot pot file)) (length-filter (stands_in table group) (teams_of_pot pot file) ∙ legal.pots group pot in_groups in_pots) in
      let is = kept_one (stands_in table group) (teams_of_pot pot file) one.0 one.1 in
      (one.0, record { among = is.1; stands = is.0 }, one.1)

  -- a team of a pot has a place in the table
  place_of : (pot : ℕ) (t : TeamId) → IsAmong (teams_of_pot pot file) t → (place : GroupPlace) × (slice_get table t.0 ≡ Some place)
  place_of pot t among =
      let team = pot_team pot file among.0 t among.1 in
      let within = slice_get_within file.teams t.0 team.0 team.1 in
      let size = legal.size in
      item_at table t.0 (omega arith)

  -- and so a group
  pub its_group : (pot : ℕ) (t : TeamId) → IsAmong (teams_of_pot pot file) t → (g : ℕ) × (g < file.groups) × IsTeamAt pot g t
  its_group pot t among =
      let place = place_of pot t among in
      let in_file = legal.places place.0 (t.0, place.1) in (
        place.0.group,
        in_file.0,
        record {
          among = among;
          stands = ap (λ o. option_eq nat_eq (option_map (λ x. x.group) o) (Some place.0.group)) place.1 ∙ eq-eqb place.0.group place.0.group refl;
        },
      )

  -- the position of a team of pot 2 or higher is not that of the team of pot 1
  pub its_position : (pot group : ℕ) (t : TeamId) → group < file.groups → IsPot file pot → IsTeamAt pot group t → pot ≢ 1
      → (p : ℕ) × (position_of table t ≡ Some p) × (2 ≤ p) × (p ≤ file.pots)
  its_position pot group t in_groups in_pots is n =
      let place = place_of pot t is.among in
      let in_file = legal.places place.0 (t.0, place.1) in
      let stands : position_of table t ≡ Some place.0.position = ap (option_map (λ x. x.position)) place.1 in
      (place.0.position, stands, later_one place.0.position in_file.1.0 (λ e. not_first (stands ∙ ap Some e)), in_file.1.1)
    where
      first_pot : IsPot file 1
      first_pot = let low = in_pots.0 in let high = in_pots.1 in (omega arith, omega arith)

      head : (h : TeamId) × IsTeamAt 1 group h × (filter (stands_in table group) (teams_of_pot 1 file) ≡ h ∷ [])
      head = team_there 1 group in_groups first_pot

      not_first : position_of table t ≡ Some 1 → ⊥
      not_first e =
          let same = one_team_at file table legal t head.0 group 1 (in_group pot group t is) e (in_group 1 group head.0 head.1) (legal.heads head.0 head.1.among) in
          n (one_pot_and_group pot group 1 group t head.0 is head.1 same).0
