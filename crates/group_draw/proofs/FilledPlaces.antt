-- The places that groups give: they have these groups, and their positions are filled.
use Rattle.std.proofs.Common.{◌≡◌, ℕ, ◌+◌, ◌-◌, ◌*◌, ◌<◌, ◌≤◌, ◌⊎◌, inl, inr, Bool, List, [], ◌∷◌, ◌++◌, length, map, Option, Some, None, slice_get, arith, refl, sym, ap, ◌∙◌, subst, length-append}
use Rattle.std.specs.Prelude.{slice_index_or, option_map}
use Rattle.std.specs.List.{range_with_len}
use Rattle.std.proofs.lemmas.List.{length-map}
use Rattle.std.proofs.lemmas.List.FromFn.{fill_by_all, length-range_with_len}
use Rattle.std.proofs.lemmas.Option.{same_Some, get_or_from_slice_get, slice_get_within, slice_get-get_or}
use Rattle.team_files.specs.declared.team.Team.{Team}
use Rattle.team_files.specs.declared.team_id.TeamId.{TeamId}
use Rattle.rule_sets.specs.Files.{DrawFile}
use Rattle.rule_sets.specs.Forms.{IsInPot}
use Rattle.list_counts.proofs.Entries.{entry_at, get_joined, in_range, length_joined, map_at, map_map, map_same, push_at}
use Rattle.list_counts.proofs.Facts.{each_at}
use Rattle.list_counts.specs.Filling.{filled}
use Rattle.list_counts.proofs.CleanWishes.{filled_size}
use Rattle.list_counts.proofs.Atoms.{atom_within}
use Rattle.list_counts.proofs.Ones.{number_at}
use Rattle.draw_tables.specs.declared.group_place.GroupPlace.{GroupPlace}
use Rattle.draw_tables.specs.declared.moves.Move.{Move}
use Rattle.draw_tables.specs.Pots.{groups_of, pots_of}
use Rattle.draw_tables.specs.GroupTables.{position_of}
use Rattle.group_draw.specs.Decoding.{given_groups, wish_in, wishes_in, position_for, pot_at, group_at, place_at, place_from, fillings, filled_places, ArePlacesFilled, AreGroupsOf, AreTrueGroups, HasPots, IsTrueGroup}

module _ (file : DrawFile) (ms : List Move) (groups : List ℕ) (size : length groups ≡ length file.teams) where
  -- they have these groups
  pub given_back : given_groups (filled_places file ms groups) ≡ groups
  given_back =
      map_map (λ (place : GroupPlace). place.group) (place_at file ms groups) (range_with_len 0 (length file.teams))
      ∙ sym (fill_by_all (group_at groups) groups (length file.teams) 0 size (λ k lt. refl))

  -- the place of a team
  place_is : (t : TeamId) (u : Team) → slice_get file.teams t.0 ≡ Some u → slice_get (filled_places file ms groups) t.0 ≡ Some (place_at file ms groups t.0)
  place_is t u e = map_at (place_at file ms groups) (range_with_len 0 (length file.teams)) t.0 t.0 (number_at (length file.teams) t.0 (slice_get_within file.teams t.0 u e))

  -- their positions are filled
  pub are_filled : ArePlacesFilled file ms (filled_places file ms groups)
  are_filled t g pot in_g of_pot = go (slice_get file.teams t.0) refl of_pot
    where
      go : (o : Option Team) → slice_get file.teams t.0 ≡ o → option_map (λ team. team.pot) o ≡ Some pot
          → position_of (filled_places file ms groups) t ≡ Some (position_for file ms (given_groups (filled_places file ms groups)) g pot)
      go None is e = cc
      go (Some u) is e =
          let place = place_is t u is in
          let pot_is : pot_at file t.0 ≡ pot = get_or_from_slice_get (map (λ x. x.pot) file.teams) t.0 u.pot 0 (map_at (λ x. x.pot) file.teams t.0 u is) ∙ same_Some u.pot pot e in
          let group_is : group_at groups t.0 ≡ g = same_Some (group_at groups t.0) g (sym (ap (option_map (λ (x : GroupPlace). x.group)) place) ∙ in_g) in
          ap (option_map (λ (x : GroupPlace). x.position)) place
          ∙ ap (λ j. Some (position_for file ms groups j (pot_at file t.0))) group_is
          ∙ ap (λ q. Some (position_for file ms groups g q)) pot_is
          ∙ ap (λ gs. Some (position_for file ms gs g pot)) (sym given_back)

-- ---- the positions of all groups, one group after the other

module _ (file : DrawFile) (pots : HasPots file) where
  -- a team stands in one of the pots
  pub pot_within : (i : ℕ) (u : Team) → slice_get file.teams i ≡ Some u → (1 ≤ u.pot) × (u.pot ≤ file.pots)
  pot_within i u e = each_at (IsInPot file.pots) file.teams pots.teams i u e

  -- the place of a team's position among those of all groups
  module _ (groups : List ℕ) (of_file : AreGroupsOf file groups) (positions : List ℕ) (size : length positions ≡ file.groups * file.pots) (i : ℕ) (u : Team) (is : slice_get file.teams i ≡ Some u) (n : ℕ) (number : n ≡ file.pots) where
    pub place_bound : slice_index_or groups i 0 * n + (u.pot - 1) < length positions
    place_bound =
        let lt = slice_get_within file.teams i u is in
        let long = of_file.size in
        let group = slice_get-get_or groups i 0 (omega arith) in
        let within = pot_within i u is in
        let low = within.0 in
        let high = within.1 in
        rw (number, size) (atom_within file.groups file.pots (slice_index_or groups i 0) (u.pot - 1) (of_file.within i (slice_index_or groups i 0) group) (omega arith))

    pub place_value : ◌≡◌ {A = GroupPlace} (record { group = slice_index_or groups i 0; position = slice_index_or positions (slice_index_or groups i 0 * n + (u.pot - 1)) 0 }) (place_from file groups positions i)
    place_value =
        let pot_is : pot_at file i ≡ u.pot = get_or_from_slice_get (map (λ t. t.pot) file.teams) i u.pot 0 (map_at (λ t. t.pot) file.teams i u is) in
        rw (number, pot_is) refl

  module _ (ms : List Move) (groups : List ℕ) where
    pub wishes_size : (g : ℕ) → length (wishes_in file ms groups g) ≡ file.pots
    wishes_size g = length-map (pots_of file) (wish_in file ms groups g) ∙ length-range_with_len 1 file.pots

    filling_size : (g : ℕ) → length (filled (wishes_in file ms groups g)) ≡ file.pots
    filling_size g = filled_size (wishes_in file ms groups g) ∙ wishes_size g

    -- each group has as many as there are pots
    pub fillings_size : length (fillings file ms groups) ≡ file.groups * file.pots
    fillings_size = length_joined (λ g. filled (wishes_in file ms groups g)) file.pots filling_size (groups_of file) ∙ ap (λ n. n * file.pots) (length-range_with_len 0 file.groups)

    -- the position of a team among them is that of its pot in its group
    position_same : (g q : ℕ) → g < file.groups → 1 ≤ q → q ≤ file.pots → slice_index_or (fillings file ms groups) (g * file.pots + (q - 1)) 0 ≡ position_for file ms groups g q
    position_same g q lt low high =
        let size = filling_size g in
        let entry = entry_at (filled (wishes_in file ms groups g)) (q - 1) (omega arith) in
        let joined = get_joined (λ k. filled (wishes_in file ms groups k)) file.pots filling_size (groups_of file) g (q - 1) g entry.0 (number_at file.groups g lt) entry.1 in
        get_or_from_slice_get (fillings file ms groups) (g * file.pots + (q - 1)) entry.0 0 joined
        ∙ sym (get_or_from_slice_get (filled (wishes_in file ms groups g)) (q - 1) entry.0 0 entry.1)

    -- so the places that are made of them are those of the groups
    pub places_same : AreGroupsOf file groups → map (place_from file groups (fillings file ms groups)) (range_with_len 0 (length file.teams)) ≡ filled_places file ms groups
    places_same of_file = map_same (place_from file groups (fillings file ms groups)) (place_at file ms groups) (range_with_len 0 (length file.teams)) (λ k i e.
        let u = (in_range 0 (length file.teams) k i e).1 in
        let size = of_file.size in
        let group = entry_at groups i (omega arith) in
        let team = entry_at file.teams i (omega arith) in
        let group_is = get_or_from_slice_get groups i group.0 0 group.1 in
        let pot_is = get_or_from_slice_get (map (λ t. t.pot) file.teams) i team.0.pot 0 (map_at (λ t. t.pot) file.teams i team.0 team.1) in
        let within = pot_within i team.0 team.1 in
        let lt : group_at groups i < file.groups = rw group_is (of_file.within i group.0 group.1) in
        let low : 1 ≤ pot_at file i = rw pot_is within.0 in
        let high : pot_at file i ≤ file.pots = rw pot_is within.1 in
        ap (λ p. record { group = group_at groups i; position = p }) (position_same (group_at groups i) (pot_at file i) lt low high))

-- ---- the groups, team by team

-- one more team has a group whose atom is true
pub groups_more : (file : DrawFile) (values : List Bool) (n : ℕ) (groups new : List ℕ) (group : ℕ) → length groups ≡ n
    → ((t : TeamId) (g : ℕ) → slice_get groups t.0 ≡ Some g → IsTrueGroup file values t g)
    → IsTrueGroup file values (record { 0 = n }) group → new ≡ groups ++ group ∷ []
    → (length new ≡ n + 1) × ((t : TeamId) (g : ℕ) → slice_get new t.0 ≡ Some g → IsTrueGroup file values t g)
groups_more file values n groups new group size atoms here push = rw push (
  (let l = length-append groups (group ∷ []) in omega arith),
  λ t g e. by_place t g (push_at groups group t.0 g e),
)
  where
    by_place : (t : TeamId) (g : ℕ) → (slice_get groups t.0 ≡ Some g) ⊎ ((t.0 ≡ length groups) × (group ≡ g)) → IsTrueGroup file values t g
    by_place t g (inl h) = atoms t g h
    by_place t g (inr h) =
        let place : n ≡ t.0 = omega (arith, h.0) in
        subst (IsTrueGroup file values t) h.1 (subst (λ k. IsTrueGroup file values (record { 0 = k }) group) place here)

-- groups whose atoms are true are groups of the file
pub groups_of_file : (file : DrawFile) (values : List Bool) (groups : List ℕ) → AreTrueGroups file values groups → AreGroupsOf file groups
groups_of_file file values groups read = record {
  size = read.size;
  within = λ k g e. (read.atoms (record { 0 = k }) g e).0;
}
