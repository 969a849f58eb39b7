-- What the form of a group draw's file says of its fixed places, its teams and its atoms.
use Rattle.std.proofs.Common.{◌≡◌, ℕ, ◌<◌, ◌≤◌, ◌⊎◌, inl, inr, true, false, List, Some, slice_get, arith, sym, ap, ◌∙◌, subst}
use Rattle.std.specs.Prelude.{All, AllPairs, slice_index_or, option_map}
use Rattle.std.proofs.lemmas.Bool.{cases_order}
use Rattle.std.proofs.lemmas.List.Elements.{recursion_from_All}
use Rattle.std.proofs.lemmas.Option.{same_Some, slice_get_within, get_or_from_slice_get}
use Rattle.team_files.specs.declared.kind.Kind.{Kind}
use Rattle.team_files.specs.declared.team.Team.{Team}
use Rattle.team_files.specs.declared.team_id.TeamId.{TeamId}
use Rattle.rule_sets.specs.declared.place.Place.{Place}
use Rattle.rule_sets.specs.Files.{DrawFile}
use Rattle.rule_sets.specs.Forms.{HasForm, HasGroupForm, IsInPot, NamesTwoTeams, IsPlaceIn, AreApart}
use Rattle.list_counts.proofs.Entries.{entry_at}
use Rattle.list_counts.proofs.Facts.{each_from}
use Rattle.draw_tables.specs.Lists.{IsAmong}
use Rattle.draw_tables.specs.Pots.{pot_of, is_of_pot, IsPot, IsTeamOf}
use Rattle.group_draw.specs.Encoding.{IsPairOf, IsPlaceOf, HasAtoms}
use Rattle.group_draw.specs.Decoding.{HasPots}
use Rattle.group_draw.proofs.Teams.{of_pot_is, is_of}

-- what holds of all holds at each place
pub all_at : {X : Type 0} (P : X → Type 0) (xs : List X) → All P xs → (k : ℕ) (x : X) → slice_get xs k ≡ Some x → P x
all_at P xs h k x e = subst P (get_or_from_slice_get xs k x x e) (h k x (slice_get_within xs k x e))

-- and of two places what holds of all pairs
pairs_at : {X : Type 0} (R : X → X → Type 0) (xs : List X) → AllPairs R xs → (i j : ℕ) (x y : X) → i < j → slice_get xs i ≡ Some x → slice_get xs j ≡ Some y → R x y
pairs_at R xs h i j x y lt e f =
    subst (λ z. R z y) (get_or_from_slice_get xs i x x e)
    (subst (λ z. R (slice_index_or xs i x) z) (get_or_from_slice_get xs j y x f) (h i j x lt (slice_get_within xs j y f)))

module _ (file : DrawFile) (kind : file.kind ≡ Kind.Group) (form : HasForm file) where
  abbrev group_form : HasGroupForm file
  group_form = form.group kind

  -- ---- atoms

  pub has_atoms : HasAtoms file
  has_atoms = record {
    few_teams = form.common.few_teams;
    few_groups = group_form.groups.1;
    pairs = each_from (IsPairOf file) file.pairs (λ k pair e. let p = all_at (NamesTwoTeams file.teams) file.pairs form.common.pairs k pair e in (p.first, p.second));
    places = each_from (IsPlaceOf file) file.places (λ k place e. let p = all_at (IsPlaceIn file) file.places group_form.places k place e in (p.team, p.group));
  }

  -- ---- pots

  pub has_pots : HasPots file
  has_pots = record {
    few_pots = group_form.pots.1;
    few_groups = group_form.groups.1;
    teams = recursion_from_All (IsInPot file.pots) file.teams form.common.in_pots;
  }

  -- a team has one of the pots
  pub its_pot : (t : TeamId) → IsTeamOf file t → (pot : ℕ) × (pot_of file t ≡ Some pot) × IsPot file pot
  its_pot t lt =
      let u = entry_at file.teams t.0 lt in
      let within = all_at (IsInPot file.pots) file.teams form.common.in_pots t.0 u.0 u.1 in
      (u.0.pot, ap (option_map (λ team. team.pot)) u.1, within)

  -- ---- fixed places

  place_in : (place : Place) → IsAmong file.places place → IsPlaceIn file place
  place_in place m = all_at (IsPlaceIn file) file.places group_form.places m.0 place m.1

  pub place_within : (place : Place) → IsAmong file.places place → (1 ≤ place.position) × (place.position ≤ file.pots)
  place_within place m = (place_in place m).position

  pub place_team : (place : Place) → IsAmong file.places place → IsTeamOf file place.team
  place_team place m = (place_in place m).team

  -- position 1 is for pot 1
  pub first_place : (place : Place) → IsAmong file.places place → is_of_pot file 1 place.team ≡ true → place.position ≡ 1
  first_place place m is =
      let p = place_in place m in
      let u = entry_at file.teams place.team.0 p.team in
      let pot : u.0.pot ≡ 1 = same_Some u.0.pot 1 (sym (ap (option_map (λ team. team.pot)) u.1) ∙ of_pot_is file 1 place.team is) in
      (p.head u.0 u.1).0 pot

  pub later_place : (place : Place) → IsAmong file.places place → is_of_pot file 1 place.team ≡ false → 2 ≤ place.position
  later_place place m isnt =
      let p = place_in place m in
      let u = entry_at file.teams place.team.0 p.team in
      let low = p.position.0 in
      go u.0 u.1 (cases_order place.position 1) low
    where
      go : (u : Team) → slice_get file.teams place.team.0 ≡ Some u → (place.position ≡ 1) ⊎ ((place.position < 1) ⊎ (1 < place.position)) → 1 ≤ place.position → 2 ≤ place.position
      go u e (inl one) low =
          let pot : u.pot ≡ 1 = ((place_in place m).head u e).1 one in
          let is = is_of file 1 place.team (ap (option_map (λ team. team.pot)) e ∙ ap Some pot) in
          cc
      go u e (inr (inl lt)) low = absurd (omega arith)
      go u e (inr (inr gt)) low = gt

  -- no team and no place is fixed twice
  apart : (i j : ℕ) (a b : Place) → i < j → slice_get file.places i ≡ Some a → slice_get file.places j ≡ Some b → AreApart a b
  apart i j a b lt e f = pairs_at AreApart file.places group_form.distinct_places i j a b lt e f

  pub one_place_of_team : (a b : Place) → IsAmong file.places a → IsAmong file.places b → a.team.0 ≡ b.team.0 → a ≡ b
  one_place_of_team a b m n same = go (cases_order m.0 n.0)
    where
      go : (m.0 ≡ n.0) ⊎ ((m.0 < n.0) ⊎ (n.0 < m.0)) → a ≡ b
      go (inl e) = same_Some a b (sym m.1 ∙ ap (slice_get file.places) e ∙ n.1)
      go (inr (inl lt)) = absurd ((apart m.0 n.0 a b lt m.1 n.1).team same)
      go (inr (inr gt)) = absurd ((apart n.0 m.0 b a gt n.1 m.1).team (sym same))

  pub one_team_of_place : (a b : Place) → IsAmong file.places a → IsAmong file.places b → a.group ≡ b.group → a.position ≡ b.position → a ≡ b
  one_team_of_place a b m n group position = go (cases_order m.0 n.0)
    where
      go : (m.0 ≡ n.0) ⊎ ((m.0 < n.0) ⊎ (n.0 < m.0)) → a ≡ b
      go (inl e) = same_Some a b (sym m.1 ∙ ap (slice_get file.places) e ∙ n.1)
      go (inr (inl lt)) = absurd ((apart m.0 n.0 a b lt m.1 n.1).place group position)
      go (inr (inr gt)) = absurd ((apart n.0 m.0 b a gt n.1 m.1).place (sym group) (sym position))
