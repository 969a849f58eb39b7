-- A group table is legal exactly where no rule is broken.
use Rattle.std.proofs.Common.{◌≡◌, ◌≢◌, ℕ, zero, suc, ◌<◌, ◌≤◌, ◌⊎◌, inl, inr, true, false, List, length, Some, slice_get, arith, refl, sym, ap, ◌∙◌, mul_comm}
use Rattle.std.specs.Prelude.{option_map}
use Rattle.std.proofs.lemmas.Bool.{cases_Bool, cases_lt}
use Rattle.std.proofs.lemmas.Option.{slice_get_within}
use Rattle.team_files.specs.declared.kind.Kind.{Kind}
use Rattle.team_files.specs.declared.team_id.TeamId.{TeamId}
use Rattle.rule_sets.specs.declared.limit.Limit.{Limit}
use Rattle.rule_sets.specs.declared.pair.Pair.{Pair}
use Rattle.rule_sets.specs.declared.place.Place.{Place}
use Rattle.rule_sets.specs.Files.{DrawFile}
use Rattle.rule_sets.specs.Forms.{HasForm, IsInPot, NamesTwoTeams}
use Rattle.draw_tables.specs.declared.group_place.GroupPlace.{GroupPlace}
use Rattle.draw_tables.specs.Lists.{IsAmong}
use Rattle.draw_tables.specs.Pots.{IsPot, IsPosition, teams_of_pot, teams_with}
use Rattle.draw_tables.specs.GroupTables.{group_of, position_of, stands_in, number_in, number_at, AreFilePlaces, IsLegalGroups}
use Rattle.draw_tables.specs.GroupVerdicts.{IsKept, HasNoHead, IsBrokenGroups}
use Rattle.draw_tables.specs.GroupPasses.{keeps_place, has_head, has_place}
use Rattle.draw_tables.specs.Tables.{IsGroupTableOf}
use Rattle.draw_tables.proofs.Lists.{same_item, item_at, all_at, one_passes}
use Rattle.draw_tables.proofs.PotOrder.{pot_team}
use Rattle.draw_tables.proofs.GroupCounts.{one_counted, only_counted, all_in_place, teams_by_pots}
use Rattle.draw_tables.proofs.GroupCases.{is_some, some_is, kept_by, not_kept_by, place_had, no_head_by}

-- ---- a legal table breaks no rule

module _ (file : DrawFile) (table : List GroupPlace) (legal : IsLegalGroups file table) where
  -- the team of pot 1 in the group has position 1
  has_its_head : (g : ℕ) → g < file.groups → IsPot file 1 → ¬ HasNoHead file table g
  has_its_head g lt pot none =
      let one = one_counted (stands_in table g) (teams_of_pot 1 file) (legal.pots g 1 lt pot) in
      none one.0 one.1 (is_some (group_of table one.0) g one.2) (legal.heads one.0 one.1)

  pub legal_keeps_groups : (rule first second : ℕ) → ¬ IsBrokenGroups file table rule first second
  legal_keeps_groups rule f s (inl (e, h)) =
      let not_kept = h.not_kept in
      not_kept (legal.fixed_group h.place (f, h.is_place), legal.fixed_position h.place (f, h.is_place))
  legal_keeps_groups rule f s (inr (inl (e, h))) = let n = h.not_one in n (legal.pots f s h.group h.pot)
  legal_keeps_groups rule f s (inr (inr (inl (e, h)))) = go h.outside
    where
      go : (number_in table f (teams_with h.limit.tag file) < h.limit.lo) ⊎ (h.limit.hi < number_in table f (teams_with h.limit.tag file)) → ⊥
      go (inl lt) = let le = legal.enough f h.limit h.group (s, h.is_limit) in absurd (omega arith)
      go (inr lt) = let le = legal.not_too_many f h.limit h.group (s, h.is_limit) in absurd (omega arith)
  legal_keeps_groups rule f s (inr (inr (inr (inl (e, h))))) = legal.forbidden h.pair (f, h.is_pair) (h.one ∙ sym h.other)
  legal_keeps_groups rule f s (inr (inr (inr (inr (e, h))))) = go h.wrong
    where
      go : (number_at table f s ≢ 1) ⊎ ((s ≡ 1) × HasNoHead file table f) → ⊥
      go (inl n) = n (legal.positions f s h.group h.position)
      go (inr (one, none)) = let high = h.position.1 in has_its_head f h.group (omega arith, omega arith) none

-- ---- a table that breaks no rule is legal

-- a number that is not other than 1
one_unless : (n : ℕ) → (n ≢ 1 → ⊥) → n ≡ 1
one_unless zero h = absurd (h (λ e. omega arith))
one_unless (suc zero) h = refl
one_unless (suc (suc n)) h = absurd (h (λ e. omega arith))

module _ (file : DrawFile) (table : List GroupPlace) (form : HasForm file) (of_file : IsGroupTableOf file table) (none : (rule first second : ℕ) → ¬ IsBrokenGroups file table rule first second) where
  kept : (k : ℕ) (place : Place) → slice_get file.places k ≡ Some place → IsKept table place
  kept k place e = go (cases_Bool (keeps_place table place))
    where
      go : (keeps_place table place ≡ true) ⊎ (keeps_place table place ≡ false) → IsKept table place
      go (inl t) = kept_by table place t
      go (inr t) = absurd (none 1 k 0 (inl (refl, record { place = place; is_place = e; not_kept = not_kept_by table place t; zero = refl })))

  one_of_pot : (g pot : ℕ) → g < file.groups → IsPot file pot → number_in table g (teams_of_pot pot file) ≡ 1
  one_of_pot g pot lt is = one_unless (number_in table g (teams_of_pot pot file)) (λ n. none 2 g pot (inr (inl (refl, record { group = lt; pot = is; not_one = n }))))

  enough : (g k : ℕ) (limit : Limit) → g < file.groups → slice_get file.limits k ≡ Some limit → limit.lo ≤ number_in table g (teams_with limit.tag file)
  enough g k limit lt e = go (cases_lt (number_in table g (teams_with limit.tag file)) limit.lo)
    where
      go : (number_in table g (teams_with limit.tag file) < limit.lo) ⊎ (limit.lo ≤ number_in table g (teams_with limit.tag file)) → limit.lo ≤ number_in table g (teams_with limit.tag file)
      go (inl few) = absurd (none 3 g k (inr (inr (inl (refl, record { group = lt; limit = limit; is_limit = e; outside = inl few })))))
      go (inr le) = le

  not_too_many : (g k : ℕ) (limit : Limit) → g < file.groups → slice_get file.limits k ≡ Some limit → number_in table g (teams_with limit.tag file) ≤ limit.hi
  not_too_many g k limit lt e = go (cases_lt limit.hi (number_in table g (teams_with limit.tag file)))
    where
      go : (limit.hi < number_in table g (teams_with limit.tag file)) ⊎ (number_in table g (teams_with limit.tag file) ≤ limit.hi) → number_in table g (teams_with limit.tag file) ≤ limit.hi
      go (inl many) = absurd (none 3 g k (inr (inr (inl (refl, record { group = lt; limit = limit; is_limit = e; outside = inr many })))))
      go (inr le) = le

  -- a team of the file has a place in the table
  place_of : (t : TeamId) → t.0 < length file.teams → (place : GroupPlace) × (slice_get table t.0 ≡ Some place)
  place_of t lt = let size = of_file.size in item_at table t.0 (omega arith)

  apart : (k : ℕ) (pair : Pair) → slice_get file.pairs k ≡ Some pair → group_of table pair.first ≢ group_of table pair.second
  apart k pair e same =
      let place = place_of pair.first (all_at (NamesTwoTeams file.teams) file.pairs form.common.pairs k pair e).first in
      let one : group_of table pair.first ≡ Some place.0.group = ap (option_map (λ p. p.group)) place.1 in
      none 4 k place.0.group (inr (inr (inr (inl (refl, record { pair = pair; is_pair = e; one = one; other = sym same ∙ one })))))

  taken_once : (g p : ℕ) → g < file.groups → IsPosition file p → number_at table g p ≡ 1
  taken_once g p lt is = one_unless (number_at table g p) (λ n. none 5 g p (inr (inr (inr (inr (refl, record { group = lt; position = is; wrong = inl n }))))))

  -- each place is one of the file, since there are as many as groups times positions, and each of these is taken once
  places : file.kind ≡ Kind.Group → AreFilePlaces file table
  places kind place among =
      let group = form.group kind in
      let teams = teams_by_pots file.pots file.groups file.teams (λ t at. all_at (IsInPot file.pots) file.teams form.common.in_pots at.0 t at.1) group.full_pots in
      all_in_place file.groups file.pots table (of_file.size ∙ teams ∙ mul_comm file.groups file.pots) (λ g p lt low high. taken_once g p lt (low, high)) place among

  -- the team of pot 1 has position 1 of its group
  heads : file.kind ≡ Kind.Group → (t : TeamId) → IsAmong (teams_of_pot 1 file) t → position_of table t ≡ Some 1
  heads kind t among =
      let team = pot_team 1 file among.0 t among.1 in
      let place = place_of t (slice_get_within file.teams t.0 team.0 team.1) in
      let stands : group_of table t ≡ Some place.0.group = ap (option_map (λ p. p.group)) place.1 in
      let in_file = places kind place.0 (t.0, place.1) in
      go place.0.group stands in_file.0 (cases_Bool (has_head file table place.0.group))
    where
      first : IsPot file 1
      first = let pots = (form.group kind).pots in (omega arith, pots.0)

      go : (g : ℕ) → group_of table t ≡ Some g → g < file.groups → (has_head file table g ≡ true) ⊎ (has_head file table g ≡ false) → position_of table t ≡ Some 1
      go g stands lt (inl e) =
          let head = one_passes (has_place table g 1) (teams_of_pot 1 file) e in
          let had = place_had table g 1 head.0 head.2 in
          let at = only_counted (stands_in table g) (teams_of_pot 1 file) (one_of_pot g 1 lt first) among.0 head.1.0 t head.0 among.1 (some_is (group_of table t) g stands) head.1.1 (some_is (group_of table head.0) g had.0) in
          let same : t ≡ head.0 = same_item t head.0 (sym among.1 ∙ ap (slice_get (teams_of_pot 1 file)) at ∙ head.1.1) in
          ap (position_of table) same ∙ had.1
      go g stands lt (inr e) = absurd (none 5 g 1 (inr (inr (inr (inr (refl, record { group = lt; position = first; wrong = inr (refl, no_head_by file table g e) }))))))

  pub legal_groups : IsLegalGroups file table
  legal_groups = record {
    size = of_file.size;
    places = places of_file.kind;
    fixed_group = λ place among. (kept among.0 place among.1).0;
    fixed_position = λ place among. (kept among.0 place among.1).1;
    pots = one_of_pot;
    enough = λ g limit lt among. enough g among.0 limit lt among.1;
    not_too_many = λ g limit lt among. not_too_many g among.0 limit lt among.1;
    forbidden = λ pair among. apart among.0 pair among.1;
    positions = taken_once;
    heads = heads of_file.kind;
  }
