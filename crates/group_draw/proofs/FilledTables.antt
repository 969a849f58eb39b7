-- A table whose groups keep the rules and whose positions are filled is legal, and extends the moves.
use Rattle.std.proofs.Common.{◌≡◌, ℕ, zero, suc, ◌+◌, ◌-◌, ◌<◌, ◌≤◌, Bool, true, List, [], ◌∷◌, length, map, Option, Some, slice_get, arith, refl, sym, ap, ◌∙◌}
use Rattle.std.specs.Prelude.{◌==◌, ◌&&◌, if◌then◌else◌, nat_eq, count_by, slice_index_or, option_map, option_and_then}
use Rattle.std.specs.Option.{option_eq, option_or}
use Rattle.std.specs.List.{range_with_len}
use Rattle.std.proofs.lemmas.List.{length-map}
use Rattle.std.proofs.lemmas.List.FromFn.{length-range_with_len}
use Rattle.std.proofs.lemmas.Option.{same_Some, get_or_from_slice_get, slice_get_within}
use Rattle.team_files.specs.declared.kind.Kind.{Kind}
use Rattle.team_files.specs.declared.team.Team.{Team}
use Rattle.team_files.specs.declared.team_id.TeamId.{TeamId}
use Rattle.rule_sets.specs.Files.{DrawFile}
use Rattle.rule_sets.specs.Forms.{HasForm}
use Rattle.count_core.specs.Assignments.{makes_true, SatisfiesQuestion}
use Rattle.list_counts.specs.Filling.{filled, FillsOnce}
use Rattle.list_counts.proofs.Entries.{entry_at, in_range, map_at, range_at}
use Rattle.list_counts.proofs.Counts.{count_by_places}
use Rattle.list_counts.proofs.CleanWishes.{clean_wishes_fill}
use Rattle.list_counts.proofs.Numbers.{all_within}
use Rattle.list_counts.proofs.Positions.{positions_once}
use Rattle.draw_tables.specs.declared.group_place.GroupPlace.{GroupPlace}
use Rattle.draw_tables.specs.declared.moves.Move.{Move}
use Rattle.draw_tables.specs.declared.moves.Move.TheVariants.{Drawn, Placed, Positioned, Paired}
use Rattle.draw_tables.specs.declared.table.Table.{Table}
use Rattle.draw_tables.specs.declared.table.Table.TheVariants.{Group}
use Rattle.draw_tables.specs.Lists.{IsAmong}
use Rattle.draw_tables.specs.Pots.{pot_of, pots_of, IsPot, IsPosition, IsTeamOf}
use Rattle.draw_tables.specs.Moves.{position_in}
use Rattle.draw_tables.specs.GroupTables.{group_of, position_of, stands_in, number_at, is_at, IsLegalGroups, IsFilePlace}
use Rattle.draw_tables.specs.Positions.{HasCleanPositions}
use Rattle.draw_tables.specs.Offers.{Extends}
use Rattle.group_draw.specs.Encoding.{group_lit, lits_of_moves}
use Rattle.group_draw.specs.Decoding.{given_groups, fixed_position, wish_of, wish_in, wishes_in, position_for, ArePlacesFilled}
use Rattle.group_draw.specs.Correspondence.{Agrees, HasGroups, KeepsGroupRules}
use Rattle.group_draw.proofs.Teams.{is_this, of_pot, pot_is, is_of, count_teams}
use Rattle.group_draw.proofs.StateMoves.{SaysOnce}
use Rattle.group_draw.proofs.FixedPlaces.{its_pot, place_team}
use Rattle.group_draw.proofs.Agreeing.{its_group}
use Rattle.group_draw.proofs.Wishes.{wishes_clean, team_found, fixed_wish}

-- the table of a group draw with these places
abbrev pub group_table : List GroupPlace → Table
group_table places = Group (record { places = places })

-- what satisfied literals of moves say of the table's groups
pub moves_agree : (file : DrawFile) (values : List Bool) (table : List GroupPlace) → Agrees file values table
    → (ms : List Move) → ((t : TeamId) (g : ℕ) → IsAmong ms (Placed t g) → IsTeamOf file t × (g < file.groups))
    → SatisfiesQuestion values (lits_of_moves file ms)
    → (t : TeamId) (g : ℕ) → IsAmong ms (Placed t g) → group_of table t ≡ Some g
moves_agree file values table agrees ms known sat t g m = is_this (group_of table t) g (sym (agrees t g (known t g m).0 (known t g m).1) ∙ at ms sat m.0 m.1)
  where
    at : (ns : List Move) → SatisfiesQuestion values (lits_of_moves file ns) → (k : ℕ) → slice_get ns k ≡ Some (Placed t g) → makes_true values (group_lit file g t) ≡ true
    at [] h k e = cc
    at (Drawn s ∷ ns) h zero e = cc
    at (Drawn s ∷ ns) h (suc k) e = at ns h k e
    at (Placed s j ∷ ns) h zero e = let a : s ≡ t = cc in let b : j ≡ g = cc in rw (← a, ← b) h.0
    at (Placed s j ∷ ns) h (suc k) e = at ns h.1 k e
    at (Positioned s p ∷ ns) h zero e = cc
    at (Positioned s p ∷ ns) h (suc k) e = at ns h k e
    at (Paired r w ∷ ns) h zero e = cc
    at (Paired r w ∷ ns) h (suc k) e = at ns h k e

module _ (file : DrawFile) (kind : file.kind ≡ Kind.Group) (form : HasForm file) (ms : List Move) (says : SaysOnce file ms) (clean : HasCleanPositions file ms)
    (table : List GroupPlace) (has : HasGroups file table) (keeps : KeepsGroupRules file table)
    (groups : (t : TeamId) (group : ℕ) → IsAmong ms (Placed t group) → group_of table t ≡ Some group)
    (is_filled : ArePlacesFilled file ms table) where
  abbrev wishes : ℕ → List (Option ℕ)
  wishes g = wishes_in file ms (given_groups table) g

  fills : (g : ℕ) → FillsOnce (wishes g)
  fills g = clean_wishes_fill (wishes g) (wishes_clean file kind form ms says clean table keeps groups g)

  wishes_size : (g : ℕ) → length (wishes g) ≡ file.pots
  wishes_size g = length-map (pots_of file) (wish_in file ms (given_groups table) g) ∙ length-range_with_len 1 file.pots

  -- what is known of a team's position is its position
  wish_met : (t : TeamId) (g pot p : ℕ) → g < file.groups → IsPot file pot → group_of table t ≡ Some g → pot_of file t ≡ Some pot → wish_of file ms t ≡ Some p → position_of table t ≡ Some p
  wish_met t g pot p lt is in_t of_t wish =
      let low = is.0 in
      let high = is.1 in
      let number : 1 + (pot - 1) ≡ pot = omega arith in
      let at : slice_get (pots_of file) (pot - 1) ≡ Some pot = range_at 1 file.pots (pot - 1) (omega arith) ∙ ap Some number in
      let here = map_at (wish_in file ms (given_groups table) g) (pots_of file) (pot - 1) pot at in
      let team = ap (option_and_then (wish_of file ms)) (team_found file kind form ms says clean table keeps groups g pot t lt is in_t of_t) ∙ wish in
      let met = (fills g).met (pot - 1) p (here ∙ ap Some team) in
      is_filled t g pot in_t of_t ∙ ap Some (get_or_from_slice_get (filled (wishes g)) (pot - 1) p 0 met)

  -- the same without its group and its pot
  wish_is : (t : TeamId) (p : ℕ) → IsTeamOf file t → wish_of file ms t ≡ Some p → position_of table t ≡ Some p
  wish_is t p of_file wish =
      let g = its_group file table has t of_file in
      let pot = its_pot file kind form t of_file in
      wish_met t g.0 pot.0 p g.1 pot.2 g.2 pot.1 wish

  -- ---- each position once

  abbrev stands : ℕ → ℕ → Bool
  stands g i = stands_in table g (record { 0 = i })

  abbrev pot_at : ℕ → ℕ
  pot_at i = slice_index_or (map (λ t. t.pot) file.teams) i 0

  abbrev position_at : ℕ → ℕ
  position_at i = slice_index_or (map (λ place. place.position) table) i 0

  pot_at_is : (i : ℕ) (u : Team) → slice_get file.teams i ≡ Some u → pot_at i ≡ u.pot
  pot_at_is i u e = get_or_from_slice_get (map (λ t. t.pot) file.teams) i u.pot 0 (map_at (λ t. t.pot) file.teams i u e)

  position_at_is : (i : ℕ) (x : GroupPlace) → slice_get table i ≡ Some x → position_at i ≡ x.position
  position_at_is i x e = get_or_from_slice_get (map (λ place. place.position) table) i x.position 0 (map_at (λ place. place.position) table i x e)

  team_at : (k i : ℕ) → slice_get (range_with_len 0 (length table)) k ≡ Some i → IsTeamOf file (record { 0 = i })
  team_at k i e = let u = (in_range 0 (length table) k i e).1 in let size = has.size in omega arith

  module _ (g : ℕ) (in_groups : g < file.groups) where
    position_is : (k i : ℕ) → slice_get (range_with_len 0 (length table)) k ≡ Some i → stands g i ≡ true → position_at i ≡ slice_index_or (filled (wishes g)) (pot_at i - 1) 0
    position_is k i e t =
        let lt = team_at k i e in
        let size = has.size in
        let x = entry_at table i (omega arith) in
        let u = entry_at file.teams i lt in
        let in_g = is_this (group_of table (record { 0 = i })) g t in
        let position = is_filled (record { 0 = i }) g u.0.pot in_g (ap (option_map (λ team. team.pot)) u.1) in
        let here : x.0.position ≡ position_for file ms (given_groups table) g u.0.pot = same_Some x.0.position (position_for file ms (given_groups table) g u.0.pot) (sym (ap (option_map (λ place. place.position)) x.1) ∙ position) in
        position_at_is i x.0 x.1 ∙ here ∙ ap (λ q. slice_index_or (filled (wishes g)) (q - 1) 0) (sym (pot_at_is i u.0 u.1))

    pot_within : (k i : ℕ) → slice_get (range_with_len 0 (length table)) k ≡ Some i → stands g i ≡ true → (1 ≤ pot_at i) × (pot_at i ≤ length (filled (wishes g)))
    pot_within k i e t =
        let lt = team_at k i e in
        let u = entry_at file.teams i lt in
        let pot = its_pot file kind form (record { 0 = i }) lt in
        let same : u.0.pot ≡ pot.0 = same_Some u.0.pot pot.0 (sym (ap (option_map (λ team. team.pot)) u.1) ∙ pot.1) in
        let at = pot_at_is i u.0 u.1 in
        let size = (fills g).size in
        let pots = wishes_size g in
        let l = pot.2.0 in
        let h = pot.2.1 in
        (omega arith, omega arith)

    pot_once : (q : ℕ) → 1 ≤ q → q ≤ length (filled (wishes g)) → count_by (λ i. stands g i && pot_at i == q) (range_with_len 0 (length table)) ≡ 1
    pot_once q low high =
        let size = (fills g).size in
        let pots = wishes_size g in
        let one = keeps.pots g q in_groups (low, omega arith) in
        let counted = count_teams (λ t. t.pot == q) (stands_in table g) (λ i. stands g i && pot_at i == q) file.teams 0 (λ j k u n e.
        let same : j ≡ k = omega arith in
        ap (λ x. stands g j && x == q) (sym (pot_at_is j u (ap (slice_get file.teams) same ∙ e)))) in
        ap (λ n. count_by (λ i. stands g i && pot_at i == q) (range_with_len 0 n)) has.size ∙ sym counted ∙ one

    at_once : (p : ℕ) → IsPosition file p → number_at table g p ≡ 1
    at_once p is =
        let low = is.0 in
        let high = is.1 in
        let pots = wishes_size g in
        let once = (fills g).once p low (omega arith) in
        let positions = positions_once (range_with_len 0 (length table)) (stands g) pot_at position_at (filled (wishes g)) position_is pot_within pot_once p once in
        count_by_places (is_at g p) (λ i. stands g i && position_at i == p) table 0 (λ j k x n e.
        let same : j ≡ k = omega arith in
        let here = ap (slice_get table) same ∙ e in
        let in_g : stands g j ≡ (x.group == g) = ap (λ o. option_eq nat_eq (option_map (λ place. place.group) o) (Some g)) here in
        let at_p : position_at j ≡ x.position = position_at_is j x here in
        sym (ap (λ b. b && position_at j == p) in_g ∙ ap (λ q. x.group == g && q == p) at_p))
        ∙ positions

  -- ---- the table is legal

  place_of_file : (x : GroupPlace) → IsAmong table x → IsFilePlace file x
  place_of_file x m =
      let size = has.size in
      let lt = slice_get_within table m.0 x m.1 in
      let pot = its_pot file kind form (record { 0 = m.0 }) (omega arith) in
      let l = pot.2.0 in
      let h = pot.2.1 in
      let in_g = has.groups x m in
      let position = is_filled (record { 0 = m.0 }) x.group pot.0 (ap (option_map (λ place. place.group)) m.1) pot.1 in
      let here : x.position ≡ position_for file ms (given_groups table) x.group pot.0 = same_Some x.position (position_for file ms (given_groups table) x.group pot.0) (sym (ap (option_map (λ place. place.position)) m.1) ∙ position) in
      let pots = wishes_size x.group in
      let long = (fills x.group).size in
      let entry = entry_at (filled (wishes x.group)) (pot.0 - 1) (omega arith) in
      let value = get_or_from_slice_get (filled (wishes x.group)) (pot.0 - 1) entry.0 0 entry.1 in
      let within = all_within 1 (length (wishes x.group)) (filled (wishes x.group)) long (fills x.group).once (pot.0 - 1) entry.0 entry.1 in
      let low = within.0 in
      let high = within.1 in
      (in_g, (omega arith, omega arith))

  pub legal : IsLegalGroups file table
  legal = record {
    size = has.size;
    places = place_of_file;
    fixed_group = keeps.fixed_group;
    fixed_position = λ place m. wish_is place.team place.position (place_team file kind form place m) (fixed_wish file kind form ms says clean table keeps groups place m);
    pots = keeps.pots;
    enough = keeps.enough;
    not_too_many = keeps.not_too_many;
    forbidden = keeps.forbidden;
    positions = λ g p lt is. at_once g lt p is;
    heads = λ t m.
        let first = is_of file 1 t (pot_is file 1 m.0 t m.1) in
        wish_is t 1 (of_pot file 1 m.0 t m.1) (ap (λ b. if b then Some 1 else option_or (position_in ms t) (fixed_position file t)) first);
  }

  -- ---- and extends the moves

  extended : (ns : List Move) → ((m : Move) → IsAmong ns m → IsAmong ms m) → Extends file (group_table table) ns
  extended [] sub = tt
  extended (Drawn t ∷ ns) sub = (tt, extended ns (λ m h. sub m (suc h.0, h.1)))
  extended (Placed t g ∷ ns) sub = (groups t g (sub (Placed t g) (0, refl)), extended ns (λ m h. sub m (suc h.0, h.1)))
  extended (Positioned t p ∷ ns) sub =
      let at = says.positioned t p (sub (Positioned t p) (0, refl)) in
      let of_file = (says.placed t at.group at.placed).0 in
      let wish : wish_of file ms t ≡ Some p = ap (λ b. if b then Some 1 else option_or (position_in ms t) (fixed_position file t)) at.later_pot ∙ ap (λ o. option_or o (fixed_position file t)) at.is in
      (wish_is t p of_file wish, extended ns (λ m h. sub m (suc h.0, h.1)))
  extended (Paired r w ∷ ns) sub = absurd (says.others r w (sub (Paired r w) (0, refl)))

  pub extends : Extends file (group_table table) ms
  extends = extended ms (λ m h. h)
