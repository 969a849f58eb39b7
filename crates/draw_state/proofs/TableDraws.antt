-- Each legal group table is drawn ball by ball. The earlier groups already have a team of the ball's pot, so that the first
-- possible group is the table's own; and each ball is possible, since the table itself extends the moves with it.
use Rattle.std.proofs.Common.{◌≡◌, ◌≢◌, ℕ, zero, suc, ◌+◌, ◌<◌, ◌≤◌, ◌⊎◌, inl, inr, Bool, true, false, not, List, [], ◌∷◌, ◌++◌, length, map, Option, Some, None, slice_get, arith, refl, sym, ap, ◌∙◌, subst, append_assoc, zero-add}
use Rattle.std.specs.Prelude.{◌==◌, if◌then◌else◌, option_map, nat_le, find, flat_map}
use Rattle.std.specs.List.{range_with_len}
use Rattle.std.proofs.lemmas.Bool.{cases_Bool, cases_eq, cases_order, eqb-true, eq-eqb, ne_eqb, and_from, not-true, not_from_false, false_from_ne_true}
use Rattle.std.proofs.lemmas.Bool.Decides.{nat_tests}
use Rattle.std.proofs.lemmas.Option.{slice_get_within}
use Rattle.team_files.specs.declared.kind.Kind.{Kind}
use Rattle.team_files.specs.declared.team.Team.{Team}
use Rattle.team_files.specs.declared.team_id.TeamId.{TeamId}
use Rattle.team_files.specs.Codes.{FindsByCode}
use Rattle.rule_sets.specs.Files.{DrawFile}
use Rattle.rule_sets.specs.Forms.{FilesHaveForm, HasForm, IsInPot}
use Rattle.draw_tables.specs.declared.group_place.GroupPlace.{GroupPlace}
use Rattle.draw_tables.specs.declared.group_table.GroupTable.{GroupTable}
use Rattle.draw_tables.specs.declared.table.Table.{Table}
use Rattle.draw_tables.specs.declared.table.Table.TheVariants.{Group, Pairs}
use Rattle.draw_tables.specs.declared.moves.Move.{Move}
use Rattle.draw_tables.specs.declared.moves.Move.TheVariants.{Drawn, Placed, Positioned, Paired}
use Rattle.draw_tables.specs.declared.moves.Choice.TheVariants as choice
use Rattle.draw_tables.specs.declared.moves.Phase.TheVariants as phase
use Rattle.draw_tables.specs.Lists.{IsAmong}
use Rattle.draw_tables.specs.Pots.{IsPot, teams_of_pot, later_positions}
use Rattle.draw_tables.specs.Moves.{is_drawn, position_by, position_in}
use Rattle.draw_tables.specs.GroupPhases.{without_group, without_position, undrawn_of_pot, has_undrawn, open_pot, group_phase_with, places_in, open_groups}
use Rattle.draw_tables.specs.GroupTables.{group_of, position_of, IsLegalGroups}
use Rattle.draw_tables.specs.Tables.{IsLegal}
use Rattle.draw_tables.specs.States.{phase_by, phase_of, candidates_in, move_in, IsMoveOf}
use Rattle.draw_tables.specs.Offers.{Extends, IsPossible}
use Rattle.draw_tables.proofs.Lists.{same_item, item_at, map_at, map_among, one_passes, fails_there, all_at}
use Rattle.draw_tables.proofs.Numbers.{same_id}
use Rattle.draw_tables.proofs.PotMembers.{pot_among, kept_among, choice_among}
use Rattle.draw_tables.proofs.PotOrder.{pot_team}
use Rattle.draw_tables.proofs.FreeGroups.{open_group_is, is_later}
use Rattle.draw_tables.proofs.HeldPositions.{extends_at, extends_group}
use Rattle.draw_state.specs.declared.commands.Word.{Word}
use Rattle.draw_state.specs.declared.commands.Command.{Command}
use Rattle.draw_state.specs.Commands.{most_commands, choice_of, choice_of_number, IsFirstPossibleGroup, AddsOfItself}
use Rattle.draw_state.specs.Runs.{Reached, IsRun}
use Rattle.draw_state.specs.TableBalls.{balls_of, team_balls, group_balls, pot_balls, table_balls, moves_after, IsCompleteWith, DrawsTable, TablesAreDrawn}
use Rattle.draw_state.proofs.Refusals.{accepted}
use Rattle.draw_state.proofs.GroupPhases.{last_answers}
use Rattle.draw_state.proofs.FirstGroups.{is_possible}
use Rattle.draw_state.proofs.Steps.{some_run}
use Rattle.draw_state.proofs.TablePlaces.{IsTeamAt, of_pot, in_group, team_there, its_group, its_position}
use Rattle.draw_state.proofs.TableMoves.{any_kept, IsAt, step, start, next_pot, ms1, ms2, ms3, new_t, waits_for_its_group, waits_for_its_position, free_here, extends_1, extends_3, no_group_2, no_group_3, first_adds, later_adds}
use Rattle.draw_state.proofs.TableRuns.{Takes, Leads, lead_none, lead_one, lead_both, few_balls}

-- ---- the first number of a range that passes

module _ (p : ℕ → Bool) where
  first_is : (x a n : ℕ) → a ≤ x → x < a + n → ((y : ℕ) → a ≤ y → y < x → p y ≡ false) → p x ≡ true → find p (range_with_len a n) ≡ Some x
  first_is x a zero low high before here = absurd (omega arith)
  first_is x a (suc n) low high before here = go (cases_order a x) (λ more. first_is x (a + 1) n more (omega arith) (λ y u d. before y (omega arith) d) here)
    where
      go : (a ≡ x) ⊎ ((a < x) ⊎ (x < a)) → (a + 1 ≤ x → find p (range_with_len (a + 1) n) ≡ Some x) → find p (range_with_len a (suc n)) ≡ Some x
      go (inl e) rest = ap (λ b. if b then Some a else find p (range_with_len (a + 1) n)) (ap p e ∙ here) ∙ ap Some e
      go (inr (inl lt)) rest = ap (λ b. if b then Some a else find p (range_with_len (a + 1) n)) (before a (omega arith) lt) ∙ rest (omega arith)
      go (inr (inr gt)) rest = absurd (omega arith)

  none_is : (a n : ℕ) → ((y : ℕ) → a ≤ y → y < a + n → p y ≡ false) → find p (range_with_len a n) ≡ None
  none_is a zero none = refl
  none_is a (suc n) none =
      ap (λ b. if b then Some a else find p (range_with_len (a + 1) n)) (none a (omega arith) (omega arith))
      ∙ none_is (a + 1) n (λ y u d. none y (omega arith) (omega arith))

-- a position that the moves give a team is one of a move
positioned : (ms : List Move) (t : TeamId) (p : ℕ) → position_in ms t ≡ Some p → IsAmong ms (Positioned t p)
positioned ms t p e = let m = last_answers (position_by t) ms p e in of m.0 m.1 m.2
  where
    of : (m : Move) → IsAmong ms m → position_by t m ≡ Some p → IsAmong ms (Positioned t p)
    of (Drawn s) among f = cc
    of (Placed s g) among f = cc
    of (Paired r w) among f = cc
    of (Positioned s q) among f = go (s.0 == t.0) refl f
      where
        go : (b : Bool) → (s.0 == t.0) ≡ b → (if b then Some q else None) ≡ Some p → IsAmong ms (Positioned t p)
        go true is g = subst (λ x. IsAmong ms (Positioned t x)) (same_item q p g) (subst (λ x. IsAmong ms (Positioned x q)) (same_id s t (eqb-true s.0 t.0 is)) among)
        go false is g = cc

-- lists of one length with the same items are one list
same_list : {A : Type 0} (xs ys : List A) → length xs ≡ length ys → ((k : ℕ) (x y : A) → slice_get xs k ≡ Some x → slice_get ys k ≡ Some y → x ≡ y) → xs ≡ ys
same_list [] [] e h = refl
same_list [] (y ∷ ys) e h = absurd (omega arith)
same_list (x ∷ xs) [] e h = absurd (omega arith)
same_list (x ∷ xs) (y ∷ ys) e h =
    ap (λ z. z ∷ xs) (h 0 x y refl refl) ∙ ap (λ zs. y ∷ zs) (same_list xs ys (omega arith) (λ k a b f g. h (suc k) a b f g))

-- ---- one table

module _ (codes : FindsByCode) (file : DrawFile) (form : HasForm file) (kind : file.kind ≡ Kind.Group) (table : GroupTable) (legal : IsLegalGroups file table.places) where
  abbrev At : ℕ → ℕ → List Move → Type 0
  At pot k ms = IsAt file table legal pot k ms

  abbrev TeamAt : ℕ → ℕ → TeamId → Type 0
  TeamAt p g t = IsTeamAt file table.places legal p g t

  phase_is : (ms : List Move) (a b : Option TeamId) (o : Option ℕ) → without_group ms ≡ a → without_position file ms ≡ b → open_pot file ms ≡ o → phase_of file ms ≡ group_phase_with a b o
  phase_is ms a b o e f g =
      ap (λ k. phase_by k file ms) kind
      ∙ ap (λ x. group_phase_with x (without_position file ms) (open_pot file ms)) e
      ∙ ap (λ x. group_phase_with a x (open_pot file ms)) f
      ∙ ap (λ x. group_phase_with a b x) g

  -- the lower pots are drawn
  lower_drawn : (pot k : ℕ) (ms : List Move) → At pot k ms → (p : ℕ) → IsPot file p → p < pot → has_undrawn file ms p ≡ false
  lower_drawn pot k ms at p ip lt = false_from_ne_true (has_undrawn file ms p) clash
    where
      clash : has_undrawn file ms p ≡ true → ⊥
      clash some =
          let s = one_passes (λ t. not (is_drawn t ms)) (teams_of_pot p file) some in
          let g = its_group file table.places legal p s.0 s.1 in
          let drawn = (at.drawn p g.0 s.0 g.1 ip g.2 (inl lt)).0 in
          let undrawn = not-true (is_drawn s.0 ms) s.2 in
          cc

  -- ---- the ball of a team

  module _ (pot k : ℕ) (t : TeamId) (ms : List Move) (in_groups : k < file.groups) (in_pots : IsPot file pot) (is : TeamAt pot k t) (at : At pot k ms) where
    t_undrawn : IsAmong (undrawn_of_pot file ms pot) t
    t_undrawn = kept_among (λ s. not (is_drawn s ms)) (teams_of_pot pot file) t is.among (not_from_false (is_drawn t ms) (new_t file table legal pot k t ms is at).0)

    pot_is_open : has_undrawn file ms pot ≡ true
    pot_is_open = go (cases_Bool (has_undrawn file ms pot))
      where
        go : (has_undrawn file ms pot ≡ true) ⊎ (has_undrawn file ms pot ≡ false) → has_undrawn file ms pot ≡ true
        go (inl some) = some
        go (inr none) =
            let drawn = fails_there (λ s. not (is_drawn s ms)) (teams_of_pot pot file) none t is.among in
            let undrawn = not_from_false (is_drawn t ms) (new_t file table legal pot k t ms is at).0 in
            cc

    team_phase : phase_of file ms ≡ phase.Team pot
    team_phase =
        let high = in_pots.1 in
        phase_is ms None None (Some pot) at.no_group at.no_position
        (first_is (has_undrawn file ms) pot 1 file.pots in_pots.0 (omega arith) (λ p low lt. lower_drawn pot k ms at p (low, (let most = in_pots.1 in omega arith)) lt) pot_is_open)

    abbrev new1 : List Move
    new1 = ms1 file table legal pot k t ms is at

    abbrev new2 : List Move
    new2 = ms2 file table legal pot k t ms is at

    group_phase : phase_of file new1 ≡ phase.Group t
    group_phase = phase_is new1 (Some t) (without_position file new1) (open_pot file new1) (waits_for_its_group file table legal pot k t ms is at) refl refl

    -- the groups before its own are no candidates
    not_before_its_own : (other : ℕ) → other < k → ¬ IsPossible file new1 (choice.Group other)
    not_before_its_own other lt possible =
        let there = subst (λ ph. IsAmong (candidates_in file new1 ph) (choice.Group other)) group_phase possible.1.0 in
        let of_team = subst (λ o. IsAmong (map (λ group. choice.Group group) (open_groups file new1 o)) (choice.Group other)) (of_pot file table.places legal pot k t is) there in
        let image = map_among (λ group. choice.Group group) (open_groups file new1 (Some pot)) (choice.Group other) of_team in
        let same : image.0 ≡ other = (let e = image.2 in cc) in
        let free = (open_group_is file new1 pot other (subst (λ g. IsAmong (open_groups file new1 (Some pot)) g) same image.1)).1 in
        let taken = any_kept (places_in file pot other) ms (Drawn t) (at.placed pot other (omega arith) in_pots (inr (refl, lt))) in
        cc

    first_group : IsFirstPossibleGroup file new1 k
    first_group = record {
      possible = is_possible file new1 t group_phase table k pot kind legal (extends_1 file table legal pot k t ms is at) (of_pot file table.places legal pot k t is) in_groups
          (free_here file table legal pot k t ms is at) (in_group file table.places legal pot k t is);
      before = not_before_its_own;
    }

    -- a code names its team
    module _ (team : Team) (there : slice_get file.teams t.0 ≡ Some team) where
      abbrev team_ball : Command
      team_ball = Command.Ball (Word.Team team.code)

      named : choice_of file (Word.Team team.code) ≡ Some (choice.Team t)
      named =
          let different = (codes.distinct file.teams).0 form.common.distinct_codes in
          ap (option_map (λ s. choice.Team s)) ((codes.found file.teams team.code t different).1 (map_at (λ u. u.code) file.teams t.0 team there))

      team_move : IsMoveOf file ms (choice.Team t) (Drawn t)
      team_move = (
        subst (λ ph. IsAmong (candidates_in file ms ph) (choice.Team t)) (sym team_phase) (choice_among (undrawn_of_pot file ms pot) t t_undrawn),
        ap (λ ph. move_in ph (choice.Team t)) team_phase,
      )

      team_possible : IsPossible file ms (choice.Team t)
      team_possible = (Drawn t, team_move, (Group table, (kind, legal), extends_1 file table legal pot k t ms is at))

      team_taken : Takes file ms team_ball (Drawn t ∷ Placed t k ∷ [])
      team_taken = record {
        choice = choice.Team t;
        accepted = λ answered below.
            accepted file ms answered team_ball below (Word.Team team.code) refl (choice.Team t) named (λ end. (let clash = sym team_phase ∙ end in cc)) team_move.0 team_possible;
        adds = (
          Drawn t,
          Placed t k ∷ [],
          team_move,
          subst (λ ph. AddsOfItself file new1 ph (Placed t k ∷ [])) (sym group_phase) (k, first_group, refl),
          refl,
        );
      }

    -- ---- the ball of its position

    module _ (n : pot ≢ 1) (p : ℕ) (stands : position_of table.places t ≡ Some p) (low : 2 ≤ p) (high : p ≤ file.pots) where
      abbrev new3 : List Move
      new3 = ms3 file table legal pot k t ms is at n p stands

      abbrev position_ball : Command
      position_ball = Command.Ball (Word.Number p)

      position_phase : phase_of file new2 ≡ phase.Position t
      position_phase =
          phase_is new2 None (Some t) (open_pot file new2) (no_group_2 file table legal pot k t ms is at) (waits_for_its_position file table legal pot k t ms is at n p stands) refl

      position_named : choice_of file (Word.Number p) ≡ Some (choice.Position p)
      position_named =
          ap (λ k. choice_of_number k file p) kind
          ∙ ap (λ b. if b then Some (choice.Position p) else None) (and_from (nat_le 1 p) (nat_le p file.pots) (within 1 p (omega arith)) (within p file.pots high))
        where
          within : (a b : ℕ) → a ≤ b → nat_le a b ≡ true
          within a b le = grind (arith, nat_tests)

      position_move : IsMoveOf file new2 (choice.Position p) (Positioned t p)
      position_move =
          let among = is_later file p low high in (
            subst (λ ph. IsAmong (candidates_in file new2 ph) (choice.Position p)) (sym position_phase) (among.0, map_at (λ x. choice.Position x) (later_positions file) among.0 p among.1),
            ap (λ ph. move_in ph (choice.Position p)) position_phase,
          )

      position_possible : IsPossible file new2 (choice.Position p)
      position_possible = (Positioned t p, position_move, (Group table, (kind, legal), extends_3 file table legal pot k t ms is at n p stands))

      -- nobody waits for a group after it
      adds_no_more : (a : Option TeamId) (b : Option TeamId) (o : Option ℕ) → a ≡ None → AddsOfItself file new3 (group_phase_with a b o) []
      adds_no_more (Some s) b o e = cc
      adds_no_more None (Some s) o e = refl
      adds_no_more None None (Some q) e = refl
      adds_no_more None None None e = refl

      position_taken : Takes file new2 position_ball (Positioned t p ∷ [])
      position_taken = record {
        choice = choice.Position p;
        accepted = λ answered below.
            accepted file new2 answered position_ball below (Word.Number p) refl (choice.Position p) position_named (λ end. (let clash = sym position_phase ∙ end in cc)) position_move.0 position_possible;
        adds = (
          Positioned t p,
          [],
          position_move,
          subst (λ ph. AddsOfItself file new3 ph []) (sym (phase_is new3 (without_group new3) (without_position file new3) (open_pot file new3) refl refl refl))
              (adds_no_more (without_group new3) (without_position file new3) (open_pot file new3) (no_group_3 file table legal pot k t ms is at n p stands)),
          refl,
        );
      }

    -- ---- all balls of a team

    abbrev LeadsOn : List Command → Type 0
    LeadsOn commands = Leads file ms commands (At pot (k + 1))

    -- the two moves of a team's ball are two moves one after the other
    two_moves : (xs : List Move) → (xs ++ Drawn t ∷ []) ++ Placed t k ∷ [] ≡ xs ++ Drawn t ∷ Placed t k ∷ []
    two_moves xs = rw append_assoc refl

    by_pot : (team : Team) → slice_get file.teams t.0 ≡ Some team → (pot ≡ 1) ⊎ (pot ≡ 1 → ⊥) → LeadsOn (team_balls file table.places pot t ++ [])
    by_pot team there (inl e) =
        subst LeadsOn (sym (ap (λ xs. xs ++ []) balls))
        (lead_one file ms (Drawn t ∷ Placed t k ∷ []) (team_ball team there) [] (At pot (k + 1)) (team_taken team there)
        (lead_none file (ms ++ Drawn t ∷ Placed t k ∷ []) (At pot (k + 1)) (subst (At pot (k + 1)) (two_moves ms) (step file table legal pot k t ms new2 in_groups in_pots is at (first_adds file table legal pot k t ms is at e)))))
      where
        balls : team_balls file table.places pot t ≡ team_ball team there ∷ []
        balls =
            ap (λ o. balls_of pot o (position_of table.places t)) there
            ∙ ap (balls_of pot (Some team)) (legal.heads t (subst (λ q. IsAmong (teams_of_pot q file) t) e is.among))
            ∙ ap (λ b. team_ball team there ∷ (if b then [] else Command.Ball (Word.Number 1) ∷ [])) (eq-eqb pot 1 e)
    by_pot team there (inr n) = later (its_position file table.places legal pot k t in_groups in_pots is n)
      where
        balls : (p : ℕ) → position_of table.places t ≡ Some p → team_balls file table.places pot t ≡ team_ball team there ∷ Command.Ball (Word.Number p) ∷ []
        balls p stands =
            ap (λ o. balls_of pot o (position_of table.places t)) there
            ∙ ap (balls_of pot (Some team)) stands
            ∙ ap (λ b. team_ball team there ∷ (if b then [] else Command.Ball (Word.Number p) ∷ [])) (ne_eqb pot 1 n)

        later : (p : ℕ) × (position_of table.places t ≡ Some p) × (2 ≤ p) × (p ≤ file.pots) → LeadsOn (team_balls file table.places pot t ++ [])
        later (p, stands, low, high) =
            subst LeadsOn (sym (ap (λ xs. xs ++ []) (balls p stands)))
            (lead_one file ms (Drawn t ∷ Placed t k ∷ []) (team_ball team there) (position_ball n p stands low high ∷ []) (At pot (k + 1)) (team_taken team there)
            (subst (λ xs. Leads file xs (position_ball n p stands low high ∷ []) (At pot (k + 1))) (two_moves ms)
            (lead_one file new2 (Positioned t p ∷ []) (position_ball n p stands low high) [] (At pot (k + 1)) (position_taken n p stands low high)
            (lead_none file (new3 n p stands low high) (At pot (k + 1)) (step file table legal pot k t ms (new3 n p stands low high) in_groups in_pots is at (later_adds file table legal pot k t ms is at n p stands))))))

    team_leads : LeadsOn (team_balls file table.places pot t ++ [])
    team_leads = let team = pot_team pot file is.among.0 t is.among.1 in by_pot team.0 team.1 (cases_eq pot 1)

  -- ---- the balls of the groups and of the pots

  group_leads : (pot k : ℕ) (ms : List Move) → k < file.groups → IsPot file pot → At pot k ms → Leads file ms (group_balls file table.places pot k) (At pot (k + 1))
  group_leads pot k ms in_groups in_pots at =
      let t = team_there file table.places legal pot k in_groups in_pots in
      subst (λ ts. Leads file ms (flat_map (team_balls file table.places pot) ts) (At pot (k + 1))) (sym t.2) (team_leads pot k t.0 ms in_groups in_pots t.1 at)

  groups_lead : (pot k n : ℕ) (ms : List Move) → k + n ≡ file.groups → IsPot file pot → At pot k ms
      → Leads file ms (flat_map (group_balls file table.places pot) (range_with_len k n)) (At (pot + 1) 0)
  groups_lead pot k zero ms e in_pots at =
      let all : k ≡ file.groups = omega arith in
      lead_none file ms (At (pot + 1) 0) (next_pot file table legal pot ms (subst (λ x. At pot x ms) all at))
  groups_lead pot k (suc n) ms e in_pots at =
      lead_both file ms (group_balls file table.places pot k) (flat_map (group_balls file table.places pot) (range_with_len (k + 1) n)) (At pot (k + 1)) (At (pot + 1) 0)
      (group_leads pot k ms (omega arith) in_pots at) (λ later there. groups_lead pot (k + 1) n later (omega arith) in_pots there)

  pots_lead : (pot n : ℕ) (ms : List Move) → pot + n ≡ 1 + file.pots → 1 ≤ pot → At pot 0 ms
      → Leads file ms (flat_map (pot_balls file table.places) (range_with_len pot n)) (At (1 + file.pots) 0)
  pots_lead pot zero ms e low at = let all : pot ≡ 1 + file.pots = omega arith in lead_none file ms (At (1 + file.pots) 0) (subst (λ x. At x 0 ms) all at)
  pots_lead pot (suc n) ms e low at =
      lead_both file ms (pot_balls file table.places pot) (flat_map (pot_balls file table.places) (range_with_len (pot + 1) n)) (At (pot + 1) 0) (At (1 + file.pots) 0)
      (groups_lead pot 0 file.groups ms (omega arith) (low, omega arith) at) (λ later there. pots_lead (pot + 1) n later (omega arith) (omega arith) there)

  -- ---- the end

  module _ (ms : List Move) (at : At (1 + file.pots) 0 ms) where
    is_complete : phase_of file ms ≡ phase.Complete
    is_complete = phase_is ms None None None at.no_group at.no_position (none_is (has_undrawn file ms) 1 file.pots (λ p low high. lower_drawn (1 + file.pots) 0 ms at p (low, omega arith) (omega arith)))

    -- a legal table that extends the moves has each team where the table has it
    module _ (other : GroupTable) (also : IsLegalGroups file other.places) (extends : Extends file (Group other) ms) where
      same_place : (t : TeamId) (pot : ℕ) → IsPot file pot → IsAmong (teams_of_pot pot file) t
          → (group_of other.places t ≡ group_of table.places t) × (position_of other.places t ≡ position_of table.places t)
      same_place t pot in_pots among =
          let g = its_group file table.places legal pot t among in
          let last = in_pots.1 in
          let said = at.drawn pot g.0 t g.1 in_pots g.2 (inl (omega arith)) in
          (extends_group file other ms t g.0 extends said.1 ∙ sym (in_group file table.places legal pot g.0 t g.2), by_pot_number (cases_eq pot 1) g said.2)
        where
          by_pot_number : (pot ≡ 1) ⊎ (pot ≡ 1 → ⊥) → (g : ℕ) × (g < file.groups) × TeamAt pot g t → (pot ≢ 1 → position_in ms t ≡ position_of table.places t)
              → position_of other.places t ≡ position_of table.places t
          by_pot_number (inl e) g said =
              let first = subst (λ q. IsAmong (teams_of_pot q file) t) e among in
              also.heads t first ∙ sym (legal.heads t first)
          by_pot_number (inr n) g said =
              let p = its_position file table.places legal pot g.0 t g.1 in_pots g.2 n in
              extends_at file (Group other) ms (Positioned t p.0) extends (positioned ms t p.0 (said n ∙ p.1)) ∙ sym p.1

      same_number_there : (number : GroupPlace → ℕ) (k : ℕ) (x y : GroupPlace) → slice_get other.places k ≡ Some x → slice_get table.places k ≡ Some y
          → option_map number (slice_get other.places k) ≡ option_map number (slice_get table.places k) → number x ≡ number y
      same_number_there number k x y e f same = same_item (number x) (number y) (sym (ap (option_map number) e) ∙ same ∙ ap (option_map number) f)

      same_item_there : (k : ℕ) (x y : GroupPlace) → slice_get other.places k ≡ Some x → slice_get table.places k ≡ Some y → x ≡ y
      same_item_there k x y e f =
          let size = legal.size in
          let within = slice_get_within table.places k y f in
          let team = item_at file.teams k (omega arith) in
          let pot = all_at (IsInPot file.pots) file.teams form.common.in_pots k team.0 team.1 in
          let among = rw zero-add at (pot_among team.0.pot 0 file.teams k team.0 team.1 refl) in
          let same = same_place (record { 0 = k }) team.0.pot pot among in
          let group = same_number_there (λ z. z.group) k x y e f same.0 in
          let position = same_number_there (λ z. z.position) k x y e f same.1 in
          ap (λ g. record { group = g; position = x.position }) group ∙ ap (λ p. record { group = y.group; position = p }) position

      same_table : Group other ≡ Group table
      same_table = ap (λ places. Group (record { places = places })) (same_list other.places table.places (also.size ∙ sym legal.size) same_item_there)

    only : (other : Table) → IsLegal file other → Extends file other ms → other ≡ Group table
    only (Group other) also extends = same_table other also.1 extends
    only (Pairs pairs) also extends = let clash = sym kind ∙ also.0 in cc

    complete_with : IsCompleteWith file (Group table) ms
    complete_with = record { complete = is_complete; extends = at.extends; only = only }

  few : length (table_balls file table.places) < most_commands
  few = let group_form = form.group kind in few_balls file table.places legal group_form.groups.1 group_form.pots.1

  draws : (run : List Reached) → IsRun file [] 0 (table_balls file table.places) run → DrawsTable file (Group table) run
  draws run is_run =
      let below = few in
      let all = pots_lead 1 file.pots [] refl (omega arith) (start file table legal) 0 run (omega arith) is_run in
      record { taken = all.0; complete = complete_with (moves_after [] run) all.1 }

-- ---- the law

pub tables_are_drawn : FilesHaveForm → FindsByCode → TablesAreDrawn
tables_are_drawn forms codes file table formed offers legal =
    let form = forms file formed in
    let run = some_run file offers [] 0 (table_balls file table.places) tt in
    record {
      few = few codes file form legal.0 table legal.1;
      run = run.0;
      is_run = run.1;
      draws = draws codes file form legal.0 table legal.1;
    }
