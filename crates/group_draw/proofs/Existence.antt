-- A state with clean positions is completable exactly where its rules and literals can be satisfied.
use Rattle.std.proofs.Common.{◌≡◌, ℕ, true, List, [], ◌∷◌, length, Option, Some, None, slice_get, arith, refl, sym, ◌∙◌, Bool}
use Rattle.std.specs.Prelude.{option_map}
use Rattle.std.proofs.lemmas.Option.{same_Some, slice_get_within}
use Rattle.team_files.specs.declared.kind.Kind.{Kind}
use Rattle.team_files.specs.declared.team_id.TeamId.{TeamId}
use Rattle.rule_sets.specs.Files.{DrawFile}
use Rattle.rule_sets.specs.Forms.{HasForm}
use Rattle.count_core.specs.Assignments.{makes_true, Satisfies, SatisfiesQuestion}
use Rattle.list_counts.proofs.Entries.{entries_for}
use Rattle.draw_tables.specs.declared.group_place.GroupPlace.{GroupPlace}
use Rattle.draw_tables.specs.declared.moves.Move.{Move}
use Rattle.draw_tables.specs.declared.moves.Move.TheVariants.{Drawn, Placed, Positioned, Paired}
use Rattle.draw_tables.specs.declared.table.Table.{Table}
use Rattle.draw_tables.specs.declared.table.Table.TheVariants.{Group, Pairs}
use Rattle.draw_tables.specs.Lists.{IsAmong}
use Rattle.draw_tables.specs.GroupTables.{group_of, IsLegalGroups}
use Rattle.draw_tables.specs.Tables.{IsLegal}
use Rattle.draw_tables.specs.Positions.{HasCleanPositions}
use Rattle.draw_tables.specs.States.{IsState}
use Rattle.draw_tables.specs.Offers.{Extends, IsCompletable}
use Rattle.group_draw.specs.Encoding.{group_lit, rules_of, values_of, values_of_places, lits_of_moves}
use Rattle.group_draw.specs.Decoding.{given_groups, filled_places, AreTrueGroups, ArePlacesFilled, HaveTrueGroups, IsTrueGroup}
use Rattle.group_draw.specs.Correspondence.{Agrees, HasGroups, KeepsGroupRules, Meets}
use Rattle.group_draw.proofs.Teams.{this_is}
use Rattle.group_draw.proofs.StateMoves.{SaysOnce, state_says}
use Rattle.group_draw.proofs.FixedPlaces.{has_atoms}
use Rattle.group_draw.proofs.Agreeing.{agreeing}
use Rattle.group_draw.proofs.Reading.{values_agree, read_agrees, read_has_groups, true_group}
use Rattle.group_draw.proofs.FilledPlaces.{given_back, are_filled}
use Rattle.group_draw.proofs.FilledTables.{group_table, moves_agree, legal, extends}

module _ (file : DrawFile) (kind : file.kind ≡ Kind.Group) (form : HasForm file) where
  -- ---- from values to a table

  module _ (ms : List Move) (state : IsState file ms) (clean : HasCleanPositions file ms) (values : List Bool) (rules : Satisfies values (rules_of file)) (moves : SatisfiesQuestion values (lits_of_moves file ms))
      (table : List GroupPlace) (read : AreTrueGroups file values (given_groups table)) (is_filled : ArePlacesFilled file ms table) where
    says : SaysOnce file ms
    says = state_says file kind ms state

    agrees : Agrees file values table
    agrees = read_agrees file values table rules read

    has : HasGroups file table
    has = read_has_groups file values table read

    keeps : KeepsGroupRules file table
    keeps = (agreeing file values table (has_atoms file kind form) has agrees).0 rules

    said : (t : TeamId) (g : ℕ) → IsAmong ms (Placed t g) → group_of table t ≡ Some g
    said = moves_agree file values table agrees ms (λ t g m. let p = says.placed t g m in (p.0, p.1)) moves

    -- a table that is read and filled is legal and extends the moves
    pub read_legal : IsLegalGroups file table
    read_legal = legal file kind form ms says clean table has keeps said is_filled

    pub read_extends : Extends file (group_table table) ms
    read_extends = extends file kind form ms says clean table has keeps said is_filled

  -- values that satisfy the rules have groups to be read
  pub have_groups : (values : List Bool) → Satisfies values (rules_of file) → HaveTrueGroups file values
  have_groups values rules t lt = let g = true_group file values rules t lt in (g.0, (g.1, g.2))

  some_groups : (values : List Bool) → Satisfies values (rules_of file) → (groups : List ℕ) × AreTrueGroups file values groups
  some_groups values rules =
      let made = entries_for (λ i g. IsTrueGroup file values (record { 0 = i }) g) (length file.teams) (λ i lt. have_groups values rules (record { 0 = i }) lt) in
      (made.0, record { size = made.1; atoms = λ t g e. made.2 t.0 g e })

  -- ---- the table that is read and filled

  pub record IsDecoded (ms : List Move) (values : List Bool) (places : List GroupPlace) : Type 0 where
    pub legal : IsLegalGroups file places
    pub extends : Extends file (group_table places) ms
    pub read : AreTrueGroups file values (given_groups places)
    pub is_filled : ArePlacesFilled file ms places

  pub decoded : (ms : List Move) (values : List Bool) → IsState file ms → HasCleanPositions file ms → Satisfies values (rules_of file) → SatisfiesQuestion values (lits_of_moves file ms)
      → (groups : List ℕ) → AreTrueGroups file values groups → (places : List GroupPlace) → places ≡ filled_places file ms groups → IsDecoded ms values places
  decoded ms values state clean rules moves groups true_groups places is =
      let back = given_back file ms groups true_groups.size in
      let read : AreTrueGroups file values (given_groups (filled_places file ms groups)) = rw back true_groups in
      let is_filled = are_filled file ms groups true_groups.size in
      rw is (record {
        legal = read_legal ms state clean values rules moves (filled_places file ms groups) read is_filled;
        extends = read_extends ms state clean values rules moves (filled_places file ms groups) read is_filled;
        read = read;
        is_filled = is_filled;
      })

  -- values that meet the rules and the moves of a state with clean positions complete it
  pub values_complete : (ms : List Move) (values : List Bool) → IsState file ms → HasCleanPositions file ms → Meets file ms values → IsCompletable file ms
  values_complete ms values state clean meets =
      let groups = some_groups values meets.rules in
      let made = decoded ms values state clean meets.rules meets.moves groups.0 groups.1 (filled_places file ms groups.0) refl in
      (group_table (filled_places file ms groups.0), (kind, made.legal), made.extends)

  -- ---- from a table to its values

  module _ (table : List GroupPlace) (legal : IsLegalGroups file table) where
    table_has : HasGroups file table
    table_has = record { size = legal.size; groups = λ place m. (legal.places place m).0 }

    table_keeps : KeepsGroupRules file table
    table_keeps = record {
      fixed_group = legal.fixed_group;
      pots = legal.pots;
      enough = legal.enough;
      not_too_many = legal.not_too_many;
      forbidden = legal.forbidden;
    }

    table_agrees : Agrees file (values_of_places file table) table
    table_agrees = values_agree file table table_has

    -- a team's group is true
    group_true : (t : TeamId) (g : ℕ) → group_of table t ≡ Some g → makes_true (values_of_places file table) (group_lit file g t) ≡ true
    group_true t g e = go (slice_get table t.0) refl e
      where
        go : (o : Option GroupPlace) → slice_get table t.0 ≡ o → option_map (λ place. place.group) o ≡ Some g → makes_true (values_of_places file table) (group_lit file g t) ≡ true
        go None is f = cc
        go (Some x) is f =
            let size = legal.size in
            let within = slice_get_within table t.0 x is in
            let in_g : x.group ≡ g = same_Some x.group g f in
            let lt = (legal.places x (t.0, is)).0 in
            table_agrees t g (omega arith) (omega arith) ∙ this_is (group_of table t) g e

    table_moves : (ms : List Move) → Extends file (group_table table) ms → SatisfiesQuestion (values_of_places file table) (lits_of_moves file ms)
    table_moves [] h = tt
    table_moves (Drawn t ∷ ms) h = table_moves ms h.1
    table_moves (Placed t g ∷ ms) h = (group_true t g h.0, table_moves ms h.1)
    table_moves (Positioned t p ∷ ms) h = table_moves ms h.1
    table_moves (Paired r w ∷ ms) h = table_moves ms h.1

    table_rules : Satisfies (values_of_places file table) (rules_of file)
    table_rules = (agreeing file (values_of_places file table) table (has_atoms file kind form) table_has table_agrees).1 table_keeps

  -- the values of a legal table that extends the moves meet the rules and the moves
  pub tables_satisfy : (ms : List Move) (table : Table) → IsLegal file table → Extends file table ms → Meets file ms (values_of file table)
  tables_satisfy ms (Group groups) legal extends = record {
    rules = table_rules groups.places legal.1;
    moves = table_moves groups.places legal.1 ms extends;
  }
  tables_satisfy ms (Pairs pairs) legal extends = let other = sym kind ∙ legal.0 in cc

  -- ---- both ways

  pub completable_where_satisfied : (ms : List Move) → IsState file ms → HasCleanPositions file ms
      → (IsCompletable file ms → (values : List Bool) × Meets file ms values) × (((values : List Bool) × Meets file ms values) → IsCompletable file ms)
  completable_where_satisfied ms state clean = (
    λ h. (values_of file h.0, tables_satisfy ms h.0 h.1 h.2),
    λ h. values_complete ms h.0 state clean h.1,
  )
