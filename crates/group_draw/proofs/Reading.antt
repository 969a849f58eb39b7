-- A table agrees with its values, and with the values that its groups are read off.
use Rattle.std.proofs.Common.{◌≡◌, ℕ, ◌+◌, ◌*◌, ◌<◌, ◌⊎◌, inl, inr, Bool, true, false, List, ◌++◌, length, map, Some, slice_get, arith, sym, ap, ◌∙◌}
use Rattle.std.specs.Prelude.{count_by, ◌==◌, nat_eq, option_map}
use Rattle.std.specs.Option.{option_eq}
use Rattle.std.proofs.lemmas.Bool.{cases_Bool}
use Rattle.std.proofs.lemmas.Bool.Decides.{nat_tests}
use Rattle.std.proofs.lemmas.List.{length-map}
use Rattle.std.proofs.lemmas.List.FromFn.{length-range_with_len}
use Rattle.std.proofs.lemmas.Option.{get_or_from_slice_get, slice_get-map}
use Rattle.team_files.specs.declared.team_id.TeamId.{TeamId}
use Rattle.rule_sets.specs.Files.{DrawFile}
use Rattle.count_core.specs.Assignments.{makes_true, SatisfiesRule, Satisfies}
use Rattle.list_counts.proofs.Entries.{entry_at, map_at, get_joined}
use Rattle.list_counts.proofs.Facts.{each_split}
use Rattle.list_counts.proofs.Ones.{number_at, below_each, below_one}
use Rattle.draw_tables.specs.declared.group_place.GroupPlace.{GroupPlace}
use Rattle.draw_tables.specs.Pots.{groups_of, IsTeamOf}
use Rattle.draw_tables.specs.GroupTables.{group_of, stands_in}
use Rattle.group_draw.specs.Encoding.{group_lit, number_lit, team_rule, team_rules, pot_rules, limit_rules, pair_rules, place_rules, rules_of, values_of_places}
use Rattle.group_draw.specs.Decoding.{given_groups, AreTrueGroups}
use Rattle.group_draw.specs.Correspondence.{HasGroups, ValuesAgree, ReadAgrees}
use Rattle.group_draw.proofs.Teams.{is_this, this_is}
use Rattle.group_draw.proofs.Agreeing.{its_group}

turn : (a b : ℕ) → (a == b) ≡ (b == a)
turn a b = grind (arith, nat_tests)

-- the group of a team among those that the table gives
pub given_group : (table : List GroupPlace) (t : TeamId) → slice_get (given_groups table) t.0 ≡ group_of table t
given_group table t = slice_get-map (λ place. place.group) table t.0

-- a table agrees with its values
pub values_agree : ValuesAgree
values_agree file table has t group lt in_groups =
    let size = has.size in
    let r = entry_at table t.0 (omega arith) in
    let piece = map_at (λ g. g == r.0.group) (groups_of file) group group (number_at file.groups group in_groups) in
    let joined = get_joined (λ place. map (λ g. g == place.group) (groups_of file)) file.groups (λ place. length-map (groups_of file) (λ g. g == place.group) ∙ length-range_with_len 0 file.groups) table t.0 group r.0 (group == r.0.group) r.1 piece in
    get_or_from_slice_get (values_of_places file table) (t.0 * file.groups + group) (group == r.0.group) false joined
    ∙ turn group r.0.group
    ∙ sym (ap (λ o. option_eq nat_eq (option_map (λ x. x.group) o) (Some group)) r.1)

-- a table whose groups are read has groups of the file
pub read_has_groups : (file : DrawFile) (values : List Bool) (table : List GroupPlace) → AreTrueGroups file values (given_groups table) → HasGroups file table
read_has_groups file values table read = record {
  size = sym (length-map table (λ place. place.group)) ∙ read.size;
  groups = λ place m. (read.atoms (record { 0 = m.0 }) place.group (map_at (λ p. p.group) table m.0 place m.1)).0;
}

module _ (file : DrawFile) (values : List Bool) (satisfied : Satisfies values (rules_of file)) where
  -- each team has one true atom
  row : (t : TeamId) → IsTeamOf file t → count_by (makes_true values) (map (number_lit file t.0) (groups_of file)) ≡ 1
  row t lt =
      let parts = each_split (SatisfiesRule values) (team_rules file) (pot_rules file ++ (limit_rules file ++ (pair_rules file ++ place_rules file))) satisfied in
      let r = below_each (team_rule file) (SatisfiesRule values) (length file.teams) parts.0 t.0 lt in
      let low = r.0 in
      let high = r.1 in
      omega arith

  -- so there is a group to be read
  pub true_group : (t : TeamId) → IsTeamOf file t → (g : ℕ) × (g < file.groups) × (makes_true values (group_lit file g t) ≡ true)
  true_group t lt = let one = below_one (makes_true values) (number_lit file t.0) file.groups (row t lt) in (one.at, one.within, one.passes)

  pub same_group : (t : TeamId) → IsTeamOf file t → (g k : ℕ) → g < file.groups → k < file.groups → makes_true values (group_lit file g t) ≡ true → makes_true values (group_lit file k t) ≡ true → g ≡ k
  same_group t lt g k in_g in_k e f = let one = below_one (makes_true values) (number_lit file t.0) file.groups (row t lt) in one.only g in_g e ∙ sym (one.only k in_k f)

-- values that satisfy the rules agree with a table that is read off them
pub read_agrees : ReadAgrees
read_agrees file values table satisfied read t group lt in_groups = go (cases_Bool (makes_true values (group_lit file group t))) (cases_Bool (stands_in table group t))
  where
    stands : (g : ℕ) → group_of table t ≡ Some g → makes_true values (group_lit file g t) ≡ true
    stands g e = (read.atoms t g (given_group table t ∙ e)).1

    same : makes_true values (group_lit file group t) ≡ true → stands_in table group t ≡ true
    same e =
        let g = its_group file table (read_has_groups file values table read) t lt in
        let one = same_group file values satisfied t lt g.0 group g.1 in_groups (stands g.0 g.2) e in
        this_is (group_of table t) group (g.2 ∙ ap Some one)

    go : (makes_true values (group_lit file group t) ≡ true) ⊎ (makes_true values (group_lit file group t) ≡ false)
        → (stands_in table group t ≡ true) ⊎ (stands_in table group t ≡ false) → makes_true values (group_lit file group t) ≡ stands_in table group t
    go (inl e) o = e ∙ sym (same e)
    go (inr e) (inl s) = let r = stands group (is_this (group_of table t) group s) in cc
    go (inr e) (inr s) = e ∙ sym s
