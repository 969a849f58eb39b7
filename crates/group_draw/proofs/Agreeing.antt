-- Values that agree with a table satisfy the rules exactly where the table's groups keep theirs.
use Rattle.std.proofs.Common.{◌≡◌, ℕ, zero, suc, ◌+◌, ◌<◌, ◌≤◌, Bool, true, false, cond, List, [], ◌∷◌, ◌++◌, length, map, Some, slice_get, arith, refl, sym, ap, ◌∙◌, subst}
use Rattle.std.specs.Prelude.{count_by, ◌==◌, nat_eq, option_map}
use Rattle.std.specs.Option.{option_eq}
use Rattle.std.specs.List.{range_with_len}
use Rattle.std.proofs.lemmas.Bool.Decides.{nat_tests}
use Rattle.std.proofs.lemmas.Option.{same_Some}
use Rattle.team_files.specs.declared.team_id.TeamId.{TeamId}
use Rattle.rule_sets.specs.declared.limit.Limit.{Limit}
use Rattle.rule_sets.specs.declared.pair.Pair.{Pair}
use Rattle.rule_sets.specs.declared.place.Place.{Place}
use Rattle.rule_sets.specs.Files.{DrawFile}
use Rattle.count_core.specs.declared.count_rule.CountRule.{CountRule}
use Rattle.count_core.specs.Assignments.{makes_true, SatisfiesRule, Satisfies}
use Rattle.list_counts.proofs.Entries.{entry_at, in_range, range_has}
use Rattle.list_counts.proofs.Facts.{each_at, each_append, each_split, mapped_from, mapped_at, nested_from, nested_at}
use Rattle.list_counts.proofs.Counts.{count_same, count_map, count_cons}
use Rattle.list_counts.proofs.Numbers.{range_once}
use Rattle.draw_tables.specs.declared.group_place.GroupPlace.{GroupPlace}
use Rattle.draw_tables.specs.Lists.{IsAmong}
use Rattle.draw_tables.specs.Pots.{groups_of, pots_of, teams_of_pot, teams_with, IsPot, IsTeamOf}
use Rattle.draw_tables.specs.GroupTables.{group_of, stands_in, number_in}
use Rattle.group_draw.specs.Encoding.{group_lit, number_lit, team_rule, pot_rule, limit_rule, pair_rule, place_rule, team_rules, pot_rules, limit_rules, pair_rules, place_rules, rules_of, IsPairOf, IsPlaceOf, HasAtoms}
use Rattle.group_draw.specs.Correspondence.{Agrees, HasGroups, KeepsGroupRules}
use Rattle.group_draw.proofs.Teams.{is_this, this_is, of_pot, of_tag}

-- ---- two teams, and one

pub of_two : (file : DrawFile) (a b : TeamId) → IsTeamOf file a → IsTeamOf file b → (k : ℕ) (t : TeamId) → slice_get (a ∷ b ∷ []) k ≡ Some t → IsTeamOf file t
of_two file a b in_a in_b zero t e = subst (IsTeamOf file) (same_Some a t e) in_a
of_two file a b in_a in_b (suc zero) t e = subst (IsTeamOf file) (same_Some b t e) in_b
of_two file a b in_a in_b (suc (suc k)) t e = cc

pub of_one : (file : DrawFile) (a : TeamId) → IsTeamOf file a → (k : ℕ) (t : TeamId) → slice_get (a ∷ []) k ≡ Some t → IsTeamOf file t
of_one file a in_a zero t e = subst (IsTeamOf file) (same_Some a t e) in_a
of_one file a in_a (suc k) t e = cc

not_both : (a b : Bool) → cond a 1 0 + cond b 1 0 ≤ 1 → a ≡ true → b ≡ true → ⊥
not_both true true h e f = absurd (omega arith)
not_both true false h e f = cc
not_both false b h e f = cc

at_most_one : (a b : Bool) → (a ≡ true → b ≡ true → ⊥) → cond a 1 0 + cond b 1 0 ≤ 1
at_most_one true true h = absurd (h refl refl)
at_most_one true false h = omega arith
at_most_one false true h = omega arith
at_most_one false false h = omega arith

is_one : (b : Bool) → 1 ≤ cond b 1 0 → b ≡ true
is_one true h = refl
is_one false h = absurd (omega arith)

turn : (a b : ℕ) → (a == b) ≡ (b == a)
turn a b = grind (arith, nat_tests)

module _ (file : DrawFile) where
  pub among_groups : (g : ℕ) → g < file.groups → IsAmong (groups_of file) g
  among_groups g lt = range_has 0 file.groups g (omega arith) (omega arith)

  pub group_within : (g : ℕ) → IsAmong (groups_of file) g → g < file.groups
  group_within g m = let u = (in_range 0 file.groups m.0 g m.1).1 in omega arith

  among_pots : (pot : ℕ) → IsPot file pot → IsAmong (pots_of file) pot
  among_pots pot is = let u = is.1 in range_has 1 file.pots pot is.0 (omega arith)

  pot_within : (pot : ℕ) → IsAmong (pots_of file) pot → IsPot file pot
  pot_within pot m = let r = in_range 1 file.pots m.0 pot m.1 in let u = r.1 in (r.0, omega arith)

-- the group that a table gives a team
pub its_group : (file : DrawFile) (table : List GroupPlace) → HasGroups file table → (t : TeamId) → IsTeamOf file t → (g : ℕ) × (g < file.groups) × (group_of table t ≡ Some g)
its_group file table has t lt =
    let size = has.size in
    let r = entry_at table t.0 (omega arith) in
    (r.0.group, has.groups r.0 (t.0, r.1), ap (option_map (λ x. x.group)) r.1)

module _ (file : DrawFile) (values : List Bool) (table : List GroupPlace) (named : HasAtoms file) (has : HasGroups file table) (agrees : Agrees file values table) where
  -- as many literals are true as teams stand in the group
  same_number : (group : ℕ) (teams : List TeamId) → group < file.groups → ((k : ℕ) (t : TeamId) → slice_get teams k ≡ Some t → IsTeamOf file t)
      → count_by (makes_true values) (map (group_lit file group) teams) ≡ number_in table group teams
  same_number group teams lt within =
      count_map (group_lit file group) (makes_true values) teams
      ∙ count_same (λ t. makes_true values (group_lit file group t)) (stands_in table group) teams (λ k t e. agrees t group (within k t e) lt)

  two : (group : ℕ) (pair : Pair) → number_in table group (pair.first ∷ pair.second ∷ []) ≡ cond (stands_in table group pair.first) 1 0 + cond (stands_in table group pair.second) 1 0
  two group pair =
      let a = count_cons (stands_in table group) pair.first (pair.second ∷ []) in
      let b = count_cons (stands_in table group) pair.second [] in
      omega arith

  one : (group : ℕ) (t : TeamId) → number_in table group (t ∷ []) ≡ cond (stands_in table group t) 1 0
  one group t = let a = count_cons (stands_in table group) t [] in omega arith

  pair_of_file : (pair : Pair) → IsAmong file.pairs pair → IsPairOf file pair
  pair_of_file pair m = each_at (IsPairOf file) file.pairs named.pairs m.0 pair m.1

  place_of_file : (place : Place) → IsAmong file.places place → IsPlaceOf file place
  place_of_file place m = each_at (IsPlaceOf file) file.places named.places m.0 place m.1

  of_pair : (pair : Pair) → IsAmong file.pairs pair → (k : ℕ) (t : TeamId) → slice_get (pair.first ∷ pair.second ∷ []) k ≡ Some t → IsTeamOf file t
  of_pair pair m = let both = pair_of_file pair m in of_two file pair.first pair.second both.0 both.1

  abbrev Ok : CountRule → Type 0
  Ok r = SatisfiesRule values r

  -- ---- from the rules to the table

  keeps : Satisfies values (rules_of file) → KeepsGroupRules file table
  keeps h =
      let a = each_split Ok (team_rules file) (pot_rules file ++ (limit_rules file ++ (pair_rules file ++ place_rules file))) h in
      let b = each_split Ok (pot_rules file) (limit_rules file ++ (pair_rules file ++ place_rules file)) a.1 in
      let c = each_split Ok (limit_rules file) (pair_rules file ++ place_rules file) b.1 in
      let d = each_split Ok (pair_rules file) (place_rules file) c.1 in
      record {
        fixed_group = λ place n.
            let r = mapped_at Ok (place_rule file) file.places d.1 n.0 place n.1 in
            let low = r.0 in
            let at = place_of_file place n in
            let same = same_number place.group (place.team ∷ []) at.1 (of_one file place.team at.0) in
            let o = one place.group place.team in
            is_this (group_of table place.team) place.group (is_one (stands_in table place.group place.team) (omega arith));
        pots = λ g pot lt is.
            let m = among_groups file g lt in
            let n = among_pots file pot is in
            let r = nested_at Ok (pot_rule file) (pots_of file) (groups_of file) b.0 m.0 g m.1 n.0 pot n.1 in
            let low = r.0 in
            let high = r.1 in
            let same = same_number g (teams_of_pot pot file) lt (of_pot file pot) in
            omega arith;
        enough = λ g limit lt n.
            let m = among_groups file g lt in
            let r = nested_at Ok (limit_rule file) file.limits (groups_of file) c.0 m.0 g m.1 n.0 limit n.1 in
            let low = r.0 in
            let same = same_number g (teams_with limit.tag file) lt (of_tag file limit.tag) in
            omega arith;
        not_too_many = λ g limit lt n.
            let m = among_groups file g lt in
            let r = nested_at Ok (limit_rule file) file.limits (groups_of file) c.0 m.0 g m.1 n.0 limit n.1 in
            let high = r.1 in
            let same = same_number g (teams_with limit.tag file) lt (of_tag file limit.tag) in
            omega arith;
        forbidden = λ pair n e.
            let g = its_group file table has pair.first (pair_of_file pair n).0 in
            let m = among_groups file g.0 g.1 in
            let r = nested_at Ok (pair_rule file) (groups_of file) file.pairs d.0 n.0 pair n.1 m.0 g.0 m.1 in
            let high = r.1 in
            let same = same_number g.0 (pair.first ∷ pair.second ∷ []) g.1 (of_pair pair n) in
            let t = two g.0 pair in
            not_both (stands_in table g.0 pair.first) (stands_in table g.0 pair.second) (omega arith) (this_is (group_of table pair.first) g.0 g.2) (this_is (group_of table pair.second) g.0 (sym e ∙ g.2));
      }

  -- ---- from the table to the rules

  module _ (keep : KeepsGroupRules file table) where
    teams : (k i : ℕ) → slice_get (range_with_len 0 (length file.teams)) k ≡ Some i → Ok (team_rule file i)
    teams k i e =
        let u = (in_range 0 (length file.teams) k i e).1 in
        let lt : i < length file.teams = omega arith in
        let g = its_group file table has (record { 0 = i }) lt in
        let mapped = count_map (number_lit file i) (makes_true values) (groups_of file) in
        let same = count_same (λ group. makes_true values (number_lit file i group)) (λ group. group == g.0) (groups_of file) (λ j x f. agrees (record { 0 = i }) x lt (group_within file x (j, f)) ∙ ap (λ o. option_eq nat_eq o (Some x)) g.2 ∙ turn g.0 x) in
        let once = range_once 0 file.groups g.0 (omega arith) (let l = g.1 in omega arith) in
        (omega arith, omega arith)

    pots : (g pot : ℕ) → IsAmong (groups_of file) g → IsAmong (pots_of file) pot → Ok (pot_rule file g pot)
    pots g pot m n =
        let k = keep.pots g pot (group_within file g m) (pot_within file pot n) in
        let same = same_number g (teams_of_pot pot file) (group_within file g m) (of_pot file pot) in
        (omega arith, omega arith)

    limits : (g : ℕ) (limit : Limit) → IsAmong (groups_of file) g → IsAmong file.limits limit → Ok (limit_rule file g limit)
    limits g limit m n =
        let low = keep.enough g limit (group_within file g m) n in
        let high = keep.not_too_many g limit (group_within file g m) n in
        let same = same_number g (teams_with limit.tag file) (group_within file g m) (of_tag file limit.tag) in
        (omega arith, omega arith)

    pairs : (pair : Pair) (g : ℕ) → IsAmong file.pairs pair → IsAmong (groups_of file) g → Ok (pair_rule file pair g)
    pairs pair g n m =
        let same = same_number g (pair.first ∷ pair.second ∷ []) (group_within file g m) (of_pair pair n) in
        let t = two g pair in
        let f = at_most_one (stands_in table g pair.first) (stands_in table g pair.second) (λ a b. keep.forbidden pair n (is_this (group_of table pair.first) g a ∙ sym (is_this (group_of table pair.second) g b))) in
        (omega arith, omega arith)

    places : (k : ℕ) (place : Place) → slice_get file.places k ≡ Some place → Ok (place_rule file place)
    places k place e =
        let at = place_of_file place (k, e) in
        let same = same_number place.group (place.team ∷ []) at.1 (of_one file place.team at.0) in
        let o = one place.group place.team in
        let on = this_is (group_of table place.team) place.group (keep.fixed_group place (k, e)) in
        let c : ◌≡◌ {A = ℕ} (cond (stands_in table place.group place.team) 1 0) 1 = ap (λ b. cond b 1 0) on in
        (omega arith, omega arith)

    satisfied : Satisfies values (rules_of file)
    satisfied =
        each_append Ok (team_rules file) (pot_rules file ++ (limit_rules file ++ (pair_rules file ++ place_rules file))) (mapped_from Ok (team_rule file) (range_with_len 0 (length file.teams)) teams)
        (each_append Ok (pot_rules file) (limit_rules file ++ (pair_rules file ++ place_rules file)) (nested_from Ok (pot_rule file) (pots_of file) (groups_of file) pots)
        (each_append Ok (limit_rules file) (pair_rules file ++ place_rules file) (nested_from Ok (limit_rule file) file.limits (groups_of file) limits)
        (each_append Ok (pair_rules file) (place_rules file) (nested_from Ok (pair_rule file) (groups_of file) file.pairs pairs)
        (mapped_from Ok (place_rule file) file.places places))))

  -- agreeing values satisfy the rules exactly where the groups keep theirs
  pub agreeing : (Satisfies values (rules_of file) → KeepsGroupRules file table) × (KeepsGroupRules file table → Satisfies values (rules_of file))
  agreeing = (keeps, satisfied)
