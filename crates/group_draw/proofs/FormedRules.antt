-- The rules of a file are well formed.
use Rattle.std.proofs.Common.{◌≡◌, ◌≢◌, ℕ, zero, suc, ◌+◌, ◌*◌, ◌<◌, ◌≤◌, List, [], ◌∷◌, ◌++◌, length, map, Some, slice_get, arith, refl, sym, ap, ◌∙◌, length-append}
use Rattle.std.specs.Prelude.{◌==◌}
use Rattle.std.specs.List.{AllByRecursion as Each}
use Rattle.std.proofs.lemmas.List.{length-map}
use Rattle.std.proofs.lemmas.List.FromFn.{length-range_with_len, length-map-range_with_len}
use Rattle.team_files.specs.declared.kind.Kind.{Kind}
use Rattle.team_files.specs.declared.team_id.TeamId.{TeamId}
use Rattle.team_files.specs.Heads.{most_groups, most_pots, most_limits, most_pairs}
use Rattle.rule_sets.specs.Files.{DrawFile}
use Rattle.rule_sets.specs.Forms.{HasForm, HasGroupForm, HasLimitForm, NamesTwoTeams, IsPlaceIn}
use Rattle.count_core.specs.declared.lit.Lit.{Lit}
use Rattle.count_core.specs.declared.count_rule.CountRule.{CountRule}
use Rattle.count_core.specs.Problems.{IsWellFormed, IsWellFormedRule}
use Rattle.count_core.proofs.Rules.{distinct_from_places, within_from_each}
use Rattle.list_counts.proofs.Entries.{length_nested, map_among}
use Rattle.list_counts.proofs.Facts.{each_append, mapped_from, nested_from}
use Rattle.list_counts.proofs.Ones.{below_at, each_below}
use Rattle.list_counts.proofs.Atoms.{atom_within, same_atom, small_product}
use Rattle.draw_tables.specs.Pots.{groups_of, pots_of, holds, IsTeamOf}
use Rattle.group_draw.specs.Encoding.{group_lit, number_lit, between, team_rule, pot_rule, limit_rule, pair_rule, place_rule, team_rules, pot_rules, limit_rules, pair_rules, place_rules, all_rules, rules_of}
use Rattle.group_draw.proofs.Teams.{of_pot, of_tag, teams_once}
use Rattle.group_draw.proofs.FixedPlaces.{all_at}
use Rattle.group_draw.proofs.Agreeing.{group_within, of_one, of_two}

module _ (file : DrawFile) where
  abbrev Formed : CountRule → Type 0
  Formed rule = IsWellFormedRule (length file.teams * file.groups) rule

  -- a rule over different teams of the file in one group
  between_formed : (lo hi g : ℕ) (teams : List TeamId) → lo ≤ hi → g < file.groups
      → ((k : ℕ) (t : TeamId) → slice_get teams k ≡ Some t → IsTeamOf file t)
      → ((j k : ℕ) (t s : TeamId) → t.0 ≡ s.0 → slice_get teams j ≡ Some t → slice_get teams k ≡ Some s → j ≡ k)
      → Formed (between lo hi file g teams)
  between_formed lo hi g teams order lt of_file once = record {
    in_range = within_from_each (length file.teams * file.groups) (map (group_lit file g) teams) (mapped_from (λ l. l.atom.0 < length file.teams * file.groups) (group_lit file g) teams (λ k t e. atom_within (length file.teams) file.groups t.0 g (of_file k t e) lt));
    distinct = distinct_from_places (map (group_lit file g) teams) (λ i j l m before e f q.
        let a = map_among (group_lit file g) teams i l e in
        let b = map_among (group_lit file g) teams j m f in
        let atoms : b.0.0 * file.groups + g ≡ a.0.0 * file.groups + g = ap (λ (x : Lit). x.atom.0) b.2 ∙ q ∙ sym (ap (λ (x : Lit). x.atom.0) a.2) in
        let same = (same_atom file.groups b.0.0 a.0.0 g g lt lt atoms).0 in
        let place = once j i b.0 a.0 same b.1 a.1 in
        absurd (omega arith));
    bounds = order;
  }

  team_formed : (i : ℕ) → i < length file.teams → Formed (team_rule file i)
  team_formed i lt = record {
    in_range = within_from_each (length file.teams * file.groups) (map (number_lit file i) (groups_of file)) (each_below (number_lit file i) (λ l. l.atom.0 < length file.teams * file.groups) file.groups (λ g in_g. atom_within (length file.teams) file.groups i g lt in_g));
    distinct = distinct_from_places (map (number_lit file i) (groups_of file)) (λ j k l m before e f q.
        let a = below_at (number_lit file i) file.groups j l e in
        let b = below_at (number_lit file i) file.groups k m f in
        let atoms : i * file.groups + k ≡ i * file.groups + j = sym (ap (λ (x : Lit). x.atom.0) b.1) ∙ q ∙ ap (λ (x : Lit). x.atom.0) a.1 in
        absurd (omega arith));
    bounds = omega arith;
  }

  one_once : (a : TeamId) (j k : ℕ) (t s : TeamId) → t.0 ≡ s.0 → slice_get (a ∷ []) j ≡ Some t → slice_get (a ∷ []) k ≡ Some s → j ≡ k
  one_once a zero zero t s q e f = refl
  one_once a zero (suc k) t s q e f = cc
  one_once a (suc j) k t s q e f = cc

  two_once : (a b : TeamId) → a.0 ≢ b.0 → (j k : ℕ) (t s : TeamId) → t.0 ≡ s.0 → slice_get (a ∷ b ∷ []) j ≡ Some t → slice_get (a ∷ b ∷ []) k ≡ Some s → j ≡ k
  two_once a b n zero zero t s q e f = refl
  two_once a b n zero (suc zero) t s q e f = let x : a ≡ t = cc in let y : b ≡ s = cc in absurd (n (ap (λ (z : TeamId). z.0) x ∙ q ∙ sym (ap (λ (z : TeamId). z.0) y)))
  two_once a b n zero (suc (suc k)) t s q e f = cc
  two_once a b n (suc zero) zero t s q e f = let x : b ≡ t = cc in let y : a ≡ s = cc in absurd (n (ap (λ (z : TeamId). z.0) y ∙ sym q ∙ sym (ap (λ (z : TeamId). z.0) x)))
  two_once a b n (suc zero) (suc zero) t s q e f = refl
  two_once a b n (suc zero) (suc (suc k)) t s q e f = cc
  two_once a b n (suc (suc j)) k t s q e f = cc

  module _ (kind : file.kind ≡ Kind.Group) (form : HasForm file) where
    abbrev group_form : HasGroupForm file
    group_form = form.group kind

    each_team : Each Formed (team_rules file)
    each_team = each_below (team_rule file) Formed (length file.teams) team_formed

    each_pot : Each Formed (pot_rules file)
    each_pot = nested_from Formed (pot_rule file) (pots_of file) (groups_of file) (λ g pot m n.
        between_formed 1 1 g _ (omega arith) (group_within file g m) (of_pot file pot) (teams_once (λ t. t.pot == pot) 0 file.teams))

    each_limit : Each Formed (limit_rules file)
    each_limit = nested_from Formed (limit_rule file) file.limits (groups_of file) (λ g limit m n.
        let limited = all_at HasLimitForm file.limits group_form.limits n.0 limit n.1 in
        between_formed limit.lo limit.hi g _ limited.order (group_within file g m) (of_tag file limit.tag) (teams_once (holds limit.tag) 0 file.teams))

    each_pair : Each Formed (pair_rules file)
    each_pair = nested_from Formed (pair_rule file) (groups_of file) file.pairs (λ pair g n m.
        let two = all_at (NamesTwoTeams file.teams) file.pairs form.common.pairs n.0 pair n.1 in
        between_formed 0 1 g (pair.first ∷ pair.second ∷ []) (omega arith) (group_within file g m) (of_two file pair.first pair.second two.first two.second) (two_once pair.first pair.second two.different))

    each_place : Each Formed (place_rules file)
    each_place = mapped_from Formed (place_rule file) file.places (λ k place e.
        let at = all_at (IsPlaceIn file) file.places group_form.places k place e in
        between_formed 1 1 place.group (place.team ∷ []) (omega arith) at.group (of_one file place.team at.team) (one_once place.team))

    each_rule : Each Formed (all_rules file)
    each_rule =
        each_append Formed (team_rules file) (pot_rules file ++ (limit_rules file ++ (pair_rules file ++ place_rules file))) each_team
        (each_append Formed (pot_rules file) (limit_rules file ++ (pair_rules file ++ place_rules file)) each_pot
        (each_append Formed (limit_rules file) (pair_rules file ++ place_rules file) each_limit
        (each_append Formed (pair_rules file) (place_rules file) each_pair each_place)))

    -- ---- how many rules there are

    number : length (all_rules file) ≡ length file.teams + (file.groups * file.pots + (file.groups * length file.limits + (length file.pairs * file.groups + length file.places)))
    number =
        let a = length-append (team_rules file) (pot_rules file ++ (limit_rules file ++ (pair_rules file ++ place_rules file))) in
        let b = length-append (pot_rules file) (limit_rules file ++ (pair_rules file ++ place_rules file)) in
        let c = length-append (limit_rules file) (pair_rules file ++ place_rules file) in
        let d = length-append (pair_rules file) (place_rules file) in
        let one = length-map-range_with_len (team_rule file) 0 (length file.teams) in
        let two : length (pot_rules file) ≡ file.groups * file.pots = length_nested (pot_rule file) (pots_of file) (groups_of file) ∙ rw (length-range_with_len 0 file.groups, length-range_with_len 1 file.pots) refl in
        let three : length (limit_rules file) ≡ file.groups * length file.limits = length_nested (limit_rule file) file.limits (groups_of file) ∙ rw (length-range_with_len 0 file.groups) refl in
        let four : length (pair_rules file) ≡ length file.pairs * file.groups = length_nested (pair_rule file) (groups_of file) file.pairs ∙ rw (length-range_with_len 0 file.groups) refl in
        let five = length-map file.places (place_rule file) in
        omega arith

    -- the rules of a file make a problem
    pub rules_formed : IsWellFormed (rules_of file)
    rules_formed = record {
      rules = each_rule;
      few =
          let n = number in
          let teams = form.common.few_teams in
          let groups = group_form.groups.1 in
          let places = group_form.few_places in
          let pots = small_product file.groups file.pots most_groups most_pots groups group_form.pots.1 in
          let limits = small_product file.groups (length file.limits) most_groups most_limits groups group_form.few_limits in
          let pairs = small_product (length file.pairs) file.groups most_pairs most_groups form.common.few_pairs groups in
          omega arith;
    }
