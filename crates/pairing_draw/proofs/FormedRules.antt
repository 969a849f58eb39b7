-- The rules of a file are well formed.
use Rattle.std.proofs.Common.{◌≡◌, ℕ, ◌+◌, ◌*◌, ◌<◌, ◌≤◌, true, not, List, [], ◌∷◌, ◌++◌, length, map, refl, sym, ap, ◌∙◌, arith, length-append}
use Rattle.std.specs.List.{range_with_len, enumerate_from, flat_map, AllByRecursion as Each}
use Rattle.std.proofs.lemmas.List.FromFn.{length-map-range_with_len}
use Rattle.std.proofs.lemmas.Option.{slice_get_within}
use Rattle.team_files.specs.declared.team_id.TeamId.{TeamId}
use Rattle.team_files.specs.Heads.{most_teams}
use Rattle.rule_sets.specs.Files.{DrawFile}
use Rattle.rule_sets.specs.Forms.{HasForm}
use Rattle.count_core.specs.declared.lit.Lit.{Lit}
use Rattle.count_core.specs.declared.count_rule.CountRule.{CountRule}
use Rattle.count_core.specs.Problems.{IsWellFormed, IsWellFormedRule}
use Rattle.count_core.proofs.Rules.{distinct_from_places, within_from_each}
use Rattle.draw_tables.specs.Pots.{winners, runners_up, teams_of_pot}
use Rattle.draw_tables.specs.Pairings.{may_meet}
use Rattle.draw_tables.proofs.PotOrder.{pot_at_most}
use Rattle.pairing_draw.specs.Encoding.{atom_of, pair_lit, exactly_one, never, row_rule, column_rule, bans_of, rules_between, rules_of}
use Rattle.pairing_draw.proofs.AtomNumbers.{atom_within, small_product, same_atom, each_below, below_at}
use Rattle.pairing_draw.proofs.PlacedLists.{each_append, each_of_places, each_joined, few_of_places, few_joined}

abbrev lit_at : (ℕ → ℕ) → ℕ → Lit
lit_at g j = record { atom = record { 0 = g j }; positive = true }

-- one of so many atoms, which are different and in range
one_formed : (atoms : ℕ) (g : ℕ → ℕ) (n : ℕ) → ((j : ℕ) → j < n → g j < atoms) → ((i j : ℕ) → i < n → j < n → g i ≡ g j → i ≡ j)
    → IsWellFormedRule atoms (exactly_one (map (lit_at g) (range_with_len 0 n)))
one_formed atoms g n below apart = record {
  in_range = within_from_each atoms (map (lit_at g) (range_with_len 0 n)) (each_below (lit_at g) (λ l. l.atom.0 < atoms) n below);
  distinct = distinct_from_places (map (lit_at g) (range_with_len 0 n)) (λ i j l m lt e f q.
      let a = below_at (lit_at g) n i l e in
      let b = below_at (lit_at g) n j m f in
      let p : g i ≡ g j = sym (ap (λ (x : Lit). x.atom.0) a.1) ∙ sym q ∙ ap (λ (x : Lit). x.atom.0) b.1 in
      let s = apart i j a.0 b.0 p in
      absurd (omega arith));
  bounds = omega arith;
}

never_formed : (atoms : ℕ) (l : Lit) → l.atom.0 < atoms → IsWellFormedRule atoms (never l)
never_formed atoms l lt = record {
  in_range = within_from_each atoms (l ∷ []) (lt, tt);
  distinct = refl;
  bounds = omega arith;
}

module _ (file : DrawFile) (rs ws : List TeamId) where
  abbrev Formed : List CountRule → Type 0
  Formed rules = Each (IsWellFormedRule (length rs * length ws)) rules

  rows : Formed (map (row_rule (length ws)) (range_with_len 0 (length rs)))
  rows = each_below (row_rule (length ws)) (IsWellFormedRule (length rs * length ws)) (length rs) (λ r high.
      one_formed (length rs * length ws) (atom_of (length ws) r) (length ws)
      (λ w lt. atom_within (length rs) (length ws) r w high lt)
      (λ i j a b e. (same_atom (length ws) r r i j a b e).1))

  columns : Formed (map (column_rule (length rs) (length ws)) (range_with_len 0 (length ws)))
  columns = each_below (column_rule (length rs) (length ws)) (IsWellFormedRule (length rs * length ws)) (length ws) (λ w high.
      one_formed (length rs * length ws) (λ r. atom_of (length ws) r w) (length rs)
      (λ r lt. atom_within (length rs) (length ws) r w lt high)
      (λ i j a b e. (same_atom (length ws) i j w w high high e).0))

  bans : Formed (flat_map (bans_of file ws) (enumerate_from 0 rs))
  bans = each_joined (IsWellFormedRule (length rs * length ws)) (bans_of file ws) 0 rs (λ r i runner is at.
      each_of_places (IsWellFormedRule (length rs * length ws)) (λ w. never (pair_lit (length ws) r w.0)) (λ w. not (may_meet file runner w.1)) 0 ws (λ w j winner s f t.
      let in_m = slice_get_within rs i runner at in
      let in_n = slice_get_within ws j winner f in
      never_formed (length rs * length ws) (pair_lit (length ws) r w) (atom_within (length rs) (length ws) r w (omega arith) (omega arith))))

  rules : Formed (rules_between file rs ws)
  rules = each_append (IsWellFormedRule (length rs * length ws)) (map (row_rule (length ws)) (range_with_len 0 (length rs))) (map (column_rule (length rs) (length ws)) (range_with_len 0 (length ws)) ++ flat_map (bans_of file ws) (enumerate_from 0 rs)) rows
      (each_append (IsWellFormedRule (length rs * length ws)) (map (column_rule (length rs) (length ws)) (range_with_len 0 (length ws))) (flat_map (bans_of file ws) (enumerate_from 0 rs)) columns bans)

  number : length rs ≤ most_teams → length ws ≤ most_teams → length (rules_between file rs ws) ≤ most_teams + most_teams + most_teams * most_teams
  number few_r few_w =
      let a = length-append (map (row_rule (length ws)) (range_with_len 0 (length rs))) (map (column_rule (length rs) (length ws)) (range_with_len 0 (length ws)) ++ flat_map (bans_of file ws) (enumerate_from 0 rs)) in
      let b = length-append (map (column_rule (length rs) (length ws)) (range_with_len 0 (length ws))) (flat_map (bans_of file ws) (enumerate_from 0 rs)) in
      let c = length-map-range_with_len (row_rule (length ws)) 0 (length rs) in
      let d = length-map-range_with_len (column_rule (length rs) (length ws)) 0 (length ws) in
      let e = few_joined (bans_of file ws) (length ws) (λ r. few_of_places (λ w. never (pair_lit (length ws) r.0 w.0)) (λ w. not (may_meet file r.1 w.1)) ws) 0 rs in
      let f = small_product (length rs) (length ws) few_r few_w in
      omega arith

-- a pot has no more teams than a file may have
pub few_teams : (file : DrawFile) (pot : ℕ) → HasForm file → length (teams_of_pot pot file) ≤ most_teams
few_teams file pot form = omega (arith, pot_at_most pot file, form.common.few_teams)

-- the rules of a file make a problem
pub rules_formed : (file : DrawFile) → HasForm file → IsWellFormed (rules_of file)
rules_formed file form = record {
  rules = rules file (runners_up file) (winners file);
  few = omega (arith, number file (runners_up file) (winners file) (few_teams file 2 form) (few_teams file 1 form));
}
