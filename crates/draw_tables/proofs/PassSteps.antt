-- What a pass over the file finds, place by place.
use Rattle.std.proofs.Common.{◌≡◌, ◌≢◌, ℕ, ◌+◌, Bool, true, false, List, [], ◌∷◌, length, drop, arith, Option, Some, None, slice_get, refl, sym, ap, ◌∙◌}
use Rattle.std.proofs.lemmas.Bool.{eq-eqb, ne_eqb}
use Rattle.team_files.specs.declared.team.Team.{Team}
use Rattle.team_files.specs.declared.team_id.TeamId.{TeamId}
use Rattle.draw_tables.specs.Pots.{pot_from}
use Rattle.draw_tables.specs.Passes.{first_not_once, first_pair}
use Rattle.draw_tables.specs.Verdicts.{times_given}
use Rattle.draw_tables.proofs.PotSteps.{pot_has, pot_lacks}

-- a team that is given once, and one that is not
once_next : (table : List TeamId) (w : TeamId) (ws : List TeamId) → times_given w table ≡ 1 → first_not_once table (w ∷ ws) ≡ first_not_once table ws
once_next table w ws e = rw (eq-eqb (times_given w table) 1 e) refl

once_found : (table : List TeamId) (w : TeamId) (ws : List TeamId) → times_given w table ≢ 1 → first_not_once table (w ∷ ws) ≡ Some (w, times_given w table)
once_found table w ws e = rw (ne_eqb (times_given w table) 1 e) refl

-- a pair that passes the test, and one that does not
pair_next : (test : TeamId → TeamId → Bool) (r w : TeamId) (rs ws : List TeamId) → test r w ≡ false → first_pair test (r ∷ rs) (w ∷ ws) ≡ first_pair test rs ws
pair_next test r w rs ws e = rw e refl

pair_found : (test : TeamId → TeamId → Bool) (r w : TeamId) (rs ws : List TeamId) → test r w ≡ true → first_pair test (r ∷ rs) (w ∷ ws) ≡ Some (r, w)
pair_found test r w rs ws e = rw e refl

nothing_left : (ws : List TeamId) → length ws ≡ 0 → ws ≡ []
nothing_left [] e = refl
nothing_left (w ∷ ws) e = absurd (omega arith)

module _ (i : ℕ) (ts : List Team) (t : Team) (is : slice_get ts i ≡ Some t) where
  -- a team of another pot changes nothing
  pub not_once_passed : (table : List TeamId) (whole : Option (TeamId × ℕ)) → (t.pot ≡ 1 → ⊥)
      → first_not_once table (pot_from 1 i (drop i ts)) ≡ whole → first_not_once table (pot_from 1 (i + 1) (drop (i + 1) ts)) ≡ whole
  not_once_passed table whole e so_far = rw (pot_lacks 1 i ts t is e) at so_far

  -- nor does one that is given once
  pub not_once_next : (table : List TeamId) (whole : Option (TeamId × ℕ)) (times : ℕ) → t.pot ≡ 1 → times ≡ times_given (record { 0 = i }) table → times ≡ 1
      → first_not_once table (pot_from 1 i (drop i ts)) ≡ whole → first_not_once table (pot_from 1 (i + 1) (drop (i + 1) ts)) ≡ whole
  not_once_next table whole times e n one so_far =
      let here = rw (pot_has 1 i ts t is e) at so_far in
      sym (once_next table (record { 0 = i }) (pot_from 1 (i + 1) (drop (i + 1) ts)) (sym n ∙ one)) ∙ here

  -- one that is not given once is found
  pub not_once_found : (table : List TeamId) (whole : Option (TeamId × ℕ)) (times : ℕ) → t.pot ≡ 1 → times ≡ times_given (record { 0 = i }) table → times ≢ 1
      → first_not_once table (pot_from 1 i (drop i ts)) ≡ whole → Some (record { 0 = i }, times) ≡ whole
  not_once_found table whole times e n more so_far =
      let here = rw (pot_has 1 i ts t is e) at so_far in
      ap (λ k. Some (record { 0 = i }, k)) n ∙ sym (once_found table (record { 0 = i }) (pot_from 1 (i + 1) (drop (i + 1) ts)) (λ s. more (n ∙ s))) ∙ here

  module _ (test : TeamId → TeamId → Bool) (rest : List TeamId) (whole : Option (TeamId × TeamId)) (so_far : first_pair test (pot_from 2 i (drop i ts)) rest ≡ whole) where
    -- a team of another pot changes nothing
    pub pair_passed : (t.pot ≡ 2 → ⊥) → first_pair test (pot_from 2 (i + 1) (drop (i + 1) ts)) rest ≡ whole
    pair_passed e = rw (pot_lacks 2 i ts t is e) at so_far

    -- where no winner is left nothing is found
    pub pairs_ended : t.pot ≡ 2 → length rest ≡ 0 → None ≡ whole
    pairs_ended e none = rw (pot_has 2 i ts t is e, nothing_left rest none) at so_far

    -- a pair that passes the test is found
    pub pair_broken : (w : TeamId) (ws : List TeamId) → t.pot ≡ 2 → rest ≡ w ∷ ws → test (record { 0 = i }) w ≡ true → Some (record { 0 = i }, w) ≡ whole
    pair_broken w ws e split holds =
        let here = rw (pot_has 2 i ts t is e, split) at so_far in
        sym (pair_found test (record { 0 = i }) w (pot_from 2 (i + 1) (drop (i + 1) ts)) ws holds) ∙ here

    -- and else the pairs behind it are left
    pub pair_kept : (w : TeamId) (ws : List TeamId) → t.pot ≡ 2 → rest ≡ w ∷ ws → test (record { 0 = i }) w ≡ false → first_pair test (pot_from 2 (i + 1) (drop (i + 1) ts)) ws ≡ whole
    pair_kept w ws e split fails =
        let here = rw (pot_has 2 i ts t is e, split) at so_far in
        sym (pair_next test (record { 0 = i }) w (pot_from 2 (i + 1) (drop (i + 1) ts)) ws fails) ∙ here
