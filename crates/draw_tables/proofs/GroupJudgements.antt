-- What the passes of a judgement say of a group table.
use Rattle.std.proofs.Common.{◌≡◌, ℕ, ◌+◌, ◌^◌, ◌<◌, ◌≤◌, ◌⊎◌, inl, inr, false, List, length, slice_get, arith, refl, sym, ap, ◌∙◌, subst}
use Rattle.std.proofs.lemmas.Bool.{cases_order, false≢true}
use Rattle.rule_sets.specs.Files.{DrawFile}
use Rattle.rule_sets.specs.Forms.{HasForm, HasCommonForm}
use Rattle.draw_tables.specs.declared.group_place.GroupPlace.{GroupPlace}
use Rattle.draw_tables.specs.declared.group_rule.GroupRule.{GroupRule}
use Rattle.draw_tables.specs.declared.group_rule.GroupRule.TheVariants.{Pots, Limits, Positions}
use Rattle.draw_tables.specs.declared.table.Table.{Table}
use Rattle.draw_tables.specs.declared.table.Table.TheVariants.{Group}
use Rattle.draw_tables.specs.declared.verdict.Verdict.{Verdict}
use Rattle.draw_tables.specs.declared.verdict.Verdict.TheVariants.{Legal, Broken}
use Rattle.draw_tables.specs.GroupTables.{group_of}
use Rattle.draw_tables.specs.GroupVerdicts.{IsNotKept, HasNotOneOfPot, BreaksLimit, StandTogether, IsWronglyTaken, IsBrokenGroups}
use Rattle.draw_tables.specs.GroupPasses.{breaks_in, KeepsPlaces, IsFirstNotKept, GroupsKeep, IsFirstBreach, KeepsApart, IsFirstTogether}
use Rattle.draw_tables.specs.Passes.{IsJudgement}
use Rattle.draw_tables.specs.Tables.{IsGroupTableOf}
use Rattle.draw_tables.specs.Verdicts.{IsFirstBroken}
use Rattle.draw_tables.proofs.Lists.{same_item}
use Rattle.draw_tables.proofs.GroupCases.{not_kept_by, is_not_kept, IsCase, pot_case, case_of_pot, limit_case, case_of_limit, position_case, case_of_position, pair_case, case_of_pair}
use Rattle.draw_tables.proofs.GroupLegal.{legal_groups}
use Rattle.draw_tables.proofs.Judgements.{judgement_of}

-- the table with these places
abbrev pub groups_of_places : List GroupPlace → Table
groups_of_places places = Group (record { places = places })

-- ---- the cases of one rule

module _ (file : DrawFile) (table : List GroupPlace) where
  -- a case with the number of a rule is one of that rule
  only_1 : (f s : ℕ) → IsBrokenGroups file table 1 f s → IsNotKept file table f s
  only_1 f s (inl (e, h)) = h
  only_1 f s (inr (inl (e, h))) = absurd (omega arith)
  only_1 f s (inr (inr (inl (e, h)))) = absurd (omega arith)
  only_1 f s (inr (inr (inr (inl (e, h))))) = absurd (omega arith)
  only_1 f s (inr (inr (inr (inr (e, h))))) = absurd (omega arith)

  only_2 : (f s : ℕ) → IsBrokenGroups file table 2 f s → HasNotOneOfPot file table f s
  only_2 f s (inl (e, h)) = absurd (omega arith)
  only_2 f s (inr (inl (e, h))) = h
  only_2 f s (inr (inr (inl (e, h)))) = absurd (omega arith)
  only_2 f s (inr (inr (inr (inl (e, h))))) = absurd (omega arith)
  only_2 f s (inr (inr (inr (inr (e, h))))) = absurd (omega arith)

  only_3 : (f s : ℕ) → IsBrokenGroups file table 3 f s → BreaksLimit file table f s
  only_3 f s (inl (e, h)) = absurd (omega arith)
  only_3 f s (inr (inl (e, h))) = absurd (omega arith)
  only_3 f s (inr (inr (inl (e, h)))) = h
  only_3 f s (inr (inr (inr (inl (e, h))))) = absurd (omega arith)
  only_3 f s (inr (inr (inr (inr (e, h))))) = absurd (omega arith)

  only_4 : (f s : ℕ) → IsBrokenGroups file table 4 f s → StandTogether file table f s
  only_4 f s (inl (e, h)) = absurd (omega arith)
  only_4 f s (inr (inl (e, h))) = absurd (omega arith)
  only_4 f s (inr (inr (inl (e, h)))) = absurd (omega arith)
  only_4 f s (inr (inr (inr (inl (e, h))))) = h
  only_4 f s (inr (inr (inr (inr (e, h))))) = absurd (omega arith)

  only_5 : (f s : ℕ) → IsBrokenGroups file table 5 f s → IsWronglyTaken file table f s
  only_5 f s (inl (e, h)) = absurd (omega arith)
  only_5 f s (inr (inl (e, h))) = absurd (omega arith)
  only_5 f s (inr (inr (inl (e, h)))) = absurd (omega arith)
  only_5 f s (inr (inr (inr (inl (e, h))))) = absurd (omega arith)
  only_5 f s (inr (inr (inr (inr (e, h))))) = h

  -- the numbers of the rules are 1 to 5
  rule_within : (rule f s : ℕ) → IsBrokenGroups file table rule f s → (1 ≤ rule) × (rule < 6)
  rule_within rule f s (inl (e, h)) = (omega arith, omega arith)
  rule_within rule f s (inr (inl (e, h))) = (omega arith, omega arith)
  rule_within rule f s (inr (inr (inl (e, h)))) = (omega arith, omega arith)
  rule_within rule f s (inr (inr (inr (inl (e, h))))) = (omega arith, omega arith)
  rule_within rule f s (inr (inr (inr (inr (e, h))))) = (omega arith, omega arith)

  -- ---- rules that are not broken

  -- no rule below this one is broken
  abbrev pub NoneBelow : ℕ → Type 0
  NoneBelow rule = (r f s : ℕ) → r < rule → ¬ IsBrokenGroups file table r f s

  none_first : NoneBelow 1
  none_first r f s lt h = let within = rule_within r f s h in let low = within.0 in absurd (omega arith)

  none_next : (rule : ℕ) → NoneBelow rule → ((f s : ℕ) → ¬ IsBrokenGroups file table rule f s) → NoneBelow (rule + 1)
  none_next rule below none r f s lt h = go (cases_order r rule)
    where
      go : (r ≡ rule) ⊎ ((r < rule) ⊎ (rule < r)) → ⊥
      go (inl e) = none f s (subst (λ n. IsBrokenGroups file table n f s) e h)
      go (inr (inl below_it)) = below r f s below_it h
      go (inr (inr above)) = absurd (omega arith)

  -- what a pass found nothing says
  pub below_2 : KeepsPlaces file table → NoneBelow 2
  below_2 keeps = none_next 1 none_first (λ f s h.
      let case = only_1 f s h in
      let n = case.not_kept in
      false≢true (sym (is_not_kept table case.place n) ∙ keeps f case.place case.is_place))

  none_of : (rule : GroupRule) → GroupsKeep file table rule → (g n : ℕ) → ¬ IsCase file table rule g n
  none_of rule keep g n case = false≢true (sym (keep g case.is_group n case.is_number) ∙ case.breaks)

  pub below_3 : NoneBelow 2 → GroupsKeep file table Pots → NoneBelow 3
  below_3 below keep = none_next 2 below (λ f s h. none_of Pots keep f s (case_of_pot file table f s (only_2 f s h)))

  pub below_4 : NoneBelow 3 → GroupsKeep file table Limits → NoneBelow 4
  below_4 below keep = none_next 3 below (λ f s h. none_of Limits keep f s (case_of_limit file table f s (only_3 f s h)))

  pub below_5 : NoneBelow 4 → KeepsApart file table → NoneBelow 5
  below_5 below apart = none_next 4 below (λ f s h.
      let case = only_4 f s h in
      false≢true (sym (apart f case.pair case.is_pair) ∙ case_of_pair file table f s case))

  pub below_6 : NoneBelow 5 → GroupsKeep file table Positions → NoneBelow 6
  below_6 below keep = none_next 5 below (λ f s h. none_of Positions keep f s (case_of_position file table f s (only_5 f s h)))

  pub none_at_all : NoneBelow 6 → (r f s : ℕ) → ¬ IsBrokenGroups file table r f s
  none_at_all below r f s h = below r f s (rule_within r f s h).1 h

  -- ---- the first case

  -- one case of a rule is told before another, or is the same
  abbrev ComesFirst : ℕ → ℕ → ℕ → ℕ → Type 0
  ComesFirst first second f s = (first < f) ⊎ ((first ≡ f) × (second ≤ s))

  -- the first case of a rule below which none is broken is the first of all
  first_case : (rule first second : ℕ) → NoneBelow rule → IsBrokenGroups file table rule first second
      → ((f s : ℕ) → IsBrokenGroups file table rule f s → ComesFirst first second f s)
      → IsFirstBroken file (groups_of_places table) rule first second
  first_case rule first second below broken least = record { broken = broken; least = λ r f s h. go r f s h (cases_order rule r) }
    where
      go : (r f s : ℕ) → IsBrokenGroups file table r f s → (rule ≡ r) ⊎ ((rule < r) ⊎ (r < rule)) → (rule < r) ⊎ ((rule ≡ r) × ComesFirst first second f s)
      go r f s h (inl e) = inr (e, least f s (subst (λ n. IsBrokenGroups file table n f s) (sym e) h))
      go r f s h (inr (inl lt)) = inl lt
      go r f s h (inr (inr gt)) = absurd (below r f s gt h)

  -- what a pass over the groups finds comes before each case
  breach_first : (rule : GroupRule) (g n : ℕ) → IsFirstBreach file table rule g n → (f s : ℕ) → IsCase file table rule f s → ComesFirst g n f s
  breach_first rule g n found f s case = by_group (cases_order g f)
    where
      by_number : g ≡ f → (n ≡ s) ⊎ ((n < s) ⊎ (s < n)) → ComesFirst g n f s
      by_number e (inl same) = inr (e, omega arith)
      by_number e (inr (inl lt)) = inr (e, omega arith)
      by_number e (inr (inr gt)) =
          let earlier = found.here.first s gt case.is_number in
          absurd (false≢true (sym (subst (λ k. breaks_in file table rule k s ≡ false) e earlier) ∙ case.breaks))

      by_group : (g ≡ f) ⊎ ((g < f) ⊎ (f < g)) → ComesFirst g n f s
      by_group (inl e) = by_number e (cases_order n s)
      by_group (inr (inl lt)) = inl lt
      by_group (inr (inr gt)) = absurd (false≢true (sym (found.first f gt s case.is_number) ∙ case.breaks))

  case_found : (rule : GroupRule) (g n : ℕ) → IsFirstBreach file table rule g n → IsCase file table rule g n
  case_found rule g n found = record { is_group = found.is_group; is_number = found.here.is_number; breaks = found.here.breaks }

  first_1 : (k : ℕ) → IsFirstNotKept file table k → IsFirstBroken file (groups_of_places table) 1 k 0
  first_1 k found =
      first_case 1 k 0 none_first (inl (refl, record { place = found.place; is_place = found.is_place; not_kept = not_kept_by table found.place found.not_kept; zero = refl }))
      (λ f s h. (let case = only_1 f s h in let z = case.zero in by_place f s case (cases_order k f)))
    where
      by_place : (f s : ℕ) → IsNotKept file table f s → (k ≡ f) ⊎ ((k < f) ⊎ (f < k)) → ComesFirst k 0 f s
      by_place f s case (inl e) = inr (e, omega arith)
      by_place f s case (inr (inl lt)) = inl lt
      by_place f s case (inr (inr gt)) = let n = case.not_kept in absurd (false≢true (sym (is_not_kept table case.place n) ∙ found.first f case.place gt case.is_place))

  first_2 : (g n : ℕ) → NoneBelow 2 → IsFirstBreach file table Pots g n → IsFirstBroken file (groups_of_places table) 2 g n
  first_2 g n below found =
      first_case 2 g n below (inr (inl (refl, pot_case file table g n (case_found Pots g n found))))
      (λ f s h. breach_first Pots g n found f s (case_of_pot file table f s (only_2 f s h)))

  first_3 : (g n : ℕ) → NoneBelow 3 → IsFirstBreach file table Limits g n → IsFirstBroken file (groups_of_places table) 3 g n
  first_3 g n below found =
      first_case 3 g n below (inr (inr (inl (refl, limit_case file table g n (case_found Limits g n found)))))
      (λ f s h. breach_first Limits g n found f s (case_of_limit file table f s (only_3 f s h)))

  first_4 : (k g : ℕ) → NoneBelow 4 → IsFirstTogether file table k g → IsFirstBroken file (groups_of_places table) 4 k g
  first_4 k g below found =
      first_case 4 k g below (inr (inr (inr (inl (refl, pair_case file table k g found.pair found.is_pair found.one found.together)))))
      (λ f s h. by_pair f s (only_4 f s h) (cases_order k f))
    where
      by_pair : (f s : ℕ) → StandTogether file table f s → (k ≡ f) ⊎ ((k < f) ⊎ (f < k)) → ComesFirst k g f s
      by_pair f s case (inl e) =
          let pair : found.pair ≡ case.pair = same_item found.pair case.pair (sym found.is_pair ∙ ap (slice_get file.pairs) e ∙ case.is_pair) in
          let group : g ≡ s = same_item g s (sym found.one ∙ ap (λ p. group_of table p.first) pair ∙ case.one) in
          inr (e, omega arith)
      by_pair f s case (inr (inl lt)) = inl lt
      by_pair f s case (inr (inr gt)) = absurd (false≢true (sym (found.first f case.pair gt case.is_pair) ∙ case_of_pair file table f s case))

  first_5 : (g n : ℕ) → NoneBelow 5 → IsFirstBreach file table Positions g n → IsFirstBroken file (groups_of_places table) 5 g n
  first_5 g n below found =
      first_case 5 g n below (inr (inr (inr (inr (refl, position_case file table g n (case_found Positions g n found))))))
      (λ f s h. breach_first Positions g n found f s (case_of_position file table f s (only_5 f s h)))

  -- ---- the verdict after each pass, and after all

  module _ (verdict : Verdict) where
    pub judged_groups_1 : (k : ℕ) → IsFirstNotKept file table k → verdict ≡ Broken 1 k 0 → IsJudgement file (groups_of_places table) verdict
    judged_groups_1 k found v = judgement_of file (groups_of_places table) 1 k 0 verdict v (first_1 k found)

    pub judged_groups_2 : (at : ℕ × ℕ) → NoneBelow 2 → IsFirstBreach file table Pots at.0 at.1 → verdict ≡ Broken 2 at.0 at.1 → IsJudgement file (groups_of_places table) verdict
    judged_groups_2 at below found v = judgement_of file (groups_of_places table) 2 at.0 at.1 verdict v (first_2 at.0 at.1 below found)

    pub judged_groups_3 : (at : ℕ × ℕ) → NoneBelow 3 → IsFirstBreach file table Limits at.0 at.1 → verdict ≡ Broken 3 at.0 at.1 → IsJudgement file (groups_of_places table) verdict
    judged_groups_3 at below found v = judgement_of file (groups_of_places table) 3 at.0 at.1 verdict v (first_3 at.0 at.1 below found)

    pub judged_groups_4 : (at : ℕ × ℕ) → NoneBelow 4 → IsFirstTogether file table at.0 at.1 → verdict ≡ Broken 4 at.0 at.1 → IsJudgement file (groups_of_places table) verdict
    judged_groups_4 at below found v = judgement_of file (groups_of_places table) 4 at.0 at.1 verdict v (first_4 at.0 at.1 below found)

    pub judged_groups_5 : (at : ℕ × ℕ) → NoneBelow 5 → IsFirstBreach file table Positions at.0 at.1 → verdict ≡ Broken 5 at.0 at.1 → IsJudgement file (groups_of_places table) verdict
    judged_groups_5 at below found v = judgement_of file (groups_of_places table) 5 at.0 at.1 verdict v (first_5 at.0 at.1 below found)

  pub judged_groups_legal : HasForm file → IsGroupTableOf file table → NoneBelow 6 → IsJudgement file (groups_of_places table) Legal
  judged_groups_legal form of_file below = record {
    legal = (λ _. (of_file.kind, legal_groups file table form of_file (none_at_all below)), λ _. refl);
    broken = λ r f s e. cc;
  }

-- so few teams and limits that they are counted in 32 bits
pub few_places : (file : DrawFile) (table : List GroupPlace) → HasCommonForm file → IsGroupTableOf file table → length table < 2 ^ 32
few_places file table form of_file = let size = of_file.size in let few = form.few_teams in omega arith
