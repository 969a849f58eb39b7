-- What the passes of a judgement say of the table.
use Rattle.std.proofs.Common.{◌≡◌, ◌≢◌, ℕ, zero, suc, ◌^◌, ◌<◌, ◌≤◌, ◌⊎◌, inl, inr, List, length, Some, None, slice_get, arith, refl, sym, ap, ◌∙◌}
use Rattle.std.proofs.lemmas.Bool.{false_from_ne_true, false≢true, cases_eq}
use Rattle.team_files.specs.declared.team_id.TeamId.{TeamId}
use Rattle.rule_sets.specs.Files.{DrawFile}
use Rattle.rule_sets.specs.Forms.{HasForm, HasCommonForm}
use Rattle.draw_tables.specs.declared.table.Table.{Table}
use Rattle.draw_tables.specs.declared.table.Table.TheVariants.{Group, Pairs}
use Rattle.draw_tables.specs.declared.verdict.Verdict.{Verdict}
use Rattle.draw_tables.specs.declared.verdict.Verdict.TheVariants.{Legal, Broken}
use Rattle.draw_tables.specs.declared.pair_rule.PairRule.{PairRule}
use Rattle.draw_tables.specs.declared.pair_rule.PairRule.TheVariants.{Letters, Tags, Forbidden}
use Rattle.draw_tables.specs.Pots.{winners, runners_up}
use Rattle.draw_tables.specs.Pairings.{GivesOpponent, breaks}
use Rattle.draw_tables.specs.Passes.{IsJudgement, first_not_once, first_pair}
use Rattle.draw_tables.specs.Tables.{IsPairTableOf}
use Rattle.draw_tables.specs.Verdicts.{times_given, team_at, IsNotGivenOnce, HaveOneLetter, HaveOneTag, IsBrokenPairing, IsNotAfter, IsFirstBroken, LegalWhereNoneBroken, NoneBrokenWhereLegal, OneFirstBroken}
use Rattle.draw_tables.proofs.Lists.{same_item}
use Rattle.draw_tables.proofs.PotOrder.{pot_in_order, pot_at_most, once}
use Rattle.draw_tables.proofs.GroupLegal.{legal_keeps_groups, legal_groups}
use Rattle.draw_tables.proofs.RuleCases.{IsFirstNotOnce, IsFirstPair, all_once, found_not_once, no_pair, found_pair, letters_broken, tags_broken, letters_break, tags_break, KeepsRule, legal_by, legal_keeps}

-- ---- laws

-- a legal table breaks no rule
pub none_broken_where_legal : NoneBrokenWhereLegal
none_broken_where_legal file (Group groups) legal = legal_keeps_groups file groups.places legal.1
none_broken_where_legal file (Pairs pairs) legal = legal_keeps file pairs.winners legal.1

-- a number that is not other than 1
one_unless : (n : ℕ) → (n ≢ 1 → ⊥) → n ≡ 1
one_unless zero h = absurd (h (λ e. omega arith))
one_unless (suc zero) h = refl
one_unless (suc (suc n)) h = absurd (h (λ e. omega arith))

-- a table that breaks no rule is legal
pub legal_where_none_broken : LegalWhereNoneBroken
legal_where_none_broken file (Group groups) formed of_file none = (of_file.kind, legal_groups file groups.places formed of_file none)
legal_where_none_broken file (Pairs pairs) formed of_file none = (
  of_file.kind,
  legal_by file pairs.winners (formed.pairing of_file.kind) of_file.size
      (λ w among. one_unless (times_given w pairs.winners) (λ n. none 1 w.0 (times_given w pairs.winners) (inl (refl, record { winner = among; times = refl; not_once = n }))))
      (λ r w gives. false_from_ne_true (breaks file Letters r w) (λ e. none 2 r.0 w.0 (inr (inl (refl, letters_broken file pairs.winners r w gives e)))))
      (λ r w gives. false_from_ne_true (breaks file Tags r w) (λ e. none 3 r.0 w.0 (inr (inr (inl (refl, tags_broken file pairs.winners r w gives e))))))
      (λ r w gives. false_from_ne_true (breaks file Forbidden r w) (λ e. none 4 r.0 w.0 (inr (inr (inr (refl, record { pair = gives; forbidden = e })))))),
)

-- the second number follows from the rule and the first
module _ (file : DrawFile) (table : List TeamId) (rule first : ℕ) where
  by_count : (second : ℕ) → IsBrokenPairing file table rule first second → rule ≡ 1 → second ≡ times_given (team_at first) table
  by_count second (inl (e, h)) one = h.times
  by_count second (inr (inl (e, h))) one = absurd (omega arith)
  by_count second (inr (inr (inl (e, h)))) one = absurd (omega arith)
  by_count second (inr (inr (inr (e, h)))) one = absurd (omega arith)

  by_pair : (second : ℕ) → IsBrokenPairing file table rule first second → rule ≢ 1 → GivesOpponent file table (team_at first) (team_at second)
  by_pair second (inl (e, h)) more = absurd (more e)
  by_pair second (inr (inl (e, h))) more = h.pair
  by_pair second (inr (inr (inl (e, h)))) more = h.pair
  by_pair second (inr (inr (inr (e, h)))) more = h.pair

  one_opponent : (a b : ℕ) → GivesOpponent file table (team_at first) (team_at a) → GivesOpponent file table (team_at first) (team_at b) → a ≡ b
  one_opponent a b g h =
      let place = once (runners_up file) (pot_in_order 2 file) g.0 h.0 (team_at first) g.1 h.1 in
      let here : slice_get table h.0 ≡ Some (team_at a) = rw (← place) g.2 in
      ap (λ x. x.0) (same_item (team_at a) (team_at b) (sym here ∙ h.2))

  one_second : (a b : ℕ) → IsBrokenPairing file table rule first a → IsBrokenPairing file table rule first b → a ≡ b
  one_second a b g h = go (cases_eq rule 1)
    where
      go : (rule ≡ 1) ⊎ (rule ≢ 1) → a ≡ b
      go (inl one) = by_count a g one ∙ sym (by_count b h one)
      go (inr more) = one_opponent a b (by_pair a g more) (by_pair b h more)

-- two cases neither of which is after the other have the same three numbers
same_case : (rule first second r f s : ℕ) → IsNotAfter rule first second r f s → IsNotAfter r f s rule first second → (rule ≡ r) × (first ≡ f) × (second ≡ s)
same_case rule first second r f s (inl a) (inl b) = absurd (omega arith)
same_case rule first second r f s (inl a) (inr (e, b)) = absurd (omega arith)
same_case rule first second r f s (inr (d, a)) (inl b) = absurd (omega arith)
same_case rule first second r f s (inr (d, inl a)) (inr (e, inl b)) = absurd (omega arith)
same_case rule first second r f s (inr (d, inl a)) (inr (e, inr (g, b))) = absurd (omega arith)
same_case rule first second r f s (inr (d, inr (h, a))) (inr (e, inl b)) = absurd (omega arith)
same_case rule first second r f s (inr (d, inr (h, a))) (inr (e, inr (g, b))) = (d, h, omega arith)

-- a table has at most one first case
pub one_first_broken : OneFirstBroken
one_first_broken file table rule first second r f s a b = same_case rule first second r f s (a.least r f s b.broken) (b.least rule first second a.broken)

-- ---- the first case of a pairing

-- the table that gives these winners
abbrev pub pairs_of : List TeamId → Table
pairs_of ws = Pairs (record { winners = ws })

-- what is at most b is less than b or b
less_or_same : (a b : ℕ) → a ≤ b → (a < b) ⊎ (a ≡ b)
less_or_same zero zero le = inr refl
less_or_same zero (suc b) le = inl (omega arith)
less_or_same (suc a) zero le = absurd (omega arith)
less_or_same (suc a) (suc b) le = up (less_or_same a b (omega arith))
  where
    up : (a < b) ⊎ (a ≡ b) → (suc a < suc b) ⊎ (suc a ≡ suc b)
    up (inl lt) = inl (omega arith)
    up (inr e) = inr (omega arith)

-- A case that is the least by the rule and the first number is the first case, since the second number follows from these.
first_case : (file : DrawFile) (table : List TeamId) (rule first second : ℕ) → IsBrokenPairing file table rule first second
    → ((r f s : ℕ) → IsBrokenPairing file table r f s → (rule < r) ⊎ ((rule ≡ r) × (first ≤ f))) → IsFirstBroken file (pairs_of table) rule first second
first_case file table rule first second broken least = record { broken = broken; least = λ r f s h. by_rule r f s h (least r f s h) }
  where
    by_first : (r f s : ℕ) → IsBrokenPairing file table r f s → rule ≡ r → (first < f) ⊎ (first ≡ f) → (first < f) ⊎ ((first ≡ f) × (second ≤ s))
    by_first r f s h e (inl lt) = inl lt
    by_first r f s h e (inr is) =
        let here : IsBrokenPairing file table rule first s = rw (e, is) h in
        let same = one_second file table rule first second s broken here in
        inr (is, omega arith)

    by_rule : (r f s : ℕ) → IsBrokenPairing file table r f s → (rule < r) ⊎ ((rule ≡ r) × (first ≤ f)) → IsNotAfter rule first second r f s
    by_rule r f s h (inl lt) = inl lt
    by_rule r f s h (inr same) = inr (same.0, by_first r f s h same.0 (less_or_same first f same.1))

-- ---- what the passes find

-- each winner is given exactly once
abbrev pub NoneNotOnce : DrawFile → List TeamId → Type 0
NoneNotOnce file table = first_not_once table (winners file) ≡ None

-- no pair breaks the rule
abbrev pub NonePairs : DrawFile → List TeamId → PairRule → Type 0
NonePairs file table rule = first_pair (breaks file rule) (runners_up file) table ≡ None

module _ (file : DrawFile) (table : List TeamId) where
  keeps : (rule : PairRule) → NonePairs file table rule → KeepsRule file table rule
  keeps rule none r w gives = no_pair (breaks file rule) (runners_up file) table none gives.0 r w gives.1 gives.2

  not_rule_1 : NoneNotOnce file table → (f s : ℕ) → IsNotGivenOnce file table f s → ⊥
  not_rule_1 none f s h = h.not_once (h.times ∙ all_once table (winners file) none (team_at f) h.winner)

  not_rule_2 : NonePairs file table Letters → (f s : ℕ) → HaveOneLetter file table f s → ⊥
  not_rule_2 none f s h = false≢true (sym (keeps Letters none (team_at f) (team_at s) h.pair) ∙ letters_break file table f s h)

  not_rule_3 : NonePairs file table Tags → (f s : ℕ) → HaveOneTag file table f s → ⊥
  not_rule_3 none f s h = false≢true (sym (keeps Tags none (team_at f) (team_at s) h.pair) ∙ tags_break file table f s h)

-- this pair is the first that breaks the rule
abbrev FoundPair : DrawFile → List TeamId → PairRule → TeamId → TeamId → Type 0
FoundPair file table rule r w = first_pair (breaks file rule) (runners_up file) table ≡ Some (r, w)

module _ (file : DrawFile) (table : List TeamId) where
  -- what a pass finds first is the first case, where the passes before it found nothing
  first_of_rule_1 : (w : TeamId) (n : ℕ) → first_not_once table (winners file) ≡ Some (w, n) → IsFirstBroken file (pairs_of table) 1 w.0 n
  first_of_rule_1 w n e =
      let found = found_not_once table (winners file) w n (pot_in_order 1 file) e in
      first_case file table 1 w.0 n (inl (refl, record { winner = found.among; times = found.times; not_once = found.not_once })) (least found)
    where
      least : IsFirstNotOnce table (winners file) w n → (r f s : ℕ) → IsBrokenPairing file table r f s → (1 < r) ⊎ ((1 ≡ r) × (w.0 ≤ f))
      least found r f s (inl (is, h)) = inr (sym is, found.least (team_at f) h.winner (λ one. h.not_once (h.times ∙ one)))
      least found r f s (inr (inl (is, h))) = inl (omega arith)
      least found r f s (inr (inr (inl (is, h)))) = inl (omega arith)
      least found r f s (inr (inr (inr (is, h)))) = inl (omega arith)

  first_of_rule_2 : (q w : TeamId) → NoneNotOnce file table → FoundPair file table Letters q w → IsFirstBroken file (pairs_of table) 2 q.0 w.0
  first_of_rule_2 q w none e =
      let found = found_pair (breaks file Letters) (runners_up file) table q w (pot_in_order 2 file) e in
      first_case file table 2 q.0 w.0 (inr (inl (refl, letters_broken file table q w (found.at, found.runner, found.winner) found.holds))) (least found)
    where
      least : IsFirstPair (breaks file Letters) (runners_up file) table q w → (r f s : ℕ) → IsBrokenPairing file table r f s → (2 < r) ⊎ ((2 ≡ r) × (q.0 ≤ f))
      least found r f s (inl (is, h)) = absurd (not_rule_1 file table none f s h)
      least found r f s (inr (inl (is, h))) = inr (sym is, found.least h.pair.0 (team_at f) (team_at s) h.pair.1 h.pair.2 (letters_break file table f s h))
      least found r f s (inr (inr (inl (is, h)))) = inl (omega arith)
      least found r f s (inr (inr (inr (is, h)))) = inl (omega arith)

  first_of_rule_3 : (q w : TeamId) → NoneNotOnce file table → NonePairs file table Letters → FoundPair file table Tags q w → IsFirstBroken file (pairs_of table) 3 q.0 w.0
  first_of_rule_3 q w none letters e =
      let found = found_pair (breaks file Tags) (runners_up file) table q w (pot_in_order 2 file) e in
      first_case file table 3 q.0 w.0 (inr (inr (inl (refl, tags_broken file table q w (found.at, found.runner, found.winner) found.holds)))) (least found)
    where
      least : IsFirstPair (breaks file Tags) (runners_up file) table q w → (r f s : ℕ) → IsBrokenPairing file table r f s → (3 < r) ⊎ ((3 ≡ r) × (q.0 ≤ f))
      least found r f s (inl (is, h)) = absurd (not_rule_1 file table none f s h)
      least found r f s (inr (inl (is, h))) = absurd (not_rule_2 file table letters f s h)
      least found r f s (inr (inr (inl (is, h)))) = inr (sym is, found.least h.pair.0 (team_at f) (team_at s) h.pair.1 h.pair.2 (tags_break file table f s h))
      least found r f s (inr (inr (inr (is, h)))) = inl (omega arith)

  first_of_rule_4 : (q w : TeamId) → NoneNotOnce file table → NonePairs file table Letters → NonePairs file table Tags → FoundPair file table Forbidden q w
      → IsFirstBroken file (pairs_of table) 4 q.0 w.0
  first_of_rule_4 q w none letters tags e =
      let found = found_pair (breaks file Forbidden) (runners_up file) table q w (pot_in_order 2 file) e in
      first_case file table 4 q.0 w.0 (inr (inr (inr (refl, record { pair = (found.at, found.runner, found.winner); forbidden = found.holds })))) (least found)
    where
      least : IsFirstPair (breaks file Forbidden) (runners_up file) table q w → (r f s : ℕ) → IsBrokenPairing file table r f s → (4 < r) ⊎ ((4 ≡ r) × (q.0 ≤ f))
      least found r f s (inl (is, h)) = absurd (not_rule_1 file table none f s h)
      least found r f s (inr (inl (is, h))) = absurd (not_rule_2 file table letters f s h)
      least found r f s (inr (inr (inl (is, h)))) = absurd (not_rule_3 file table tags f s h)
      least found r f s (inr (inr (inr (is, h)))) = inr (sym is, found.least h.pair.0 (team_at f) (team_at s) h.pair.1 h.pair.2 h.forbidden)

-- ---- the verdict

-- a table gives so few teams that they are counted in 32 bits
pub few : (file : DrawFile) (table : List TeamId) → HasCommonForm file → IsPairTableOf file table → length table < 2 ^ 32
few file table formed of_file =
    let size = of_file.size in
    let most = pot_at_most 2 file in
    let limit = formed.few_teams in
    omega arith

-- the verdict on a table whose first case was found
pub judgement_of : (file : DrawFile) (table : Table) (rule first second : ℕ) (verdict : Verdict) → verdict ≡ Broken rule first second → IsFirstBroken file table rule first second → IsJudgement file table verdict
judgement_of file table rule first second verdict is h = record {
  legal = (
    λ e. let clash = sym is ∙ e in cc,
    λ legal. absurd (none_broken_where_legal file table legal rule first second h.broken),
  );
  broken = λ r f s e.
      let same = sym is ∙ e in
      let one : rule ≡ r = cc in
      let two : first ≡ f = cc in
      let three : second ≡ s = cc in
      rw (← one, ← two, ← three) h;
}

-- the verdict after each pass, and after all
module _ (file : DrawFile) (table : List TeamId) where
  -- rule 1 is broken
  pub judged_1 : (found : TeamId × ℕ) (verdict : Verdict)
      → first_not_once table (winners file) ≡ Some found → verdict ≡ Broken 1 found.0.0 found.1 → IsJudgement file (pairs_of table) verdict
  judged_1 (w, n) verdict e v = judgement_of file (pairs_of table) 1 w.0 n verdict v (first_of_rule_1 file table w n e)

  module _ (pair : TeamId × TeamId) (verdict : Verdict) (none : NoneNotOnce file table) where
    -- rule 2 is broken, and rule 1 is not
    pub judged_2 : first_pair (breaks file Letters) (runners_up file) table ≡ Some pair → verdict ≡ Broken 2 pair.0.0 pair.1.0 → IsJudgement file (pairs_of table) verdict
    judged_2 e v = judgement_of file (pairs_of table) 2 pair.0.0 pair.1.0 verdict v (first_of_rule_2 file table pair.0 pair.1 none e)

    -- rule 3 is broken, and no earlier one is
    pub judged_3 : NonePairs file table Letters
        → first_pair (breaks file Tags) (runners_up file) table ≡ Some pair → verdict ≡ Broken 3 pair.0.0 pair.1.0 → IsJudgement file (pairs_of table) verdict
    judged_3 letters e v = judgement_of file (pairs_of table) 3 pair.0.0 pair.1.0 verdict v (first_of_rule_3 file table pair.0 pair.1 none letters e)

    -- rule 4 is broken, and no earlier one is
    pub judged_4 : NonePairs file table Letters → NonePairs file table Tags
        → first_pair (breaks file Forbidden) (runners_up file) table ≡ Some pair → verdict ≡ Broken 4 pair.0.0 pair.1.0 → IsJudgement file (pairs_of table) verdict
    judged_4 letters tags e v = judgement_of file (pairs_of table) 4 pair.0.0 pair.1.0 verdict v (first_of_rule_4 file table pair.0 pair.1 none letters tags e)

  -- no rule is broken
  pub judged_legal : HasForm file → IsPairTableOf file table → NoneNotOnce file table
      → NonePairs file table Letters → NonePairs file table Tags → NonePairs file table Forbidden → IsJudgement file (pairs_of table) Legal
  judged_legal formed of_file none letters tags forbidden = record {
    legal = (
      λ _. (of_file.kind, legal_by file table (formed.pairing of_file.kind) of_file.size (all_once table (winners file) none) (keeps file table Letters letters) (keeps file table Tags tags) (keeps file table Forbidden forbidden)),
      λ _. refl,
    );
    broken = λ r f s e. cc;
  }
