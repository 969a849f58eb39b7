-- The cases of broken rules of a pairing table: what the passes find, and legal tables.
use Rattle.std.proofs.Common.{◌≡◌, ◌≢◌, ℕ, zero, suc, ◌≤◌, inl, inr, Bool, true, false, List, [], ◌∷◌, length, Option, Some, None, slice_get, arith, refl, sym, ap, ◌∙◌}
use Rattle.std.specs.Prelude.{◌==◌, if◌then◌else◌}
use Rattle.std.proofs.lemmas.Bool.{false≢true, eqb-true, eqb-false}
use Rattle.team_files.specs.declared.team.Team.{Team}
use Rattle.team_files.specs.declared.team_id.TeamId.{TeamId}
use Rattle.rule_sets.specs.Files.{DrawFile}
use Rattle.rule_sets.specs.Forms.{HasPairingForm}
use Rattle.draw_tables.specs.declared.pair_rule.PairRule.{PairRule}
use Rattle.draw_tables.specs.declared.pair_rule.PairRule.TheVariants.{Letters, Tags, Forbidden}
use Rattle.draw_tables.specs.Lists.{IsAmong}
use Rattle.draw_tables.specs.Pots.{winners, runners_up}
use Rattle.draw_tables.specs.Pairings.{GivesOpponent, IsLegalPairing, have_same_letter, have_common_tag, both, breaks}
use Rattle.draw_tables.specs.Passes.{first_not_once, first_pair}
use Rattle.draw_tables.specs.Verdicts.{times_given, team_at, HaveOneLetter, HaveOneTag, IsBrokenPairing}
use Rattle.draw_tables.proofs.Lists.{same_item, none_among}
use Rattle.draw_tables.proofs.TimesGiven.{given_at, once_at, counts_once}
use Rattle.draw_tables.proofs.PotOrder.{IsInOrder, pot_in_order, pot_length}
use Rattle.draw_tables.proofs.NobodyElse.{nobody_else}

-- ---- rule 1

-- the first of the teams that is not given exactly once, and how often it is given
pub record IsFirstNotOnce (table ws : List TeamId) (w : TeamId) (n : ℕ) : Type 0 where
  pub among : IsAmong ws w
  pub times : n ≡ times_given w table
  pub not_once : n ≢ 1
  pub least : (v : TeamId) → IsAmong ws v → times_given v table ≢ 1 → w.0 ≤ v.0

-- where none is found each team is given once
pub all_once : (table ws : List TeamId) → first_not_once table ws ≡ None → (v : TeamId) → IsAmong ws v → times_given v table ≡ 1
all_once table [] e v among = absurd (none_among v among)
all_once table (w ∷ ws) e v among = go (times_given w table == 1) refl e among.0 among.1 (all_once table ws)
  where
    go : (b : Bool) → (times_given w table == 1) ≡ b → (if b then first_not_once table ws else Some (w, times_given w table)) ≡ None
        → (k : ℕ) → slice_get (w ∷ ws) k ≡ Some v
        → (first_not_once table ws ≡ None → (v : TeamId) → IsAmong ws v → times_given v table ≡ 1)
        → times_given v table ≡ 1
    go true is f zero g later = let s = same_item w v g in rw (← s) (eqb-true (times_given w table) 1 is)
    go true is f (suc k) g later = later f v (k, g)
    go false is f k g later = cc

-- the one that is found is the first
pub found_not_once : (table ws : List TeamId) (w : TeamId) (n : ℕ) → IsInOrder ws → first_not_once table ws ≡ Some (w, n) → IsFirstNotOnce table ws w n
found_not_once table [] w n order e = cc
found_not_once table (u ∷ us) w n order e = go (times_given u table == 1) refl e (found_not_once table us w n order.1)
  where
    up : IsFirstNotOnce table us w n → times_given u table ≡ 1 → IsFirstNotOnce table (u ∷ us) w n
    up h one = record {
      among = (suc h.among.0, h.among.1);
      times = h.times;
      not_once = h.not_once;
      least = λ v among more. below h one v among.0 among.1 more;
    }
      where
        below : IsFirstNotOnce table us w n → times_given u table ≡ 1 → (v : TeamId) (k : ℕ) → slice_get (u ∷ us) k ≡ Some v → times_given v table ≢ 1 → w.0 ≤ v.0
        below h one v zero f more = let s = same_item u v f in absurd (more (ap (λ x. times_given x table) (sym s) ∙ one))
        below h one v (suc k) f more = h.least v (k, f) more

    at_least : (v : TeamId) (k : ℕ) → slice_get (u ∷ us) k ≡ Some v → u.0 ≤ v.0
    at_least v zero f = let s = ap (λ x. x.0) (same_item u v f) in omega arith
    at_least v (suc k) f = let lt = order.0 k v f in omega arith

    here : times_given u table ≢ 1 → IsFirstNotOnce table (u ∷ us) u (times_given u table)
    here more = record { among = (0, refl); times = refl; not_once = more; least = λ v among _. at_least v among.0 among.1 }

    go : (b : Bool) → (times_given u table == 1) ≡ b → (if b then first_not_once table us else Some (u, times_given u table)) ≡ Some (w, n)
        → (first_not_once table us ≡ Some (w, n) → IsFirstNotOnce table us w n)
        → IsFirstNotOnce table (u ∷ us) w n
    go true is f later = up (later f) (eqb-true (times_given u table) 1 is)
    go false is f later =
        let s = same_item (u, times_given u table) (w, n) f in
        let one : u ≡ w = ap (λ p. p.0) s in
        let two : times_given u table ≡ n = ap (λ p. p.1) s in
        rw (← one, ← two) (here (eqb-false (times_given u table) 1 is))

-- ---- rules 2 to 4

-- the first pair that passes the test
pub record IsFirstPair (test : TeamId → TeamId → Bool) (rs ws : List TeamId) (r w : TeamId) : Type 0 where
  pub at : ℕ
  pub runner : slice_get rs at ≡ Some r
  pub winner : slice_get ws at ≡ Some w
  pub holds : test r w ≡ true
  pub least : (j : ℕ) (s v : TeamId) → slice_get rs j ≡ Some s → slice_get ws j ≡ Some v → test s v ≡ true → r.0 ≤ s.0

-- where none is found no pair passes
pub no_pair : (test : TeamId → TeamId → Bool) (rs ws : List TeamId) → first_pair test rs ws ≡ None
    → (j : ℕ) (s v : TeamId) → slice_get rs j ≡ Some s → slice_get ws j ≡ Some v → test s v ≡ false
no_pair test [] ws e j s v f g = cc
no_pair test (r ∷ rs) [] e j s v f g = cc
no_pair test (r ∷ rs) (w ∷ ws) e j s v f g = go (test r w) refl e j f g (no_pair test rs ws)
  where
    go : (b : Bool) → test r w ≡ b → (if b then Some (r, w) else first_pair test rs ws) ≡ None
        → (j : ℕ) → slice_get (r ∷ rs) j ≡ Some s → slice_get (w ∷ ws) j ≡ Some v
        → (first_pair test rs ws ≡ None → (j : ℕ) (s v : TeamId) → slice_get rs j ≡ Some s → slice_get ws j ≡ Some v → test s v ≡ false)
        → test s v ≡ false
    go true is h j f g later = cc
    go false is h zero f g later = let a = same_item r s f in let b = same_item w v g in rw (← a, ← b) is
    go false is h (suc j) f g later = later h j s v f g

-- the one that is found is the first
pub found_pair : (test : TeamId → TeamId → Bool) (rs ws : List TeamId) (r w : TeamId) → IsInOrder rs → first_pair test rs ws ≡ Some (r, w) → IsFirstPair test rs ws r w
found_pair test [] ws r w order e = cc
found_pair test (q ∷ qs) [] r w order e = cc
found_pair test (q ∷ qs) (u ∷ us) r w order e = go (test q u) refl e (found_pair test qs us r w order.1)
  where
    below : IsFirstPair test qs us r w → test q u ≡ false → (j : ℕ) (s v : TeamId) → slice_get (q ∷ qs) j ≡ Some s → slice_get (u ∷ us) j ≡ Some v → test s v ≡ true → r.0 ≤ s.0
    below h fails zero s v f g holds =
        let a = same_item q s f in
        let b = same_item u v g in
        absurd (false≢true (sym fails ∙ ap (λ x. test x u) a ∙ ap (test s) b ∙ holds))
    below h fails (suc j) s v f g holds = h.least j s v f g holds

    up : IsFirstPair test qs us r w → test q u ≡ false → IsFirstPair test (q ∷ qs) (u ∷ us) r w
    up h fails = record { at = suc h.at; runner = h.runner; winner = h.winner; holds = h.holds; least = below h fails }

    at_least : (j : ℕ) (s : TeamId) → slice_get (q ∷ qs) j ≡ Some s → q.0 ≤ s.0
    at_least zero s f = let a = ap (λ x. x.0) (same_item q s f) in omega arith
    at_least (suc j) s f = let lt = order.0 j s f in omega arith

    here : test q u ≡ true → IsFirstPair test (q ∷ qs) (u ∷ us) q u
    here holds = record { at = 0; runner = refl; winner = refl; holds = holds; least = λ j s v f g _. at_least j s f }

    go : (b : Bool) → test q u ≡ b → (if b then Some (q, u) else first_pair test qs us) ≡ Some (r, w)
        → (first_pair test qs us ≡ Some (r, w) → IsFirstPair test qs us r w)
        → IsFirstPair test (q ∷ qs) (u ∷ us) r w
    go true is f later =
        let s = same_item (q, u) (r, w) f in
        let one : q ≡ r = ap (λ p. p.0) s in
        let two : u ≡ w = ap (λ p. p.1) s in
        rw (← one, ← two) (here is)
    go false is f later = up (later f) is

-- ---- the rule's test and the rule's words

both_hold : (test : Team → Team → Bool) (o p : Option Team) → both test o p ≡ true → (a : Team) × (b : Team) × (o ≡ Some a) × (p ≡ Some b) × (test a b ≡ true)
both_hold test None p e = cc
both_hold test (Some a) None e = cc
both_hold test (Some a) (Some b) e = (a, b, refl, refl, e)

-- the test of two teams of the file
pub both_are : (test : Team → Team → Bool) (o p : Option Team) (a b : Team) → o ≡ Some a → p ≡ Some b → both test o p ≡ test a b
both_are test o p a b e f = rw (e, f) refl

module _ (file : DrawFile) (table : List TeamId) where
  -- a pair of the table that the test of letters finds is a case of rule 2
  pub letters_broken : (r w : TeamId) → GivesOpponent file table r w → breaks file Letters r w ≡ true → HaveOneLetter file table r.0 w.0
  letters_broken r w gives e =
      let h = both_hold have_same_letter (slice_get file.teams r.0) (slice_get file.teams w.0) e in
      record { pair = gives; runner_up = h.0; winner = h.1; is_runner_up = h.2; is_winner = h.3; letter = h.4 }

  -- a pair that the test of tags finds is a case of rule 3
  pub tags_broken : (r w : TeamId) → GivesOpponent file table r w → breaks file Tags r w ≡ true → HaveOneTag file table r.0 w.0
  tags_broken r w gives e =
      let h = both_hold have_common_tag (slice_get file.teams r.0) (slice_get file.teams w.0) e in
      record { pair = gives; runner_up = h.0; winner = h.1; is_runner_up = h.2; is_winner = h.3; tag = h.4 }

  -- the test of letters finds each case of rule 2
  pub letters_break : (f s : ℕ) → HaveOneLetter file table f s → breaks file Letters (team_at f) (team_at s) ≡ true
  letters_break f s h = both_are have_same_letter (slice_get file.teams f) (slice_get file.teams s) h.runner_up h.winner h.is_runner_up h.is_winner ∙ h.letter

  -- the test of tags finds each case of rule 3
  pub tags_break : (f s : ℕ) → HaveOneTag file table f s → breaks file Tags (team_at f) (team_at s) ≡ true
  tags_break f s h = both_are have_common_tag (slice_get file.teams f) (slice_get file.teams s) h.runner_up h.winner h.is_runner_up h.is_winner ∙ h.tag

-- ---- legal tables

-- no pair of the table breaks the rule
abbrev pub KeepsRule : DrawFile → List TeamId → PairRule → Type 0
KeepsRule file table rule = (r w : TeamId) → GivesOpponent file table r w → breaks file rule r w ≡ false

-- a table that keeps each rule is legal
pub legal_by : (file : DrawFile) (table : List TeamId) → HasPairingForm file → length table ≡ length (runners_up file)
    → ((w : TeamId) → IsAmong (winners file) w → times_given w table ≡ 1)
    → KeepsRule file table Letters → KeepsRule file table Tags → KeepsRule file table Forbidden
    → IsLegalPairing file table
legal_by file table formed size each letters tags forbidden = record {
  size = size;
  nobody_else = only;
  given = λ w among. given_at w table (λ none. let one = each w among in omega arith);
  once = λ i j w e f. once_at w table (each w (only w (i, e))) i j e f;
  letters = λ r w a b gives is_r is_w. sym (both_are have_same_letter (slice_get file.teams r.0) (slice_get file.teams w.0) a b is_r is_w) ∙ letters r w gives;
  tags = λ r w a b gives is_r is_w. sym (both_are have_common_tag (slice_get file.teams r.0) (slice_get file.teams w.0) a b is_r is_w) ∙ tags r w gives;
  forbidden = λ r w gives. forbidden r w gives;
}
  where
    as_many : length table ≡ length (winners file)
    as_many = size ∙ pot_length 2 file ∙ formed.same_size ∙ sym (pot_length 1 file)

    only : (w : TeamId) → IsAmong table w → IsAmong (winners file) w
    only = nobody_else (winners file) table (pot_in_order 1 file) each as_many

-- a legal table breaks no rule
pub legal_keeps : (file : DrawFile) (table : List TeamId) → IsLegalPairing file table
    → (rule first second : ℕ) → IsBrokenPairing file table rule first second → ⊥
legal_keeps file table legal rule first second (inl (e, h)) =
    let k = legal.given (team_at first) h.winner in
    h.not_once (h.times ∙ counts_once (team_at first) table k.0 k.1 (λ i j f g. legal.once i j (team_at first) f g))
legal_keeps file table legal rule first second (inr (inl (e, h))) =
    false≢true (sym (legal.letters (team_at first) (team_at second) h.runner_up h.winner h.pair h.is_runner_up h.is_winner) ∙ h.letter)
legal_keeps file table legal rule first second (inr (inr (inl (e, h)))) =
    false≢true (sym (legal.tags (team_at first) (team_at second) h.runner_up h.winner h.pair h.is_runner_up h.is_winner) ∙ h.tag)
legal_keeps file table legal rule first second (inr (inr (inr (e, h)))) =
    false≢true (sym (legal.forbidden (team_at first) (team_at second) h.pair) ∙ h.forbidden)
