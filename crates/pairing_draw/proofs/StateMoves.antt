-- The pairs of a state: a runner-up and a winner of the file, and no winner twice.
use Rattle.std.proofs.Common.{◌≡◌, ◌+◌, ◌*◌, ◌<◌, Bool, true, false, not, List, [], ◌∷◌, ◌++◌, length, Option, Some, None, slice_get, ◌⊎◌, inl, inr, refl, sym, ap, ◌∙◌, subst}
use Rattle.std.specs.Prelude.{◌==◌, ◌||◌, option_and_then}
use Rattle.std.specs.List.{list_any, AllByRecursion as Each}
use Rattle.std.proofs.lemmas.Bool.{cases_Bool, eqb-true, eq-eqb, false_from_ne_true, or_left, or_right}
use Rattle.std.proofs.lemmas.List.Folds.{list_any-append}
use Rattle.std.proofs.lemmas.Option.{slice_get_within}
use Rattle.team_files.specs.declared.kind.Kind.{Kind}
use Rattle.team_files.specs.declared.team_id.TeamId.{TeamId}
use Rattle.team_files.specs.Members.{where_true}
use Rattle.rule_sets.specs.Files.{DrawFile}
use Rattle.count_core.specs.Problems.{mentions, repeats, are_within}
use Rattle.count_core.proofs.Lists.{each_push}
use Rattle.count_core.proofs.Rules.{within_from_each}
use Rattle.draw_tables.specs.declared.moves.Move.{Move}
use Rattle.draw_tables.specs.declared.moves.Move.TheVariants.{Drawn, Placed, Positioned, Paired}
use Rattle.draw_tables.specs.declared.moves.Choice.{Choice}
use Rattle.draw_tables.specs.declared.moves.Choice.TheVariants.{Team, Group, Position}
use Rattle.draw_tables.specs.Lists.{IsAmong}
use Rattle.draw_tables.specs.Pots.{winners, runners_up}
use Rattle.draw_tables.specs.Moves.{last_drawn, is_drawn}
use Rattle.draw_tables.specs.PairingPhases.{waiting_runner_up, has_opponent, undrawn_runners_up, unpaired_winners, is_paired, pairs_winner, pairing_phase_with}
use Rattle.draw_tables.specs.States.{candidates_in, move_in, IsCandidateMove, AreMovesAfter, IsState}
use Rattle.draw_tables.proofs.PotMembers.{among_kept, among_choices}
use Rattle.draw_tables.proofs.StateMoves.{phase_of_pairing}
use Rattle.draw_tables.proofs.NamedTeams.{last_has}
use Rattle.draw_tables.proofs.Lists.{same_item, none_among}
use Rattle.draw_tables.proofs.Numbers.{same_id}
use Rattle.pairing_draw.specs.Encoding.{pair_lit, place_of, lits_of_moves}
use Rattle.pairing_draw.proofs.AtomNumbers.{atom_within, same_atom}
use Rattle.pairing_draw.proofs.PlacedLists.{place_found}

-- ---- lists

any_more : {A : Type 0} (p : A → Bool) (xs ys : List A) → list_any p xs ≡ true → list_any p (xs ++ ys) ≡ true
any_more p xs ys e = rw (list_any-append p xs ys) (or_left (list_any p xs) (list_any p ys) e)

any_last : {A : Type 0} (p : A → Bool) (xs : List A) (x : A) → p x ≡ true → list_any p (xs ++ x ∷ []) ≡ true
any_last p xs x e = rw (list_any-append p xs (x ∷ [])) (or_right (list_any p xs) (p x || false) (or_left (p x) false e))

-- ---- the teams of the moves

-- the move is one of a pairing, about runners-up and winners of the file
abbrev pub IsKnown : DrawFile → Move → Type 0
IsKnown file (Drawn t) = IsAmong (runners_up file) t
IsKnown file (Placed t group) = ⊥
IsKnown file (Positioned t position) = ⊥
IsKnown file (Paired r w) = IsAmong (runners_up file) r × IsAmong (winners file) w

-- each winner is paired once
abbrev pub Apart : List Move → Type 0
Apart [] = Unit {0}
Apart (Drawn t ∷ ms) = Apart ms
Apart (Placed t group ∷ ms) = Apart ms
Apart (Positioned t position ∷ ms) = Apart ms
Apart (Paired r w ∷ ms) = (is_paired w ms ≡ false) × Apart ms

module _ (file : DrawFile) (kind : file.kind ≡ Kind.Pairing) where
  wait_last : (ms : List Move) (r : TeamId) → waiting_runner_up ms ≡ Some r → last_drawn ms ≡ Some r
  wait_last ms r e = by_cases (last_drawn ms) e
    where
      inner : (s : TeamId) (b : Bool) → where_true b s ≡ Some r → Some s ≡ Some r
      inner s true e = e
      inner s false e = cc

      by_cases : (o : Option TeamId) → option_and_then (λ s. where_true (not (has_opponent s ms)) s) o ≡ Some r → o ≡ Some r
      by_cases None e = cc
      by_cases (Some s) e = inner s (not (has_opponent s ms)) e

  -- what a candidate's move is
  record IsNext (before : List Move) (m : Move) : Type 0 where
    known : IsKnown file m
    fresh : (w : TeamId) → pairs_winner w m ≡ true → is_paired w before ≡ false

  in_phase : (before : List Move) → Each (IsKnown file) before → (o : Option TeamId) → waiting_runner_up before ≡ o → (left : List TeamId) → undrawn_runners_up file before ≡ left
      → (c : Choice) (m : Move) → IsAmong (candidates_in file before (pairing_phase_with o left)) c → move_in (pairing_phase_with o left) c ≡ Some m → IsNext before m
  in_phase before h None is [] are c m among e = absurd (none_among c among)
  in_phase before h None is (x ∷ xs) are (Team t) m among e =
      let found = among_kept (λ r. not (is_drawn r before)) (runners_up file) t (among_choices (undrawn_runners_up file before) t among) in
      subst (IsNext before) (same_item (Drawn t) m e) (record { known = found.1; fresh = λ w d. cc })
  in_phase before h None is (x ∷ xs) are (Group group) m among e = cc
  in_phase before h None is (x ∷ xs) are (Position position) m among e = cc
  in_phase before h (Some r) is left are (Group group) m among e = cc
  in_phase before h (Some r) is left are (Position position) m among e = cc
  in_phase before h (Some r) is left are (Team t) m among e =
      let found = among_kept (λ w. not (is_paired w before)) (winners file) t (among_choices (unpaired_winners file before) t among) in
      subst (IsNext before) (same_item (Paired r t) m e) (record {
        known = (last_has (IsKnown file) (IsAmong (runners_up file)) (λ t k. k) before r h (wait_last before r is), found.1);
        fresh = λ w d. off (is_paired w before) (ap (λ x. not (is_paired x before)) (same_id w t (sym (eqb-true t.0 w.0 d))) ∙ found.0);
      })
    where
      off : (b : Bool) → not b ≡ true → b ≡ false
      off true e = cc
      off false e = refl

  next_is : (before : List Move) (m : Move) → Each (IsKnown file) before → IsCandidateMove file before m → IsNext before m
  next_is before m h c =
      let phase = phase_of_pairing file before kind in
      in_phase before h (waiting_runner_up before) refl (undrawn_runners_up file before) refl c.0 m
      (subst (λ p. IsAmong (candidates_in file before p) c.0) phase c.1.0)
      (subst (λ p. move_in p c.0 ≡ Some m) phase c.1.1)

  known_after : (before ms : List Move) → Each (IsKnown file) before → AreMovesAfter file before ms → Each (IsKnown file) ms
  known_after before [] h g = tt
  known_after before (m ∷ ms) h g =
      let next = next_is before m h g.0 in
      (next.known, known_after (before ++ m ∷ []) ms (each_push (IsKnown file) before m h next.known) g.1)

  -- a state's moves are about runners-up and winners of the file
  pub state_known : (ms : List Move) → IsState file ms → Each (IsKnown file) ms
  state_known ms h = known_after [] ms tt h

  -- ---- no winner is given twice

  not_again : (w : TeamId) (before ms : List Move) → Each (IsKnown file) before → AreMovesAfter file before ms → is_paired w before ≡ true → is_paired w ms ≡ false
  not_again w before [] h g e = refl
  not_again w before (m ∷ ms) h g e =
      let next = next_is before m h g.0 in
      by_cases (cases_Bool (pairs_winner w m)) (next.fresh w) (not_again w (before ++ m ∷ []) ms (each_push (IsKnown file) before m h next.known) g.1 (any_more (pairs_winner w) before (m ∷ []) e))
    where
      by_cases : (pairs_winner w m ≡ true) ⊎ (pairs_winner w m ≡ false) → (pairs_winner w m ≡ true → is_paired w before ≡ false) → is_paired w ms ≡ false → (pairs_winner w m || is_paired w ms) ≡ false
      by_cases (inl is) fresh rest = let s = fresh is in cc
      by_cases (inr isnt) fresh rest = rw isnt rest

  apart_after : (before ms : List Move) → Each (IsKnown file) before → AreMovesAfter file before ms → Apart ms
  apart_after before [] h g = tt
  apart_after before (Drawn t ∷ ms) h g =
      let next = next_is before (Drawn t) h g.0 in
      apart_after (before ++ Drawn t ∷ []) ms (each_push (IsKnown file) before (Drawn t) h next.known) g.1
  apart_after before (Placed t group ∷ ms) h g = absurd (next_is before (Placed t group) h g.0).known
  apart_after before (Positioned t position ∷ ms) h g = absurd (next_is before (Positioned t position) h g.0).known
  apart_after before (Paired r w ∷ ms) h g =
      let next = next_is before (Paired r w) h g.0 in
      let known = each_push (IsKnown file) before (Paired r w) h next.known in (
        not_again w (before ++ Paired r w ∷ []) ms known g.1 (any_last (pairs_winner w) before (Paired r w) (eq-eqb w.0 w.0 refl)),
        apart_after (before ++ Paired r w ∷ []) ms known g.1,
      )

  -- a state pairs each winner once
  pub state_apart : (ms : List Move) → IsState file ms → Apart ms
  state_apart ms h = apart_after [] ms tt h

-- ---- the literals of the moves

module _ (file : DrawFile) where
  place_within : (t : TeamId) (xs : List TeamId) → IsAmong xs t → place_of t xs < length xs
  place_within t xs h = slice_get_within xs (place_of t xs) t (place_found t xs h.0 h.1)

  same_place : (t s : TeamId) (xs : List TeamId) → IsAmong xs t → IsAmong xs s → place_of t xs ≡ place_of s xs → t ≡ s
  same_place t s xs h g e = same_item t s (sym (place_found t xs h.0 h.1) ∙ ap (slice_get xs) e ∙ place_found s xs g.0 g.1)

  -- the literals are over atoms of the problem
  pub lits_within : (ms : List Move) → Each (IsKnown file) ms → are_within (length (runners_up file) * length (winners file)) (lits_of_moves file ms) ≡ true
  lits_within ms h = within_from_each (length (runners_up file) * length (winners file)) (lits_of_moves file ms) (each ms h)
    where
      each : (ms : List Move) → Each (IsKnown file) ms → Each (λ l. l.atom.0 < length (runners_up file) * length (winners file)) (lits_of_moves file ms)
      each [] h = tt
      each (Drawn t ∷ ms) h = each ms h.1
      each (Placed t group ∷ ms) h = absurd h.0
      each (Positioned t position ∷ ms) h = absurd h.0
      each (Paired r w ∷ ms) h = (
        atom_within (length (runners_up file)) (length (winners file)) (place_of r (runners_up file)) (place_of w (winners file)) (place_within r (runners_up file) h.0.0) (place_within w (winners file) h.0.1),
        each ms h.1,
      )

  other_atoms : (r w : TeamId) → IsAmong (winners file) w → (ms : List Move) → Each (IsKnown file) ms → is_paired w ms ≡ false
      → mentions (pair_lit (length (winners file)) (place_of r (runners_up file)) (place_of w (winners file))).atom.0 (lits_of_moves file ms) ≡ false
  other_atoms r w at [] h e = refl
  other_atoms r w at (Drawn t ∷ ms) h e = other_atoms r w at ms h.1 e
  other_atoms r w at (Placed t group ∷ ms) h e = absurd h.0
  other_atoms r w at (Positioned t position ∷ ms) h e = absurd h.0
  other_atoms r w at (Paired s v ∷ ms) h e = by_cases (cases_Bool (v.0 == w.0)) e (other_atoms r w at ms h.1)
    where
      by_cases : ((v.0 == w.0) ≡ true) ⊎ ((v.0 == w.0) ≡ false) → ((v.0 == w.0) || is_paired w ms) ≡ false
          → (is_paired w ms ≡ false → mentions (pair_lit (length (winners file)) (place_of r (runners_up file)) (place_of w (winners file))).atom.0 (lits_of_moves file ms) ≡ false)
          → mentions (pair_lit (length (winners file)) (place_of r (runners_up file)) (place_of w (winners file))).atom.0 (lits_of_moves file (Paired s v ∷ ms)) ≡ false
      by_cases (inl is) e rest = cc
      by_cases (inr isnt) e rest =
          let differ = false_from_ne_true ((place_of s (runners_up file) * (length (winners file)) + place_of v (winners file)) == (place_of r (runners_up file) * (length (winners file)) + place_of w (winners file))) (λ q.
          let same = same_atom (length (winners file)) (place_of s (runners_up file)) (place_of r (runners_up file)) (place_of v (winners file)) (place_of w (winners file)) (place_within v (winners file) h.0.1) (place_within w (winners file) at) (eqb-true _ _ q) in
          let teams = same_place v w (winners file) h.0.1 at same.1 in
          let t = eq-eqb v.0 w.0 (ap (λ x. x.0) teams) in
          cc) in
          rw differ (rest (rw isnt at e))

  -- and these are different
  pub lits_distinct : (ms : List Move) → Each (IsKnown file) ms → Apart ms → repeats (lits_of_moves file ms) ≡ false
  lits_distinct [] h g = refl
  lits_distinct (Drawn t ∷ ms) h g = lits_distinct ms h.1 g
  lits_distinct (Placed t group ∷ ms) h g = absurd h.0
  lits_distinct (Positioned t position ∷ ms) h g = absurd h.0
  lits_distinct (Paired r w ∷ ms) h g = rw (other_atoms r w h.0.1 ms h.1 g.0) (lits_distinct ms h.1 g.1)

-- the literals of a state's moves make a question
pub are_questions : (file : DrawFile) (ms : List Move) → file.kind ≡ Kind.Pairing → IsState file ms
    → (are_within (length (runners_up file) * length (winners file)) (lits_of_moves file ms) ≡ true) × (repeats (lits_of_moves file ms) ≡ false)
are_questions file ms kind h = let known = state_known file kind ms h in (lits_within file ms known, lits_distinct file ms known (state_apart file kind ms h))
