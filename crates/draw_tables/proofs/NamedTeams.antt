-- What a state names is of its file: its moves, its phase, its candidates, and what is offered in it.
use Rattle.std.proofs.Common.{◌≡◌, ℕ, zero, suc, arith, Bool, true, false, not, List, [], ◌∷◌, ◌++◌, Option, Some, None, inl, inr, slice_get, refl, subst, ◌∙◌}
use Rattle.std.specs.Prelude.{◌&&◌, is_none, option_and_then}
use Rattle.std.specs.List.{AllByRecursion as Each}
use Rattle.std.specs.Option.{option_or}
use Rattle.team_files.specs.declared.kind.Kind.{Kind}
use Rattle.team_files.specs.declared.team_id.TeamId.{TeamId}
use Rattle.team_files.specs.Members.{where_true}
use Rattle.rule_sets.specs.Files.{DrawFile}
use Rattle.draw_tables.specs.declared.moves.Move.{Move}
use Rattle.draw_tables.specs.declared.moves.Move.TheVariants.{Drawn, Placed, Positioned, Paired}
use Rattle.draw_tables.specs.declared.moves.Choice.{Choice}
use Rattle.draw_tables.specs.declared.moves.Choice.TheVariants as choice
use Rattle.draw_tables.specs.declared.moves.Phase.{Phase}
use Rattle.draw_tables.specs.declared.moves.Phase.TheVariants as phase
use Rattle.draw_tables.specs.Lists.{IsAmong}
use Rattle.draw_tables.specs.Pots.{IsTeamOf, IsPot, pots_of}
use Rattle.draw_tables.specs.Moves.{last_of, last_drawn, drawn_team, last_placed, placed_team, group_in, position_in}
use Rattle.draw_tables.specs.GroupPhases.{without_group, has_position_ball, without_position, has_undrawn, open_pot, group_phase_with, group_phase}
use Rattle.draw_tables.specs.PairingPhases.{has_opponent, undrawn_runners_up, pairing_phase_with, pairing_phase}
use Rattle.draw_tables.specs.States.{phase_by, phase_of, candidates, move_in, IsCandidateMove, AreMovesAfter}
use Rattle.draw_tables.specs.Offers.{IsPossible, Picks}
use Rattle.draw_tables.specs.Names.{IsFileMove, AreFileMoves, IsFileChoice, AreFileChoices, IsFilePhase, StatesNameTeams}
use Rattle.draw_tables.proofs.FileTeams.{candidates_within}
use Rattle.draw_tables.proofs.Lists.{found, in_range}

-- ---- choices

-- One of the file's choices is of the file.
pub choice_among_of : (file : DrawFile) (cs : List Choice) (c : Choice) → AreFileChoices file cs → IsAmong cs c → IsFileChoice file c
choice_among_of file cs c h among = at cs among.0 h among.1
  where
    at : (ds : List Choice) (k : ℕ) → AreFileChoices file ds → slice_get ds k ≡ Some c → IsFileChoice file c
    at [] k h e = cc
    at (d ∷ ds) zero h e = let same : d ≡ c = cc in rw (← same) h.0
    at (d ∷ ds) (suc k) h e = at ds k h.1 e

-- what is picked of the file's choices is of the file
picked_of : (file : DrawFile) (P : Choice → Type 0) (cs os : List Choice) → Picks P cs os → AreFileChoices file cs → AreFileChoices file os
picked_of file P [] [] h a = tt
picked_of file P [] (o ∷ os) h a = absurd h
picked_of file P (c ∷ cs) os (inl h) a = rw h.1.1 (a.0, picked_of file P cs h.1.0 h.1.2 a.1)
picked_of file P (c ∷ cs) os (inr h) a = picked_of file P cs os h.1 a.1

-- ---- phases

-- What holds of the answer of a move where a fact holds of the move holds of the last answer where it holds of each.
pub last_of_has : {A : Type 0} (f : Move → Option A) (Q : Move → Type 0) (P : A → Type 0) → ((m : Move) (a : A) → f m ≡ Some a → Q m → P a)
    → (ms : List Move) (a : A) → Each Q ms → last_of f ms ≡ Some a → P a
last_of_has f Q P of [] a h e = cc
last_of_has {A = A} f Q P of (m ∷ ms) a h e = by_cases (last_of f ms) refl e (last_of_has f Q P of ms a h.1)
  where
    by_cases : (o : Option A) → last_of f ms ≡ o → option_or o (f m) ≡ Some a → (last_of f ms ≡ Some a → P a) → P a
    by_cases (Some b) is k rest = rest (is ∙ k)
    by_cases None is k rest = of m a k h.0

-- What holds of the drawn team where a fact holds of the move holds of the last drawn where it holds of each.
pub last_has : (Q : Move → Type 0) (P : TeamId → Type 0) → ((t : TeamId) → Q (Drawn t) → P t)
    → (ms : List Move) (t : TeamId) → Each Q ms → last_drawn ms ≡ Some t → P t
last_has Q P of ms t h e = last_of_has drawn_team Q P by_move ms t h e
  where
    by_move : (m : Move) (a : TeamId) → drawn_team m ≡ Some a → Q m → P a
    by_move (Drawn s) a k q = let same : s ≡ a = cc in subst P same (of s q)
    by_move (Placed s group) a k q = cc
    by_move (Positioned s position) a k q = cc
    by_move (Paired r w) a k q = cc

-- the phase of a pairing is of the file
pairing_phase_of : (file : DrawFile) (ms : List Move) → AreFileMoves file ms → IsFilePhase file (pairing_phase file ms)
pairing_phase_of file ms h = go (last_drawn ms) refl
  where
    left : (ts : List TeamId) → IsFilePhase file (pairing_phase_with None ts)
    left [] = tt
    left (t ∷ ts) = tt

    held : (r : TeamId) (b : Bool) → IsTeamOf file r → IsFilePhase file (pairing_phase_with (where_true (not b) r) (undrawn_runners_up file ms))
    held r true n = left (undrawn_runners_up file ms)
    held r false n = n

    go : (last : Option TeamId) → last_drawn ms ≡ last → IsFilePhase file (pairing_phase file ms)
    go None is = rw is (left (undrawn_runners_up file ms))
    go (Some r) is = rw is (held r (has_opponent r ms) (last_has (IsFileMove file) (IsTeamOf file) (λ t k. k) ms r h is))

-- an answer that a test left
left_by : {A : Type 0} (test : A → Bool) (o : Option A) (a : A) → option_and_then (λ x. where_true (test x) x) o ≡ Some a → o ≡ Some a
left_by test None a e = cc
left_by {A = A} test (Some x) a e = go (test x) e
  where
    go : (b : Bool) → where_true b x ≡ Some a → Some x ≡ Some a
    go true h = h
    go false h = cc

-- the phase of a group draw is of the file
group_phase_of : (file : DrawFile) (ms : List Move) → AreFileMoves file ms → IsFilePhase file (group_phase file ms)
group_phase_of file ms h = by (without_group ms) (without_position file ms) (open_pot file ms) drawn placed pot
  where
    by : (a b : Option TeamId) (c : Option ℕ) → ((t : TeamId) → a ≡ Some t → IsTeamOf file t) → ((t : TeamId) → b ≡ Some t → IsTeamOf file t) → ((p : ℕ) → c ≡ Some p → IsPot file p)
        → IsFilePhase file (group_phase_with a b c)
    by (Some t) b c f g k = f t refl
    by None (Some t) c f g k = g t refl
    by None None (Some p) f g k = k p refl
    by None None None f g k = tt

    placed_of : (m : Move) (t : TeamId) → placed_team m ≡ Some t → IsFileMove file m → IsTeamOf file t
    placed_of (Drawn s) t e q = cc
    placed_of (Placed s group) t e q = let same : s ≡ t = cc in subst (IsTeamOf file) same q.0
    placed_of (Positioned s position) t e q = cc
    placed_of (Paired r w) t e q = cc

    drawn : (t : TeamId) → without_group ms ≡ Some t → IsTeamOf file t
    drawn t e = last_has (IsFileMove file) (IsTeamOf file) (λ s k. k) ms t h (left_by (λ s. is_none (group_in ms s)) (last_drawn ms) t e)

    placed : (t : TeamId) → without_position file ms ≡ Some t → IsTeamOf file t
    placed t e = last_of_has placed_team (IsFileMove file) (IsTeamOf file) placed_of ms t h (left_by (λ s. has_position_ball file s && is_none (position_in ms s)) (last_placed ms) t e)

    pot : (p : ℕ) → open_pot file ms ≡ Some p → IsPot file p
    pot p e =
        let among = (found (has_undrawn file ms) (pots_of file) p e).0 in
        let range = in_range 1 file.pots among.0 p among.1 in
        let low = range.0 in
        let high = range.1 in
        (omega arith, omega arith)

-- After moves of the file the phase is of the file.
pub phase_is_of : (file : DrawFile) (ms : List Move) → AreFileMoves file ms → IsFilePhase file (phase_of file ms)
phase_is_of file ms h = by_kind file.kind
  where
    by_kind : (k : Kind) → IsFilePhase file (phase_by k file ms)
    by_kind Kind.Group = group_phase_of file ms h
    by_kind Kind.Pairing = pairing_phase_of file ms h

-- ---- moves

-- The move of a choice of the file in a phase of the file is of the file.
pub move_is_of : (file : DrawFile) (p : Phase) (c : Choice) (m : Move) → IsFilePhase file p → IsFileChoice file c → move_in p c ≡ Some m → IsFileMove file m
move_is_of file phase.Runner (choice.Team t) m a b e = let same : Drawn t ≡ m = cc in rw (← same) b
move_is_of file (phase.Opponent r) (choice.Team t) m a b e = let same : Paired r t ≡ m = cc in rw (← same) (a, b)
move_is_of file (phase.Team pot) (choice.Team t) m a b e = let same : Drawn t ≡ m = cc in rw (← same) b
move_is_of file (phase.Group t) (choice.Group group) m a b e = let same : Placed t group ≡ m = cc in rw (← same) (a, b)
move_is_of file (phase.Position t) (choice.Position position) m a b e = let same : Positioned t position ≡ m = cc in rw (← same) (a, b)
move_is_of file phase.Runner (choice.Group group) m a b e = cc
move_is_of file phase.Runner (choice.Position position) m a b e = cc
move_is_of file (phase.Opponent r) (choice.Group group) m a b e = cc
move_is_of file (phase.Opponent r) (choice.Position position) m a b e = cc
move_is_of file (phase.Team pot) (choice.Group group) m a b e = cc
move_is_of file (phase.Team pot) (choice.Position position) m a b e = cc
move_is_of file (phase.Group t) (choice.Team s) m a b e = cc
move_is_of file (phase.Group t) (choice.Position position) m a b e = cc
move_is_of file (phase.Position t) (choice.Team s) m a b e = cc
move_is_of file (phase.Position t) (choice.Group group) m a b e = cc
move_is_of file phase.Complete c m a b e = cc

-- Moves of the file, one list after the other, are of the file.
pub moves_are_of : (file : DrawFile) (ms ns : List Move) → AreFileMoves file ms → AreFileMoves file ns → AreFileMoves file (ms ++ ns)
moves_are_of file [] ns h g = g
moves_are_of file (m ∷ ms) ns h g = (h.0, moves_are_of file ms ns h.1 g)

-- A candidate's move is of the file, where the moves before it are.
pub candidate_move_is_of : (file : DrawFile) (before : List Move) (m : Move) → AreFileMoves file before → IsCandidateMove file before m → IsFileMove file m
candidate_move_is_of file before m named (c, is) =
    let choice = choice_among_of file (candidates file before) c (candidates_within file before (phase_of file before)) is.0 in
    move_is_of file (phase_of file before) c m (phase_is_of file before named) choice is.1

moves_after_are_of : (file : DrawFile) (before ms : List Move) → AreFileMoves file before → AreMovesAfter file before ms → AreFileMoves file ms
moves_after_are_of file before [] named h = tt
moves_after_are_of file before (m ∷ ms) named h =
    let here = candidate_move_is_of file before m named h.0 in
    (here, moves_after_are_of file (before ++ m ∷ []) ms (moves_are_of file before (m ∷ []) named (here, tt)) h.1)

-- ---- the law

-- what a state names is of its file
pub states_name_teams : StatesNameTeams
states_name_teams = record {
  moves = λ file ms state. moves_after_are_of file [] ms tt state;
  phase = λ file ms state. phase_is_of file ms (moves_after_are_of file [] ms tt state);
  candidates = λ file ms. candidates_within file ms (phase_of file ms);
  offer = λ file ms os offer. picked_of file (IsPossible file ms) (candidates file ms) os offer (candidates_within file ms (phase_of file ms));
}
