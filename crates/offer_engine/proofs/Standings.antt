-- How candidates stand by the answers to their questions, and what is offered then.
use Rattle.std.proofs.Common.{◌≡◌, ℕ, zero, suc, Bool, List, [], ◌∷◌, ◌++◌, ◌+◌, ◌<◌, length, map, take, get_or, Option, Some, None, slice_get, refl, sym, ap, ◌∙◌, subst, inl, inr, append-nil, arith}
use Rattle.std.specs.List.{AllByRecursion as Each, filter_map, cons_option}
use Rattle.std.proofs.lemmas.List.{length-map, take_more}
use Rattle.std.proofs.lemmas.List.Elements.{filter_map-append}
use Rattle.team_files.specs.declared.kind.Kind.{Kind}
use Rattle.team_files.specs.declared.team_id.TeamId.{TeamId}
use Rattle.rule_sets.specs.Files.{DrawFile, IsWellFormed}
use Rattle.count_core.specs.declared.lit.Lit.{Lit}
use Rattle.count_core.specs.Problems.{Problem}
use Rattle.count_core.specs.Assignments.{Satisfies, SatisfiesQuestion}
use Rattle.count_core.specs.Laws.{RefutedQuestionsFail}
use Rattle.count_core.specs.Steps.{IsRefutation}
use Rattle.draw_tables.specs.declared.moves.Move.{Move}
use Rattle.draw_tables.specs.declared.moves.Move.TheVariants.{Drawn, Positioned}
use Rattle.draw_tables.specs.declared.moves.Choice.{Choice}
use Rattle.draw_tables.specs.declared.moves.Phase.{Phase}
use Rattle.draw_tables.specs.declared.moves.Phase.TheVariants.{Runner, Opponent, Team, Group, Position, Complete}
use Rattle.draw_tables.specs.declared.table.Table.{Table}
use Rattle.draw_tables.specs.Lists.{IsAmong}
use Rattle.draw_tables.specs.Pots.{later_positions}
use Rattle.draw_tables.specs.GroupPhases.{undrawn_of_pot}
use Rattle.draw_tables.specs.PairingPhases.{undrawn_runners_up}
use Rattle.draw_tables.specs.Moves.{group_in}
use Rattle.draw_tables.specs.Positions.{HasCleanPositions, HeldIsImpossible, IsHeld, IsHolder, StaysClean}
use Rattle.draw_tables.specs.States.{phase_of, candidates, candidates_in, move_in, IsMoveOf, IsState}
use Rattle.draw_tables.specs.Offers.{Extends, IsCompletable, IsPossible, Picks, IsOffer}
use Rattle.draw_tables.proofs.Lists.{map_among, same_item}
use Rattle.draw_state.specs.State.{State}
use Rattle.group_draw.specs.Encoding.{lit_of_move as group_lit, values_of as group_values}
use Rattle.group_draw.specs.Correspondence.{TablesSatisfy as GroupTablesSatisfy, ValuesComplete as GroupValuesComplete}
use Rattle.pairing_draw.specs.Encoding.{lit_of_move as pairing_lit, values_of as pairing_values}
use Rattle.pairing_draw.specs.Correspondence.{TablesSatisfy as PairingTablesSatisfy}
use Rattle.refutations.specs.Derivations.{Closing}
use Rattle.serial_search.specs.declared.outcome.Outcome.{Outcome}
use Rattle.serial_search.specs.declared.outcome.Outcome.TheVariants.{Possible, Impossible}
use Rattle.serial_search.specs.Answers.{Answering, IsRight}
use Rattle.offer_engine.specs.declared.standing.Standing.{Standing}
use Rattle.offer_engine.specs.declared.standing.Standing.TheVariants.{Offered, Excluded, Held}
use Rattle.offer_engine.specs.Encodings.{rules_of, lits_by, lits_of}
use Rattle.offer_engine.specs.Questions.{AddsMoveOf, DrawsTeam, asked, question_of}
use Rattle.offer_engine.specs.Offers.{IsExclusion, Shows, Stands, StandsRight, StandAsAnswered, RestsOn, ComesOf, offered, where_offered}
use Rattle.offer_engine.proofs.StateQuestions.{group_rules_are, group_lits_are, pairing_rules_are, pairing_lits_are, question_is, question_later, at_later}
use Rattle.offer_engine.proofs.Phases.{Tells, HasGroup, phase_tells}

-- ---- moves without literals

unsaid : {A : Type 0} (f : Move → Option A) (ms : List Move) (m : Move) → f m ≡ None → filter_map f (ms ++ m ∷ []) ≡ filter_map f ms
unsaid f ms m none = filter_map-append f ms (m ∷ []) ∙ ap (λ o. filter_map f ms ++ cons_option o []) none ∙ append-nil (filter_map f ms)

lits_drawn : (file : DrawFile) (ms : List Move) (t : TeamId) → lits_of file (ms ++ Drawn t ∷ []) ≡ lits_of file ms
lits_drawn file ms t = by_kind file.kind
  where
    by_kind : (kind : Kind) → lits_by kind file (ms ++ Drawn t ∷ []) ≡ lits_by kind file ms
    by_kind Kind.Group = unsaid (group_lit file) ms (Drawn t) refl
    by_kind Kind.Pairing = unsaid (pairing_lit file) ms (Drawn t) refl

pub lits_positioned : (file : DrawFile) (ms : List Move) (t : TeamId) (position : ℕ) → lits_of file (ms ++ Positioned t position ∷ []) ≡ lits_of file ms
lits_positioned file ms t position = by_kind file.kind
  where
    by_kind : (kind : Kind) → lits_by kind file (ms ++ Positioned t position ∷ []) ≡ lits_by kind file ms
    by_kind Kind.Group = unsaid (group_lit file) ms (Positioned t position) refl
    by_kind Kind.Pairing = unsaid (pairing_lit file) ms (Positioned t position) refl

-- ---- what is shown of moves

extends_drawn : (file : DrawFile) (table : Table) (t : TeamId) (ms : List Move) → Extends file table ms → Extends file table (ms ++ Drawn t ∷ [])
extends_drawn file table t [] h = (tt, tt)
extends_drawn file table t (m ∷ ms) h = (h.0, extends_drawn file table t ms h.1)

-- a refutation excludes all moves of its literals
excludes : (file : DrawFile) (ms more : List Move) (closed : Closing) → lits_of file more ≡ lits_of file ms → IsExclusion file ms closed → IsExclusion file more closed
excludes file ms more closed same h = record {
  problem = h.problem;
  question = h.question ∙ sym same;
  refutes = subst (λ q. IsRefutation (rules_of file) q closed.steps) (sym same) h.refutes;
}

shows_drawn : (file : DrawFile) (ms : List Move) (t : TeamId) (s : Standing) → Shows file ms s → Shows file (ms ++ Drawn t ∷ []) s
shows_drawn file ms t (Offered table) h = record {
  legal = h.legal;
  of_file = h.of_file;
  extends = extends_drawn file table t ms h.extends;
}
shows_drawn file ms t (Excluded closed) h = excludes file ms (ms ++ Drawn t ∷ []) closed (lits_drawn file ms t) h
shows_drawn file ms t (Held holder) h = absurd h

module _ (file : DrawFile) (ms : List Move) (c : Choice) where
  -- what shows it of the moves with the choice's own is how it stands
  pub shown_stands : (m : Move) (s : Standing) → IsMoveOf file ms c m → Shows file (ms ++ m ∷ []) s → StandsRight file ms (c, s)
  shown_stands m (Offered table) move h = (m, move, h)
  shown_stands m (Excluded closed) move h = (m, move, h)
  shown_stands m (Held holder) move h = absurd h

  -- what stands is a candidate
  stands_among : (s : Standing) → Stands file ms c s → IsAmong (candidates file ms) c
  stands_among (Offered table) h = h.1.0
  stands_among (Excluded closed) h = h.1.0
  stands_among (Held holder) h = h.candidate

-- ---- all candidates by one answer

each_of : {A B : Type 0} (f : A → B) (P : B → Type 0) (xs : List A) → ((x : A) → IsAmong xs x → P (f x)) → Each P (map f xs)
each_of f P [] h = tt
each_of f P (x ∷ xs) h = (h x (0, refl), each_of f P xs (λ y among. h y (suc among.0, among.1)))

choices_of : (s : Standing) (cs : List Choice) → map (λ (x : Choice × Standing). x.0) (map (λ c. (c, s)) cs) ≡ cs
choices_of s [] = refl
choices_of s (c ∷ cs) = ap (λ xs. c ∷ xs) (choices_of s cs)

-- the moves of all candidates have no literals
abbrev pub AsksAlike : DrawFile → List Move → Type 0
AsksAlike file ms = (c : Choice) → IsAmong (candidates file ms) c → lits_of file ms ≡ question_of file ms c

-- where a team is drawn
module _ (file : DrawFile) (ms : List Move) (draws : DrawsTeam (phase_of file ms)) where
  drawn_in : (p : Phase) → DrawsTeam p → (c : Choice) → IsAmong (candidates_in file ms p) c → (t : TeamId) × (move_in p c ≡ Some (Drawn t))
  drawn_in Runner is c among = let x = map_among (λ t. Choice.Team t) (undrawn_runners_up file ms) c among in (x.0, ap (move_in Runner) (sym x.2))
  drawn_in (Opponent r) is c among = absurd is
  drawn_in (Team pot) is c among = let x = map_among (λ t. Choice.Team t) (undrawn_of_pot file ms pot) c among in (x.0, ap (move_in (Team pot)) (sym x.2))
  drawn_in (Group t) is c among = absurd is
  drawn_in (Position t) is c among = absurd is
  drawn_in Complete is c among = absurd is

  drawn_move : (c : Choice) → IsAmong (candidates file ms) c → (t : TeamId) × IsMoveOf file ms c (Drawn t)
  drawn_move c among = let d = drawn_in (phase_of file ms) draws c among in (d.0, (among, d.1))

  pub draws_right : (s : Standing) → Shows file ms s → (c : Choice) → IsAmong (candidates file ms) c → StandsRight file ms (c, s)
  draws_right s h c among = let d = drawn_move c among in shown_stands file ms c (Drawn d.0) s d.1 (shows_drawn file ms d.0 s h)

  pub draws_alike : AsksAlike file ms
  draws_alike c among = let d = drawn_move c among in sym (lits_drawn file ms d.0) ∙ question_is file ms c (Drawn d.0) d.1

-- where a position is drawn
module _ (file : DrawFile) (ms : List Move) (t : TeamId) (phase : phase_of file ms ≡ Position t) where
  pub position_move : (c : Choice) → IsAmong (candidates file ms) c → (position : ℕ) × (c ≡ Choice.Position position) × IsMoveOf file ms c (Positioned t position)
  position_move c among =
      let x = map_among (λ n. Choice.Position n) (later_positions file) c (subst (λ p. IsAmong (candidates_in file ms p) c) phase among) in
      (x.0, sym x.2, (among, ap (λ p. move_in p c) phase ∙ ap (move_in (Position t)) (sym x.2)))

  told : Tells file ms (Position t)
  told = subst (Tells file ms) phase (phase_tells file ms)

  pub position_kind : file.kind ≡ Kind.Group
  position_kind = told.0

  pub position_group : HasGroup ms t
  position_group = told.2

  pub positions_alike : AsksAlike file ms
  positions_alike c among = let p = position_move c among in sym (lits_positioned file ms t p.0) ∙ question_is file ms c (Positioned t p.0) p.2

  pub positions_excluded : (closed : Closing) → IsExclusion file ms closed → (c : Choice) → IsAmong (candidates file ms) c → StandsRight file ms (c, Excluded closed)
  positions_excluded closed h c among =
      let p = position_move c among in
      (Positioned t p.0, p.2, excludes file ms (ms ++ Positioned t p.0 ∷ []) closed (lits_positioned file ms t p.0) h)

  -- values of the moves complete them
  pub values_complete : GroupValuesComplete → IsWellFormed file → IsState file ms → HasCleanPositions file ms
      → (values : List Bool) → Satisfies values (rules_of file) → SatisfiesQuestion values (lits_of file ms) → IsCompletable file ms
  values_complete law formed state clean values rules moves =
      law file ms values position_kind formed state clean (record {
        rules = subst (λ r. Satisfies values r) (group_rules_are file position_kind) rules;
        moves = subst (λ q. SatisfiesQuestion values q) (group_lits_are file ms position_kind) moves;
      })

-- the state in which the team has the position
module _ (state later : State) (t : TeamId) (c : Choice) (position : ℕ) (phase : phase_of state.file state.moves ≡ Position t) (is : c ≡ Choice.Position position) (h : AddsMoveOf state c later) where
  gives_it : Positioned t position ≡ h.0
  gives_it = same_item (Positioned t position) h.0 (sym (ap (λ p. move_in p c) phase ∙ ap (move_in (Position t)) is) ∙ h.1.1)

  pub later_clean : StaysClean → HasCleanPositions state.file state.moves → (group : ℕ) → group_in state.moves t ≡ Some group → ¬ IsHeld state.file state.moves t group position → HasCleanPositions later.file later.moves
  later_clean stays clean group stands free =
      at_later HasCleanPositions state later c h (subst (λ m. HasCleanPositions state.file (state.moves ++ m ∷ [])) gives_it (stays state.file state.moves t group position clean stands free))

  pub later_lits : lits_of state.file state.moves ≡ lits_of later.file later.moves
  later_lits = positions_alike state.file state.moves t phase c h.1.0 ∙ sym (question_later state later c h)

-- values of an answer satisfy its problem and its question
pub answer_values : (a : Answering) (values : List Bool) (problem : Problem) (q : List Lit) → IsRight a.problem a.question a.outcome → a.outcome ≡ Possible values → a.problem ≡ problem → a.question ≡ q
    → Satisfies values problem × SatisfiesQuestion values q
answer_values a values problem q right is of_problem asks =
    let both = subst (λ o. IsRight a.problem a.question o) is right in (subst (λ p. Satisfies values p) of_problem both.0, subst (λ x. SatisfiesQuestion values x) asks both.1)

-- a refutation of an answer excludes moves whose literals were asked
pub answer_excludes : (file : DrawFile) (ms : List Move) (a : Answering) (closed : Closing) → IsRight a.problem a.question a.outcome → a.outcome ≡ Impossible closed → a.problem ≡ rules_of file → a.question ≡ lits_of file ms
    → IsExclusion file ms closed
answer_excludes file ms a closed right is of_problem asks =
    let all = subst (λ o. IsRight a.problem a.question o) is right in
    record {
      problem = all.0 ∙ of_problem;
      question = all.1 ∙ asks;
      refutes = subst (λ q. IsRefutation (rules_of file) q closed.steps) asks (subst (λ p. IsRefutation p a.question closed.steps) of_problem all.2);
    }

-- there is one answer, to the one question
pub many_answers : (answers : List Answering) (q : List Lit) → asked answers ≡ q ∷ [] → 0 < length answers
many_answers answers q e =
    let many = sym (length-map answers (λ (a : Answering). a.question)) ∙ ap length e in
    omega arith

pub only_answer : (answers : List Answering) (a : Answering) (q : List Lit) → asked answers ≡ q ∷ [] → slice_get answers 0 ≡ Some a → a.question ≡ q
only_answer [] a q e at = cc
only_answer (b ∷ answers) a q e at = let answer = same_item b a at in ap (λ x. x.question) (sym answer) ∙ cc

-- the standing comes of the outcome
abbrev pub Comes : Outcome → Choice × Standing → Type 0
Comes outcome s = ComesOf s.1 outcome

-- candidates that stand right and come of the one answer
module _ (state : State) (answers : List Answering) (a : Answering) (clean : HasCleanPositions state.file state.moves) (alike : AsksAlike state.file state.moves)
    (among : IsAmong answers a) (asks : a.question ≡ lits_of state.file state.moves) where
  rest_on : (ss : List (Choice × Standing)) → Each (StandsRight state.file state.moves) ss → Each (Comes a.outcome) ss → Each (RestsOn state.file state.moves answers) ss
  rest_on [] right comes = tt
  rest_on (s ∷ ss) right comes =
      ((a, among, asks ∙ alike s.0 (stands_among state.file state.moves s.0 s.1 right.0), comes.0), rest_on ss right.1 comes.1)

  pub stand_each : (ss : List (Choice × Standing)) → map (λ (x : Choice × Standing). x.0) ss ≡ candidates state.file state.moves
      → Each (StandsRight state.file state.moves) ss → Each (Comes a.outcome) ss → StandAsAnswered state answers ss
  stand_each ss choices right comes = record {
    exact = record { choices = choices; each = right; clean = clean };
    kept = rest_on ss right comes;
  }

  -- and all stand alike
  pub stand_alike : (s : Standing) → ((c : Choice) → IsAmong (candidates state.file state.moves) c → StandsRight state.file state.moves (c, s)) → ComesOf s a.outcome
      → StandAsAnswered state answers (map (λ c. (c, s)) (candidates state.file state.moves))
  stand_alike s right comes =
      stand_each (map (λ c. (c, s)) (candidates state.file state.moves)) (choices_of s (candidates state.file state.moves))
      (each_of (λ c. (c, s)) (StandsRight state.file state.moves) (candidates state.file state.moves) right)
      (each_of (λ c. (c, s)) (Comes a.outcome) (candidates state.file state.moves) (λ c at. comes))

-- ---- each candidate by its own answer

-- the answers at the places of choices are those to their questions
pub answer_at : (file : DrawFile) (ms : List Move) (cs : List Choice) (answers : List Answering) (k : ℕ) (c : Choice) (a : Answering)
    → asked answers ≡ map (question_of file ms) cs → slice_get cs k ≡ Some c → slice_get answers k ≡ Some a → a.question ≡ question_of file ms c
answer_at file ms [] answers k c a e at is = cc
answer_at file ms (d ∷ cs) [] k c a e at is = cc
answer_at file ms (d ∷ cs) (b ∷ answers) zero c a e at is =
    let head : b.question ≡ question_of file ms d = cc in
    let choice = same_item d c at in
    let answer = same_item b a is in
    ap (λ x. x.question) (sym answer) ∙ head ∙ ap (question_of file ms) choice
answer_at file ms (d ∷ cs) (b ∷ answers) (suc k) c a e at is =
    let tail : asked answers ≡ map (question_of file ms) cs = cc in
    answer_at file ms cs answers k c a tail at is

-- there are as many as choices
pub as_many_answers : (file : DrawFile) (ms : List Move) (cs : List Choice) (answers : List Answering) → asked answers ≡ map (question_of file ms) cs → length answers ≡ length cs
as_many_answers file ms cs answers e =
    sym (length-map answers (λ (a : Answering). a.question)) ∙ ap length e ∙ length-map cs (question_of file ms)

-- the candidate stands as is right and as its answer has it
pub record StandsAsAnswered (state : State) (answers : List Answering) (s : Choice × Standing) : Type 0 where
  pub right : StandsRight state.file state.moves s
  pub rests : RestsOn state.file state.moves answers s

module _ (state : State) (answers : List Answering) where
  rights : (ss : List (Choice × Standing)) → Each (StandsAsAnswered state answers) ss → Each (StandsRight state.file state.moves) ss
  rights [] h = tt
  rights (s ∷ ss) h = (h.0.right, rights ss h.1)

  rest : (ss : List (Choice × Standing)) → Each (StandsAsAnswered state answers) ss → Each (RestsOn state.file state.moves answers) ss
  rest [] h = tt
  rest (s ∷ ss) h = (h.0.rests, rest ss h.1)

  pub stand_apart : (ss : List (Choice × Standing)) → HasCleanPositions state.file state.moves → map (λ (x : Choice × Standing). x.0) ss ≡ candidates state.file state.moves → Each (StandsAsAnswered state answers) ss
      → StandAsAnswered state answers ss
  stand_apart ss clean choices h = record {
    exact = record { choices = choices; each = rights ss h; clean = clean };
    kept = rest ss h;
  }

-- ---- what is offered

-- a position that has a holder is held
is_held : (file : DrawFile) (ms : List Move) (t : TeamId) (group position : ℕ) (holder : TeamId) → IsHolder file ms t group position holder → IsHeld file ms t group position
is_held file ms t group position holder (inl taken) = inl (holder, taken)
is_held file ms t group position holder (inr own) = inr own.1

module _ (group_tables : GroupTablesSatisfy) (pairing_tables : PairingTablesSatisfy) (refuted : RefutedQuestionsFail) (impossible : HeldIsImpossible)
    (file : DrawFile) (formed : IsWellFormed file) where
  -- moves whose literals are refuted can't be completed
  refuted_not : (ms : List Move) (closed : Closing) → IsExclusion file ms closed → ¬ IsCompletable file ms
  refuted_not ms closed h done = by_kind file.kind refl
    where
      by_values : (values : List Bool) → Satisfies values (rules_of file) → SatisfiesQuestion values (lits_of file ms) → ⊥
      by_values values rules question = refuted (rules_of file) (lits_of file ms) closed.steps h.refutes (values, rules, question)

      by_kind : (k : Kind) → file.kind ≡ k → ⊥
      by_kind Kind.Group kind =
          let values = group_values file done.0 in
          let meets = group_tables file ms done.0 kind formed done.1 done.2 in
          by_values values (subst (λ r. Satisfies values r) (sym (group_rules_are file kind)) meets.rules) (subst (λ q. SatisfiesQuestion values q) (sym (group_lits_are file ms kind)) meets.moves)
      by_kind Kind.Pairing kind =
          let values = pairing_values file done.0 in
          let meets = pairing_tables file ms done.0 kind done.1 done.2 in
          by_values values (subst (λ r. Satisfies values r) (sym (pairing_rules_are file kind)) meets.rules) (subst (λ q. SatisfiesQuestion values q) (sym (pairing_lits_are file ms kind)) meets.moves)

  module _ (ms : List Move) where
    offered_possible : (c : Choice) (table : Table) → StandsRight file ms (c, Offered table) → IsPossible file ms c
    offered_possible c table h = (h.0, h.1, (table, h.2.legal, h.2.extends))

    excluded_not : (c : Choice) (closed : Closing) → StandsRight file ms (c, Excluded closed) → ¬ IsPossible file ms c
    excluded_not c closed h p =
        let move = same_item p.0 h.0 (sym p.1.1 ∙ h.1.1) in
        refuted_not (ms ++ h.0 ∷ []) closed h.2 (subst (λ m. IsCompletable file (ms ++ m ∷ [])) move p.2)

    held_not : (c : Choice) (holder : TeamId) → StandsRight file ms (c, Held holder) → ¬ IsPossible file ms c
    held_not c holder h p =
        let own : move_in (phase_of file ms) c ≡ Some (Positioned h.team h.position) = ap (λ x. move_in x c) h.phase ∙ ap (move_in (Position h.team)) h.choice in
        let move = same_item p.0 (Positioned h.team h.position) (sym p.1.1 ∙ own) in
        impossible file ms h.team h.group h.position h.stands (is_held file ms h.team h.group h.position holder h.holds)
        (subst (λ m. IsCompletable file (ms ++ m ∷ [])) move p.2)

    -- one candidate more
    pick_one : (c d : Choice) (s : Standing) (cs : List Choice) (ss : List (Choice × Standing)) → d ≡ c → StandsRight file ms (d, s)
        → Picks (IsPossible file ms) cs (offered ss) → Picks (IsPossible file ms) (c ∷ cs) (offered ((d, s) ∷ ss))
    pick_one c d (Offered table) cs ss same right rest =
        inl (subst (IsPossible file ms) same (offered_possible d table right), (offered ss, ap (λ x. x ∷ offered ss) same, rest))
    pick_one c d (Excluded closed) cs ss same right rest = inr (subst (λ x. ¬ IsPossible file ms x) same (excluded_not d closed right), rest)
    pick_one c d (Held holder) cs ss same right rest = inr (subst (λ x. ¬ IsPossible file ms x) same (held_not d holder right), rest)

    picks : (cs : List Choice) (ss : List (Choice × Standing)) → map (λ (x : Choice × Standing). x.0) ss ≡ cs → Each (StandsRight file ms) ss → Picks (IsPossible file ms) cs (offered ss)
    picks [] [] e h = tt
    picks [] (s ∷ ss) e h = cc
    picks (c ∷ cs) [] e h = cc
    picks (c ∷ cs) ((d, s) ∷ ss) e h =
        let same : d ≡ c = cc in
        let rest : map (λ (x : Choice × Standing). x.0) ss ≡ cs = cc in
        pick_one c d s cs ss same h.0 (picks cs ss rest h.1)

    pub exact_offer : (ss : List (Choice × Standing)) → map (λ (x : Choice × Standing). x.0) ss ≡ candidates file ms → Each (StandsRight file ms) ss → IsOffer file ms (offered ss)
    exact_offer ss choices h = picks (candidates file ms) ss choices h

-- ---- one standing more

module _ (ss : List (Choice × Standing)) (i : ℕ) (x : Choice × Standing) (within : i < length ss) (at : x ≡ get_or ss i x) where
  one_more : offered (take (i + 1) ss) ≡ offered (take i ss) ++ offered (x ∷ [])
  one_more =
      ap offered (take_more ss i x within) ∙ filter_map-append (λ (y : Choice × Standing). where_offered y.0 y.1) (take i ss) (get_or ss i x ∷ [])
      ∙ ap (λ y. offered (take i ss) ++ offered (y ∷ [])) (sym at)

  -- an offered choice is one more
  pub offered_more : (table : Table) → x.1 ≡ Offered table → offered (take (i + 1) ss) ≡ offered (take i ss) ++ x.0 ∷ []
  offered_more table is = one_more ∙ ap (λ o. offered (take i ss) ++ cons_option o []) (ap (where_offered x.0) is)

  -- another is none
  pub excluded_more : ((table : Table) → x.1 ≡ Offered table → ⊥) → offered (take (i + 1) ss) ≡ offered (take i ss)
  excluded_more not = one_more ∙ ap (λ o. offered (take i ss) ++ cons_option o []) (by_standing x.1 refl) ∙ append-nil (offered (take i ss))
    where
      by_standing : (s : Standing) → x.1 ≡ s → where_offered x.0 x.1 ≡ None
      by_standing (Offered table) is = absurd (not table is)
      by_standing (Excluded closed) is = ap (where_offered x.0) is
      by_standing (Held holder) is = ap (where_offered x.0) is
