-- The offers that a command needs: one by one, how many, and the states that they are of.
use Rattle.std.proofs.Common.{◌≡◌, ◌≢◌, ℕ, ◌<◌, ◌≤◌, List, [], ◌∷◌, ◌++◌, ◌⊎◌, inl, inr, length, drop, Ok, Err, refl, sym, ap, ◌∙◌, subst, arith, append_assoc}
use Rattle.std.proofs.lemmas.Bool.{cases_lt}
use Rattle.std.proofs.Math.Seq.{drop-append_seam}
use Rattle.team_files.specs.declared.team_id.TeamId.{TeamId}
use Rattle.rule_sets.specs.Files.{DrawFile}
use Rattle.draw_tables.specs.declared.moves.Move.{Move}
use Rattle.draw_tables.specs.declared.moves.Choice.{Choice}
use Rattle.draw_tables.specs.declared.moves.Phase.{Phase}
use Rattle.draw_tables.specs.States.{phase_of, move_in}
use Rattle.draw_tables.specs.Offers.{IsCompletable}
use Rattle.draw_tables.proofs.Lists.{same_item}
use Rattle.draw_state.specs.declared.commands.Command.{Command}
use Rattle.draw_state.specs.declared.commands.Action.{Action}
use Rattle.draw_state.specs.State.{State}
use Rattle.draw_state.specs.Commands.{most_commands, AddsOfItself, Adds, IsFirstPossibleGroup}
use Rattle.draw_state.specs.Laws.{OneOutcome}
use Rattle.draw_state.proofs.Added.{one_added}
use Rattle.draw_state.proofs.GroupPhases.{none_when_placed}
use Rattle.offer_engine.specs.Turns.{LeadsTo, Needs, ReadyOrWaiting, OneWanted, state_with, states_of, states_through}
use Rattle.offer_engine.specs.Courses.{TakesGroup}

-- ---- lists and states

module _ {A : Type 0} where
  pub same_head : (x y : A) (xs ys : List A) → x ∷ xs ≡ y ∷ ys → x ≡ y
  same_head x y xs ys e = cc

  pub same_tail : (x y : A) (xs ys : List A) → x ∷ xs ≡ y ∷ ys → xs ≡ ys
  same_tail x y xs ys e = cc

  -- lists that are the same before an item and have the same whole have the same item
  item_after : (xs : List A) (a b : A) (more others : List A) → xs ++ a ∷ more ≡ xs ++ b ∷ others → a ≡ b
  item_after [] a b more others e = same_head a b more others e
  item_after (x ∷ xs) a b more others e = item_after xs a b more others (same_tail x x (xs ++ a ∷ more) (xs ++ b ∷ others) e)

  -- a list is not itself with more
  not_longer : (xs : List A) (a : A) (more : List A) → xs ≢ xs ++ a ∷ more
  not_longer [] a more e = cc
  not_longer (x ∷ xs) a more e = not_longer xs a more (same_tail x x xs (xs ++ a ∷ more) e)

  pub same_rest : (xs ys zs : List A) → xs ++ ys ≡ xs ++ zs → ys ≡ zs
  same_rest xs ys zs e = sym (drop-append_seam xs ys) ∙ ap (drop (length xs)) e ∙ drop-append_seam xs zs

-- the state with one more move
pub with_move : (state later : State) (m : Move) → later.file ≡ state.file → later.moves ≡ state.moves ++ m ∷ [] → later ≡ state_with state (m ∷ [])
with_move state later m file moves =
    let R : DrawFile → List Move → State = λ f ms. record { file = f; moves = ms } in
    ap (λ f. R f later.moves) file ∙ ap (R state.file) moves

-- ---- what a command needs is one list

module _ (law : OneOutcome) (state : State) (command : Command) where
  one_needed : (x y : State) (xs ys : List State) → Needs state command (x ∷ xs) → Needs state command (y ∷ ys) → x ∷ xs ≡ y ∷ ys
  one_needed x y xs ys h g =
      let below : 0 < most_commands = omega arith in
      let c = h.1.0 in
      let d = g.1.0 in
      let both : Ok (Action.Ball c) ≡ Ok (Action.Ball d) = law.one state.file state.moves 0 command (Ok (Action.Ball c)) (Ok (Action.Ball d)) (h.1.1 0 below) (g.1.1 0 below) in
      let choice : d ≡ c = cc in
      let adds = subst (λ k. Adds state.file state.moves k g.0) choice g.1.2 in
      let added = one_added state.file state.moves h.0 g.0 c h.1.2 adds in
      h.2 ∙ ap (states_through state) added ∙ sym g.2

  needs_one : (xs : List State) (next : State) (more : List State) → Needs state command xs → Needs state command (xs ++ next ∷ more) → ⊥
  needs_one [] next more refused needs =
      let below : 0 < most_commands = omega arith in
      let both = law.one state.file state.moves 0 command (Err refused.0) (Ok (Action.Ball needs.1.0)) (refused.1 0 below) (needs.1.1 0 below) in
      cc
  needs_one (x ∷ xs) next more h g = not_longer (x ∷ xs) next more (one_needed x x xs (xs ++ next ∷ more) h g)

  needs_state : (xs : List State) (a b : State) (more others : List State) → Needs state command (xs ++ a ∷ more) → Needs state command (xs ++ b ∷ others) → a ≡ b
  needs_state [] a b more others h g = same_head a b more others (one_needed a b more others h g)
  needs_state (x ∷ xs) a b more others h g = item_after (x ∷ xs) a b more others (one_needed x x (xs ++ a ∷ more) (xs ++ b ∷ others) h g)

pub ready_or_waiting : OneOutcome → ReadyOrWaiting
ready_or_waiting law turn next ready wants =
    needs_one law turn.before.state turn.command (states_of turn.given) next wants.0 ready wants.1

pub one_wanted : OneOutcome → OneWanted
one_wanted law turn a b h g = needs_state law turn.before.state turn.command (states_of turn.given) a b h.0 g.0 h.1 g.1

-- ---- the last state

-- the last state that moves lead through is the one with them all
last_state : (state : State) (added : List Move) (xs : List State) (next : State) → xs ++ next ∷ [] ≡ states_through state added → next ≡ state_with state added
last_state state [] [] next e = cc
last_state state [] (x ∷ xs) next e = cc
last_state state (m ∷ []) [] next e = same_head next (state_with state (m ∷ [])) [] [] e
last_state state (m ∷ n ∷ ms) [] next e = cc
last_state state (m ∷ ms) (x ∷ xs) next e =
    let here = state_with state (m ∷ []) in
    let rest = last_state here ms xs next (same_tail x here (xs ++ next ∷ []) (states_through here ms) e) in
    let parts : (state.moves ++ m ∷ []) ++ ms ≡ state.moves ++ m ∷ ms = rw append_assoc refl in
    rest ∙ ap (λ all. record { file = state.file; moves = all }) parts

pub needs_leads : (state : State) (command : Command) (xs : List State) (next : State) → Needs state command (xs ++ next ∷ []) → LeadsTo state command next
needs_leads state command [] next h = (h.0, h.1, last_state state h.0 [] next h.2)
needs_leads state command (x ∷ xs) next h = (h.0, h.1, last_state state h.0 (x ∷ xs) next h.2)

-- ---- one after another

-- After the state no other is needed, and no team waits there for its group; or a team does, and only the state in which it
-- has the group is needed after it.
abbrev pub GoesOn : State → List State → Type 0
GoesOn state more =
    ((more ≡ []) × ((t : TeamId) → phase_of state.file state.moves ≢ Phase.Group t))
    ⊎ ((next : State) × TakesGroup state next × (more ≡ next ∷ []))

goes_by : (state : State) (rest : List Move) (more : List State) (p : Phase) → phase_of state.file state.moves ≡ p → AddsOfItself state.file state.moves p rest
    → more ≡ states_through state rest → GoesOn state more
goes_by state rest more Phase.Runner e h is = inl (is ∙ ap (states_through state) h, λ t g. cc)
goes_by state rest more (Phase.Opponent r) e h is = inl (is ∙ ap (states_through state) h, λ t g. cc)
goes_by state rest more (Phase.Team pot) e h is = inl (is ∙ ap (states_through state) h, λ t g. cc)
goes_by state rest more (Phase.Position t) e h is = inl (is ∙ ap (states_through state) h, λ t g. cc)
goes_by state rest more Phase.Complete e h is = inl (is ∙ ap (states_through state) h, λ t g. cc)
goes_by state rest more (Phase.Group t) e h is =
    let next = state_with state (Move.Placed t h.0 ∷ []) in
    let takes : TakesGroup state next = record { team = t; group = h.0; waits = e; first = h.1; next_is = refl } in
    inr (next, takes, is ∙ ap (states_through state) h.2)

module _ (state : State) (command : Command) where
  pub goes_on : (next : State) (more : List State) → Needs state command (next ∷ more) → GoesOn next more
  goes_on next more h =
      let adds = h.1.2 in
      let here = state_with state (adds.0 ∷ []) in
      let e : next ∷ more ≡ here ∷ states_through here adds.1 = h.2 ∙ ap (states_through state) adds.4 in
      let first = same_head next here more (states_through here adds.1) e in
      let later = same_tail next here more (states_through here adds.1) e in
      let follows = subst (λ s. AddsOfItself s.file s.moves (phase_of s.file s.moves) adds.1) (sym first) adds.3 in
      goes_by next adds.1 more (phase_of next.file next.moves) refl follows (later ∙ ap (λ s. states_through s adds.1) (sym first))

  -- where two are needed, a team waits for its group in the first state, and not in the second, which is the last
  pub takes_second : (first next : State) (more : List State) → Needs state command (first ∷ next ∷ more) → TakesGroup first next × (more ≡ [])
  takes_second first next more h = go (goes_on first (next ∷ more) h)
    where
      go : GoesOn first (next ∷ more) → TakesGroup first next × (more ≡ [])
      go (inl (none, not)) = cc
      go (inr (other, takes, is)) = (subst (TakesGroup first) (sym (same_head next other more [] is)) takes, same_tail next other more [] is)

-- the team that has taken its group does not wait for one
pub none_after_group : (first next : State) → TakesGroup first next → (t : TeamId) → phase_of next.file next.moves ≢ Phase.Group t
none_after_group first next takes t waits =
    none_when_placed first.file first.moves takes.team t takes.group takes.waits (subst (λ s. phase_of s.file s.moves ≡ Phase.Group t) takes.next_is waits)

-- ---- the group that a team takes

same_group : (file : DrawFile) (ms : List Move) (g k : ℕ) → IsFirstPossibleGroup file ms g → IsFirstPossibleGroup file ms k → g ≡ k
same_group file ms g k h f = go (cases_lt g k) (cases_lt k g)
  where
    go : (g < k) ⊎ (k ≤ g) → (k < g) ⊎ (g ≤ k) → g ≡ k
    go (inl lt) other = absurd (f.before g lt h.possible)
    go (inr le) (inl lt) = absurd (h.before k lt f.possible)
    go (inr le) (inr ge) = omega arith

-- it is one
pub one_taken : (state a b : State) → TakesGroup state a → TakesGroup state b → a ≡ b
one_taken state a b h g =
    let phase : Phase.Group h.team ≡ Phase.Group g.team = sym h.waits ∙ g.waits in
    let team : h.team ≡ g.team = cc in
    let group = same_group state.file state.moves h.group g.group h.first g.first in
    let move : Move.Placed h.team h.group ≡ Move.Placed g.team g.group = ap (λ t. Move.Placed t h.group) team ∙ ap (λ k. Move.Placed g.team k) group in
    h.next_is ∙ ap (λ m. state_with state (m ∷ [])) move ∙ sym g.next_is

-- the state with it can be completed
pub group_completes : (state next : State) → TakesGroup state next → IsCompletable next.file next.moves
group_completes state next takes =
    let possible = takes.first.possible in
    let c = Choice.Group takes.group in
    let m = Move.Placed takes.team takes.group in
    let is : possible.0 ≡ m = same_item possible.0 m (sym possible.1.1 ∙ ap (λ p. move_in p c) takes.waits) in
    let all = subst (λ n. IsCompletable state.file (state.moves ++ n ∷ [])) is possible.2 in
    subst (λ s. IsCompletable s.file s.moves) (sym takes.next_is) all
