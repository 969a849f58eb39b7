-- Steps and runs: they lead from states to states, name teams of the file, and are functions of the commands.
use Rattle.std.proofs.Common.{◌≡◌, ◌≢◌, ℕ, ◌+◌, ◌<◌, List, [], ◌∷◌, ◌++◌, Option, Result, Ok, Err, inl, inr, refl, sym, ap, subst, ◌∙◌, arith}
use Rattle.team_files.specs.declared.team_id.TeamId.{TeamId}
use Rattle.rule_sets.specs.Files.{DrawFile}
use Rattle.draw_tables.specs.declared.moves.Move.{Move}
use Rattle.draw_tables.specs.declared.moves.Choice.{Choice}
use Rattle.draw_tables.specs.declared.moves.Phase.{Phase}
use Rattle.draw_tables.specs.Names.{AreFileMoves, IsFilePhase}
use Rattle.draw_tables.specs.States.{phase_of, IsState}
use Rattle.draw_tables.specs.Offers.{IsOffer, IsCompletable}
use Rattle.draw_tables.proofs.NamedTeams.{states_name_teams}
use Rattle.draw_tables.proofs.OfferLaws.{one_offer}
use Rattle.draw_state.specs.declared.commands.Command.{Command}
use Rattle.draw_state.specs.declared.commands.Action.{Action}
use Rattle.draw_state.specs.declared.replies.NextLine.{NextLine}
use Rattle.draw_state.specs.declared.replies.Refusal.{Refusal}
use Rattle.draw_state.specs.declared.replies.Reply.{Reply}
use Rattle.draw_state.specs.Commands.{most_commands, Refuses, causes, IsAcceptedCommand, IsRefusedCommand, IsOutcome, Adds}
use Rattle.draw_state.specs.Runs.{Reached, IsNextLine, group_told, IsStep, IsRun}
use Rattle.draw_state.specs.Replies.{WaitsForBall, NoneWaitsForGroup, IsFileNextLine, IsFileGroup, IsFileReply}
use Rattle.draw_state.specs.Laws.{StatesStay, StepsBelowLimit, RepliesNameTeams, OneRun, OfferedIsAccepted}
use Rattle.draw_state.proofs.Refusals.{one_choice, one_first}
use Rattle.draw_state.proofs.GroupPhases.{none_at_opening}
use Rattle.draw_state.proofs.Added.{one_added, added_stay, added_completes, none_waits, some_added}
use Rattle.draw_state.proofs.ToldGroups.{told_named}
use Rattle.draw_state.proofs.Outcomes.{not_both, some_outcome, accepted_is_possible, offered_outcome}

-- ---- states

pub states_stay : StatesStay
states_stay file ms answered command new_ms (Reply.Refused refusal) state step = rw step.1 state
states_stay file ms answered command new_ms (Reply.Taken added group next) state step = rw step.3 (added_stay file ms added step.0 state step.2)

-- ---- the count of commands

-- the causes but for the limit do not look at the count
module _ (file : DrawFile) (ms : List Move) (n k : ℕ) (command : Command) (below : n < most_commands) (also : k < most_commands) where
  refused_alike : (r : Refusal) → IsRefusedCommand file ms n command r → IsRefusedCommand file ms k command r
  refused_alike r (inl (is, past)) = absurd (omega arith)
  refused_alike r (inr (in_time, rest)) = inr (λ past. absurd (omega arith), rest)

  accepted_alike : (a : Action) → IsAcceptedCommand file ms n command a → IsAcceptedCommand file ms k command a
  accepted_alike a h = record { asks = h.asks; nothing_refuses = none }
    where
      none : (r : Refusal) → ¬ Refuses file ms k command r
      none Refusal.Limit past = omega arith
      none Refusal.Form g = h.nothing_refuses Refusal.Form g
      none Refusal.Unknown g = h.nothing_refuses Refusal.Unknown g
      none Refusal.Complete g = h.nothing_refuses Refusal.Complete g
      none Refusal.Phase g = h.nothing_refuses Refusal.Phase g
      none Refusal.Excluded g = h.nothing_refuses Refusal.Excluded g

  step_alike : (new_ms : List Move) (reply : Reply) → IsStep file ms n command new_ms reply → IsStep file ms k command new_ms reply
  step_alike new_ms (Reply.Refused r) h = (refused_alike r h.0, h.1)
  step_alike new_ms (Reply.Taken added group next) h = (h.0, accepted_alike (Action.Ball h.0) h.1, h.2, h.3, h.4, h.5)

pub steps_below_limit : StepsBelowLimit
steps_below_limit file ms answered command new_ms reply below =
    (λ step k also. step_alike file ms answered k command below also new_ms reply step, λ step. step answered below)

-- ---- names

pub last_named : (file : DrawFile) (ms added : List Move) → AreFileMoves file (ms ++ added) → AreFileMoves file added
last_named file [] added h = h
last_named file (m ∷ ms) added h = last_named file ms added h.1

waits : (phase : Phase) → phase ≢ Phase.Complete → ((t : TeamId) → phase ≢ Phase.Group t) → WaitsForBall phase
waits Phase.Runner more none = tt
waits (Phase.Opponent r) more none = tt
waits (Phase.Team pot) more none = tt
waits (Phase.Group t) more none = none t refl
waits (Phase.Position t) more none = tt
waits Phase.Complete more none = more refl

pub next_named : (file : DrawFile) (ms : List Move) (next : NextLine) → IsState file ms → NoneWaitsForGroup file ms → IsNextLine file ms next
    → IsFileNextLine file next
next_named file ms NextLine.Complete state none h = tt
next_named file ms NextLine.Impossible state none h = tt
next_named file ms (NextLine.Choices phase choices) state none h = (
  waits phase h.1 (λ t e. none t (h.0 ∙ e)),
  subst (λ p. IsFilePhase file p) h.0 (states_name_teams.phase file ms state),
  states_name_teams.offer file ms choices h.3,
)

pub none_after : (file : DrawFile) (ms : List Move) (answered : ℕ) (command : Command) (new_ms : List Move) (reply : Reply)
    → NoneWaitsForGroup file ms → IsStep file ms answered command new_ms reply → NoneWaitsForGroup file new_ms
none_after file ms answered command new_ms (Reply.Refused refusal) none step = rw step.1 none
none_after file ms answered command new_ms (Reply.Taken added group next) none step = rw step.3 (none_waits file ms added step.0 step.2)

pub replies_name_teams : RepliesNameTeams
replies_name_teams = record {
  opening = none_at_opening;
  after = none_after;
  next = next_named;
  reply = named;
}
  where
    named : (file : DrawFile) (ms : List Move) (answered : ℕ) (command : Command) (new_ms : List Move) (reply : Reply)
        → IsState file ms → IsStep file ms answered command new_ms reply → IsFileReply file reply
    named file ms answered command new_ms (Reply.Refused refusal) state step = tt
    named file ms answered command new_ms (Reply.Taken added group next) state step =
        let later = added_stay file ms added step.0 state step.2 in
        let moves = states_name_teams.moves file (ms ++ added) later in
        let told = sym (step.4 ∙ ap (λ xs. group_told xs added) step.3) in (
          last_named file ms added moves,
          subst (IsFileGroup file added) told (told_named file ms added step.0 step.2 moves),
          next_named file new_ms next (rw step.3 later) (rw step.3 (none_waits file ms added step.0 step.2)) step.5,
        )

-- ---- one next line, one step, one run

pub one_next : (file : DrawFile) (ms : List Move) (x y : NextLine) → IsNextLine file ms x → IsNextLine file ms y → x ≡ y
one_next file ms NextLine.Complete NextLine.Complete h g = refl
one_next file ms NextLine.Complete NextLine.Impossible h g = absurd (g.0 h)
one_next file ms NextLine.Complete (NextLine.Choices p cs) h g = absurd (g.1 (sym g.0 ∙ h))
one_next file ms NextLine.Impossible NextLine.Complete h g = absurd (h.0 g)
one_next file ms NextLine.Impossible NextLine.Impossible h g = refl
one_next file ms NextLine.Impossible (NextLine.Choices p cs) h g = absurd (g.2 (one_offer file ms cs [] g.3 h.1))
one_next file ms (NextLine.Choices p cs) NextLine.Complete h g = absurd (h.1 (sym h.0 ∙ g))
one_next file ms (NextLine.Choices p cs) NextLine.Impossible h g = absurd (h.2 (one_offer file ms cs [] h.3 g.1))
one_next file ms (NextLine.Choices p cs) (NextLine.Choices q ds) h g =
    let phase : p ≡ q = sym h.0 ∙ g.0 in
    let choices : cs ≡ ds = one_offer file ms cs ds h.3 g.3 in
    ap (λ x. NextLine.Choices x cs) phase ∙ ap (λ xs. NextLine.Choices q xs) choices

module _ (file : DrawFile) (ms : List Move) (answered : ℕ) (command : Command) where
  pub one_step : (a b : List Move) (r s : Reply) → IsStep file ms answered command a r → IsStep file ms answered command b s → (a ≡ b) × (r ≡ s)
  one_step a b (Reply.Refused r) (Reply.Refused s) h g =
      (h.1 ∙ sym g.1, ap (λ x. Reply.Refused x) (one_first (Refuses file ms answered command) causes r s h.0 g.0))
  one_step a b (Reply.Refused r) (Reply.Taken added group next) h g = absurd (not_both file ms answered command (Action.Ball g.0) r g.1 h.0)
  one_step a b (Reply.Taken added group next) (Reply.Refused r) h g = absurd (not_both file ms answered command (Action.Ball h.0) r h.1 g.0)
  one_step a b (Reply.Taken added group next) (Reply.Taken also other later) h g =
      let same : h.0 ≡ g.0 = one_choice file command h.0 g.0 h.1.asks g.1.asks in
      let first : Adds file ms g.0 added = subst (λ c. Adds file ms c added) same h.2 in
      let moves : added ≡ also = one_added file ms added also g.0 first g.2 in
      let new : a ≡ b = h.3 ∙ ap (λ xs. ms ++ xs) moves ∙ sym g.3 in
      let told : group ≡ other = h.4 ∙ ap (λ xs. group_told xs added) new ∙ ap (group_told b) moves ∙ sym g.4 in
      let there : IsNextLine file b next = subst (λ xs. IsNextLine file xs next) new h.5 in
      let follows : next ≡ later = one_next file b next later there g.5 in
      (new, ap (λ xs. Reply.Taken xs group next) moves ∙ ap (λ o. Reply.Taken also o next) told ∙ ap (λ x. Reply.Taken also other x) follows)

pub one_run : (file : DrawFile) (ms : List Move) (answered : ℕ) (commands : List Command) (xs ys : List Reached)
    → IsRun file ms answered commands xs → IsRun file ms answered commands ys → xs ≡ ys
one_run file ms answered [] [] [] h g = refl
one_run file ms answered [] [] (y ∷ ys) h g = absurd g
one_run file ms answered [] (x ∷ xs) ys h g = absurd h
one_run file ms answered (command ∷ commands) [] ys h g = absurd h
one_run file ms answered (command ∷ commands) (x ∷ xs) [] h g = absurd g
one_run file ms answered (command ∷ commands) (x ∷ xs) (y ∷ ys) h g =
    let same = one_step file ms answered command x.moves y.moves x.reply y.reply h.0 g.0 in
    let rest : IsRun file x.moves (answered + 1) commands ys = subst (λ m. IsRun file m (answered + 1) commands ys) (sym same.0) g.1 in
    let here : x ≡ y = ap (λ m. record { moves = m; reply = x.reply }) same.0 ∙ ap (λ r. record { moves = y.moves; reply = r }) same.1 in
    ap (λ z. z ∷ xs) here ∙ ap (λ zs. y ∷ zs) (one_run file x.moves (answered + 1) commands xs ys h.1 rest)

-- ---- there is a next line, a step, a run

pub some_next : (file : DrawFile) (ms : List Move) (offered : List Choice) → IsOffer file ms offered → (next : NextLine) × IsNextLine file ms next
some_next file ms offered offer = go (phase_of file ms) refl offered offer
  where
    goes_on : (phase : Phase) → phase_of file ms ≡ phase → phase ≢ Phase.Complete → (os : List Choice) → IsOffer file ms os → (next : NextLine) × IsNextLine file ms next
    goes_on phase is more [] h = (NextLine.Impossible, (λ end. more (sym is ∙ end), h))
    goes_on phase is more (c ∷ cs) h = (NextLine.Choices phase (c ∷ cs), (is, more, λ none. cc, h))

    go : (phase : Phase) → phase_of file ms ≡ phase → (os : List Choice) → IsOffer file ms os → (next : NextLine) × IsNextLine file ms next
    go Phase.Complete is os h = (NextLine.Complete, is)
    go Phase.Runner is os h = goes_on Phase.Runner is (λ e. cc) os h
    go (Phase.Opponent r) is os h = goes_on (Phase.Opponent r) is (λ e. cc) os h
    go (Phase.Team pot) is os h = goes_on (Phase.Team pot) is (λ e. cc) os h
    go (Phase.Group t) is os h = goes_on (Phase.Group t) is (λ e. cc) os h
    go (Phase.Position t) is os h = goes_on (Phase.Position t) is (λ e. cc) os h

module _ (file : DrawFile) (offers : (later : List Move) → IsState file later → (offered : List Choice) × IsOffer file later offered) where
  some_step : (ms : List Move) (answered : ℕ) (command : Command) → IsState file ms → (x : Reached) × IsStep file ms answered command x.moves x.reply
  some_step ms answered command state = from (some_outcome file ms answered command (offers ms state).0 (offers ms state).1)
    where
      from : ((v : Result Action Refusal) × IsOutcome file ms answered command v) → (x : Reached) × IsStep file ms answered command x.moves x.reply
      from (Err r, h) = (record { moves = ms; reply = Reply.Refused r }, (h, refl))
      from (Ok (Action.Ball c), h) =
          let possible = accepted_is_possible file ms answered command (offers ms state).0 (offers ms state).1 c h in
          let added = some_added file ms c state possible offers in
          let after = added_stay file ms added.0 c state added.1 in
          let offer = offers (ms ++ added.0) after in
          let next = some_next file (ms ++ added.0) offer.0 offer.1 in
          let told = group_told (ms ++ added.0) added.0 in
          (record { moves = ms ++ added.0; reply = Reply.Taken added.0 told next.0 }, (c, h, added.1, refl, refl, next.1))

  pub some_run : (ms : List Move) (answered : ℕ) (commands : List Command) → IsState file ms → (xs : List Reached) × IsRun file ms answered commands xs
  some_run ms answered [] state = ([], tt)
  some_run ms answered (command ∷ commands) state =
      let x = some_step ms answered command state in
      let after = states_stay file ms answered command x.0.moves x.0.reply state x.1 in
      let rest = some_run x.0.moves (answered + 1) commands after in
      (x.0 ∷ rest.0, (x.1, rest.1))

-- ---- what is offered is accepted, and can be completed

taken_completes : (file : DrawFile) (ms : List Move) (offered : List Choice) (answered : ℕ) (command : Command) (new_ms added : List Move) (group : Option ℕ) (next : NextLine)
    → IsOffer file ms offered → IsStep file ms answered command new_ms (Reply.Taken added group next) → IsCompletable file new_ms
taken_completes file ms offered answered command new_ms added group next offer step =
    let possible = accepted_is_possible file ms answered command offered offer step.0 step.1 in
    rw step.3 (added_completes file ms added step.0 possible step.2)

pub offered_is_accepted : OfferedIsAccepted
offered_is_accepted = record {
  accepted = offered_outcome;
  completable = taken_completes;
}

pub one_run_law : OneRun
one_run_law = record {
  one_next = one_next;
  one_step = λ file ms answered command a b r s h g. one_step file ms answered command a b r s h g;
  one = one_run;
  some_next = some_next;
  some = λ file ms answered commands offers state. some_run file offers ms answered commands state;
}
