-- Runs of balls that are taken: one ball, and one list of balls after another. How many balls a table has.
use Rattle.std.proofs.Common.{◌≡◌, ℕ, suc, ◌+◌, ◌*◌, ◌<◌, ◌≤◌, List, [], ◌∷◌, ◌++◌, length, Option, Some, None, arith, refl, sym, ap, ◌∙◌, subst, mul-suc}
use Rattle.std.specs.Prelude.{◌==◌, if◌then◌else◌, Bool, true, false, filter, flat_map, slice_get}
use Rattle.std.proofs.lemmas.List.{length-append}
use Rattle.std.proofs.lemmas.List.FromFn.{length-range_with_len}
use Rattle.std.proofs.lemmas.List.Sums.{length-filter}
use Rattle.team_files.specs.declared.team.Team.{Team}
use Rattle.rule_sets.specs.Files.{DrawFile}
use Rattle.draw_tables.specs.declared.group_place.GroupPlace.{GroupPlace}
use Rattle.draw_tables.specs.declared.moves.Move.{Move}
use Rattle.draw_tables.specs.declared.moves.Choice.{Choice}
use Rattle.draw_tables.specs.Lists.{IsAmong}
use Rattle.draw_tables.specs.Pots.{IsPot, teams_of_pot, groups_of, pots_of}
use Rattle.draw_tables.specs.GroupTables.{position_of, stands_in, IsLegalGroups}
use Rattle.draw_tables.proofs.Lists.{in_range}
use Rattle.draw_state.specs.declared.commands.Word.{Word}
use Rattle.draw_state.specs.declared.commands.Command.{Command}
use Rattle.draw_state.specs.declared.commands.Action.{Action}
use Rattle.draw_state.specs.declared.replies.Reply.{Reply}
use Rattle.draw_state.specs.Commands.{most_commands, IsAcceptedCommand, Adds}
use Rattle.draw_state.specs.Runs.{Reached, IsStep, IsRun}
use Rattle.draw_state.specs.TableBalls.{balls_of, team_balls, group_balls, pot_balls, table_balls, IsTaken, AreTaken, moves_after}
use Rattle.draw_state.proofs.Refusals.{one_choice}
use Rattle.draw_state.proofs.Outcomes.{not_both}
use Rattle.draw_state.proofs.Added.{one_added}

module _ (file : DrawFile) where
  -- ---- one ball

  -- the command is taken after the moves, and adds these
  pub record Takes (ms : List Move) (command : Command) (added : List Move) : Type 0 where
    pub choice : Choice
    pub accepted : (answered : ℕ) → answered < most_commands → IsAcceptedCommand file ms answered command (Action.Ball choice)
    pub adds : Adds file ms choice added

  -- so each step of it is one that takes it
  only_step : (ms added : List Move) (command : Command) (answered : ℕ) (new_ms : List Move) (reply : Reply) → answered < most_commands → Takes ms command added
      → IsStep file ms answered command new_ms reply → IsTaken reply × (new_ms ≡ ms ++ added)
  only_step ms added command answered new_ms (Reply.Refused refusal) below takes step =
      absurd (not_both file ms answered command (Action.Ball takes.choice) refusal (takes.accepted answered below) step.0)
  only_step ms added command answered new_ms (Reply.Taken also group next) below takes step =
      let same : step.0 ≡ takes.choice = one_choice file command step.0 takes.choice step.1.asks (takes.accepted answered below).asks in
      let adds : Adds file ms takes.choice also = subst (λ c. Adds file ms c also) same step.2 in
      (tt, step.3 ∙ ap (λ xs. ms ++ xs) (one_added file ms also added takes.choice adds takes.adds))

  -- ---- balls one after another

  -- after the moves each run of the commands takes each of them, and the moves after it have the property
  abbrev pub Leads : List Move → List Command → (List Move → Type 0) → Type 0
  Leads ms commands P = (answered : ℕ) (run : List Reached) → answered + length commands ≤ most_commands → IsRun file ms answered commands run
      → AreTaken run × P (moves_after ms run)

  pub lead_none : (ms : List Move) (P : List Move → Type 0) → P ms → Leads ms [] P
  lead_none ms P h answered [] few is_run = (tt, h)
  lead_none ms P h answered (x ∷ xs) few is_run = absurd is_run

  pub lead_one : (ms added : List Move) (command : Command) (commands : List Command) (P : List Move → Type 0)
      → Takes ms command added → Leads (ms ++ added) commands P → Leads ms (command ∷ commands) P
  lead_one ms added command commands P takes leads answered [] few is_run = absurd is_run
  lead_one ms added command commands P takes leads answered (x ∷ xs) few is_run =
      let only = only_step ms added command answered x.moves x.reply (omega arith) takes is_run.0 in
      let rest = leads (answered + 1) xs (omega arith) (subst (λ m. IsRun file m (answered + 1) commands xs) only.1 is_run.1) in
      ((only.0, rest.0), subst (λ m. P (moves_after m xs)) (sym only.1) rest.1)

  -- a run of two lists is one of the first, and one of the second behind it
  pub record IsSplit (ms : List Move) (answered : ℕ) (bs cs : List Command) (run : List Reached) : Type 0 where
    pub front : List Reached
    pub back : List Reached
    pub front_run : IsRun file ms answered bs front
    pub back_run : IsRun file (moves_after ms front) (answered + length bs) cs back
    pub all_taken : AreTaken front → AreTaken back → AreTaken run
    pub same_end : moves_after ms run ≡ moves_after (moves_after ms front) back

  split_run : (ms : List Move) (answered : ℕ) (bs cs : List Command) (run : List Reached) → IsRun file ms answered (bs ++ cs) run → IsSplit ms answered bs cs run
  split_run ms answered [] cs run h = record {
    front = [];
    back = run;
    front_run = tt;
    back_run = let n : answered ≡ answered + 0 = omega arith in subst (λ k. IsRun file ms k cs run) n h;
    all_taken = λ one other. other;
    same_end = refl;
  }
  split_run ms answered (b ∷ bs) cs [] h = absurd h
  split_run ms answered (b ∷ bs) cs (x ∷ xs) h =
      let rest = split_run x.moves (answered + 1) bs cs xs h.1 in
      let n : answered + 1 + length bs ≡ answered + length (b ∷ bs) = omega arith in
      record {
        front = x ∷ rest.front;
        back = rest.back;
        front_run = (h.0, rest.front_run);
        back_run = subst (λ k. IsRun file (moves_after x.moves rest.front) k cs rest.back) n rest.back_run;
        all_taken = λ one other. (one.0, rest.all_taken one.1 other);
        same_end = rest.same_end;
      }

  pub lead_both : (ms : List Move) (bs cs : List Command) (P Q : List Move → Type 0)
      → Leads ms bs P → ((later : List Move) → P later → Leads later cs Q) → Leads ms (bs ++ cs) Q
  lead_both ms bs cs P Q first second answered run few is_run =
      let n = length-append bs cs in
      let s = split_run ms answered bs cs run is_run in
      let one = first answered s.front (omega arith) s.front_run in
      let other = second (moves_after ms s.front) one.1 (answered + length bs) s.back (omega arith) s.back_run in
      (s.all_taken one.0 other.0, subst Q (sym s.same_end) other.1)

-- ---- how many balls

-- lists of at most c items joined, one for each item
joined_most : {A : Type 0} (f : A → List Command) (c : ℕ) (xs : List A) → ((x : A) → IsAmong xs x → length (f x) ≤ c) → length (flat_map f xs) ≤ c * length xs
joined_most f c [] h = omega arith
joined_most f c (x ∷ xs) h =
    let n = length-append (f x) (flat_map f xs) in
    let here = h x (0, refl) in
    let rest = joined_most f c xs (λ y among. h y (suc among.0, among.1)) in
    omega (arith, n, here, rest, mul-suc c (length xs))

team_most : (pot : ℕ) (o : Option Team) (p : Option ℕ) → length (balls_of pot o p) ≤ 2
team_most pot (Some team) (Some position) = go (pot == 1)
  where
    go : (b : Bool) → length (Command.Ball (Word.Team team.code) ∷ (if b then [] else Command.Ball (Word.Number position) ∷ [])) ≤ 2
    go true = omega arith
    go false = omega arith
team_most pot (Some team) None = omega arith
team_most pot None p = omega arith

-- a table of at most eight groups and four pots has at most 64 balls
module _ (file : DrawFile) (table : List GroupPlace) (legal : IsLegalGroups file table) where
  group_most : (pot group : ℕ) → group < file.groups → IsPot file pot → length (group_balls file table pot group) ≤ 2
  group_most pot group in_groups in_pots =
      let one = length-filter (stands_in table group) (teams_of_pot pot file) ∙ legal.pots group pot in_groups in_pots in
      let most = joined_most (team_balls file table pot) 2 (filter (stands_in table group) (teams_of_pot pot file)) (λ t among. team_most pot (slice_get file.teams t.0) (position_of table t)) in
      omega arith

  pot_most : (pot : ℕ) → file.groups ≤ 8 → IsPot file pot → length (pot_balls file table pot) ≤ 16
  pot_most pot few in_pots =
      let long = length-range_with_len 0 file.groups in
      let most = joined_most (group_balls file table pot) 2 (groups_of file) (λ g among. (let r = in_range 0 file.groups among.0 g among.1 in let high = r.1 in group_most pot g (omega arith) in_pots)) in
      omega arith

  pub few_balls : file.groups ≤ 8 → file.pots ≤ 4 → length (table_balls file table) < most_commands
  few_balls few also =
      let long = length-range_with_len 1 file.pots in
      let most = joined_most (pot_balls file table) 16 (pots_of file) (λ p among. (let r = in_range 1 file.pots among.0 p among.1 in let low = r.0 in let high = r.1 in pot_most p few (low, omega arith))) in
      omega arith
