-- A state has few candidates and few moves: each move takes a team from those that are left.
use Rattle.std.proofs.Common.{◌≡◌, ℕ, zero, suc, ◌+◌, ◌-◌, Option, None, ◌<◌, ◌≤◌, ◌^◌, Bool, true, false, not, cond, List, [], ◌∷◌, ◌++◌, length, map, Some, slice_get, refl, sym, ap, ◌∙◌, subst, append-nil, append_assoc, arith}
use Rattle.std.specs.Prelude.{◌==◌, ◌||◌, count_by}
use Rattle.std.specs.List.{list_any, filter, range_with_len}
use Rattle.std.specs.Option.{is_some, option_or}
use Rattle.std.proofs.lemmas.Bool.{eq-eqb, not-true, or_from}
use Rattle.std.proofs.lemmas.List.Folds.{list_any-append}
use Rattle.std.proofs.lemmas.List.{length-map}
use Rattle.std.proofs.lemmas.List.FromFn.{length-range_with_len}
use Rattle.std.proofs.lemmas.List.Sums.{length-filter, count_by-le-length}
use Rattle.team_files.specs.declared.kind.Kind.{Kind}
use Rattle.team_files.specs.declared.team_id.TeamId.{TeamId}
use Rattle.team_files.specs.Heads.{most_teams}
use Rattle.rule_sets.specs.Files.{DrawFile}
use Rattle.rule_sets.specs.Forms.{HasForm}
use Rattle.count_core.proofs.Lists.{count_cons, count_le}
use Rattle.draw_tables.specs.declared.moves.Move.{Move}
use Rattle.draw_tables.specs.declared.moves.Move.TheVariants.{Drawn, Placed, Positioned, Paired}
use Rattle.draw_tables.specs.declared.moves.Choice.{Choice}
use Rattle.draw_tables.specs.declared.moves.Choice.TheVariants as choice
use Rattle.draw_tables.specs.declared.moves.Choice.TheVariants.{Team}
use Rattle.draw_tables.specs.declared.moves.Phase.{Phase}
use Rattle.draw_tables.specs.declared.moves.Phase.TheVariants as phase
use Rattle.draw_tables.specs.declared.moves.Phase.TheVariants.{Runner, Opponent, Complete}
use Rattle.draw_tables.specs.Lists.{IsAmong}
use Rattle.draw_tables.specs.Moves.{draws, is_drawn, last_of, group_by, group_in, position_by, position_in}
use Rattle.draw_tables.specs.Pots.{runners_up, winners, teams_of_pot, pot_of, groups_of, later_positions, IsTeamOf}
use Rattle.draw_tables.specs.GroupPhases.{undrawn_of_pot, has_placed, open_groups, groups_for}
use Rattle.draw_tables.specs.PairingPhases.{is_paired, pairs_winner, undrawn_runners_up, unpaired_winners}
use Rattle.draw_tables.specs.States.{phase_of, candidates, candidates_in, move_in, IsCandidateMove, AreMovesAfter, IsState}
use Rattle.draw_tables.proofs.Numbers.{same_id}
use Rattle.draw_tables.proofs.Lists.{map_at, none_among, range_has, same_item}
use Rattle.draw_tables.proofs.StateMoves.{state_and_move}
use Rattle.draw_tables.proofs.PotMembers.{among_choices, among_kept, kept_among}
use Rattle.group_draw.proofs.StateMoves.{SaysOnce, state_says}
use Rattle.pairing_draw.proofs.FormedRules.{few_teams}
use Rattle.offer_engine.proofs.Phases.{Tells, phase_tells}

-- ---- counts

bits : (a b : Bool) → (a ≡ true → b ≡ true) → cond a 1 0 ≤ cond b 1 0
bits true b h = rw (h refl) (omega arith)
bits false b h = omega arith

-- where one item passes p and not q, and no other passes q alone, fewer pass q
count_lt : {A : Type 0} (p q : A → Bool) → ((x : A) → q x ≡ true → p x ≡ true) → (xs : List A) (k : ℕ) (x : A)
    → slice_get xs k ≡ Some x → p x ≡ true → q x ≡ false → count_by q xs < count_by p xs
count_lt p q less [] k x e holds fails = cc
count_lt p q less (y ∷ ys) zero x e holds fails =
    let same = same_item y x e in
    let some : ◌≡◌ {A = ℕ} (cond (p y) 1 0) 1 = rw (ap p same ∙ holds) refl in
    let none : ◌≡◌ {A = ℕ} (cond (q y) 1 0) 0 = rw (ap q same ∙ fails) refl in
    omega (arith, some, none, count_le q p ys less, count_cons p y ys, count_cons q y ys)
count_lt p q less (y ∷ ys) (suc k) x e holds fails =
    omega (arith, count_lt p q less ys k x e holds fails, bits (q y) (p y) (less y), count_cons p y ys, count_cons q y ys)

-- ---- those that are left

fewer : (a b : Bool) → not (a || b) ≡ true → not a ≡ true
fewer true b e = e
fewer false b e = refl

gone : (a : Bool) → not (a || (true || false)) ≡ false
gone true = refl
gone false = refl

-- what no move does to a team, with one more
module _ (does : TeamId → Move → Bool) (ms : List Move) (m : Move) where
  abbrev before_it : TeamId → Bool
  before_it t = not (list_any (does t) ms)

  abbrev after_it : TeamId → Bool
  after_it t = not (list_any (does t) (ms ++ m ∷ []))

  keeps : (t : TeamId) → after_it t ≡ true → before_it t ≡ true
  keeps t e = fewer (list_any (does t) ms) (does t m || false) (rw (list_any-append (does t) ms (m ∷ [])) at e)

  no_more : (teams : List TeamId) → length (filter after_it teams) ≤ length (filter before_it teams)
  no_more teams = omega (arith, length-filter after_it teams, length-filter before_it teams, count_le after_it before_it teams keeps)

  one_less : (teams : List TeamId) (t : TeamId) → IsAmong (filter before_it teams) t → does t m ≡ true
      → length (filter after_it teams) < length (filter before_it teams)
  one_less teams t among done =
      let found = among_kept before_it teams t among in
      let now : after_it t ≡ false = rw (list_any-append (does t) ms (m ∷ []), done) (gone (list_any (does t) ms)) in
      omega (arith, length-filter after_it teams, length-filter before_it teams, count_lt before_it after_it keeps teams found.1.0 t found.1.1 found.0 now)

-- ---- what a pairing has left

-- the runners-up that are undrawn and the winners that are unpaired
abbrev pairing_left : DrawFile → List Move → ℕ
pairing_left file ms = length (undrawn_runners_up file ms) + length (unpaired_winners file ms)

-- each move leaves less
module _ (file : DrawFile) (ms : List Move) (kind : file.kind ≡ Kind.Pairing) where
  in_pairing : (p : Phase) → Tells file ms p → (c : Choice) (m : Move) → IsAmong (candidates_in file ms p) c → move_in p c ≡ Some m → pairing_left file (ms ++ m ∷ []) < pairing_left file ms
  in_pairing (phase.Team pot) told c m among e = let other = sym kind ∙ told in cc
  in_pairing (phase.Group t) told c m among e = let other = sym kind ∙ told.0 in cc
  in_pairing (phase.Position t) told c m among e = let other = sym kind ∙ told.0 in cc
  in_pairing Runner told (choice.Group g) m among e = cc
  in_pairing Runner told (choice.Position n) m among e = cc
  in_pairing (Opponent r) told (choice.Group g) m among e = cc
  in_pairing (Opponent r) told (choice.Position n) m among e = cc
  in_pairing Runner told (Team t) m among e =
      let drawn : pairing_left file (ms ++ Drawn t ∷ []) < pairing_left file ms =
      omega (arith, one_less draws ms (Drawn t) (runners_up file) t (among_choices (undrawn_runners_up file ms) t among) (eq-eqb t.0 t.0 refl), no_more pairs_winner ms (Drawn t) (winners file)) in
      subst (λ n. pairing_left file (ms ++ n ∷ []) < pairing_left file ms) (same_item (Drawn t) m e) drawn
  in_pairing (Opponent r) told (Team t) m among e =
      let paired : pairing_left file (ms ++ Paired r t ∷ []) < pairing_left file ms =
      omega (arith, one_less pairs_winner ms (Paired r t) (winners file) t (among_choices (unpaired_winners file ms) t among) (eq-eqb t.0 t.0 refl), no_more draws ms (Paired r t) (runners_up file)) in
      subst (λ n. pairing_left file (ms ++ n ∷ []) < pairing_left file ms) (same_item (Paired r t) m e) paired
  in_pairing Complete told c m among e = absurd (none_among c among)

  pairing_leaves : (m : Move) → IsCandidateMove file ms m → pairing_left file (ms ++ m ∷ []) < pairing_left file ms
  pairing_leaves m h = in_pairing (phase_of file ms) (phase_tells file ms) h.0 m h.1.0 h.1.1

-- ---- what a group draw has left

-- the teams of the file
abbrev team_at : ℕ → TeamId
team_at i = record { 0 = i }

abbrev all_teams : DrawFile → List TeamId
all_teams file = map team_at (range_with_len 0 (length file.teams))

-- the move gives the team a number: its group, or its position
abbrev gives : (TeamId → Move → Option ℕ) → TeamId → Move → Bool
gives by t m = is_some (by t m)

-- those to which no move does this
abbrev left_of : (TeamId → Move → Bool) → DrawFile → List Move → ℕ
left_of does file ms = length (filter (λ t. not (list_any (does t) ms)) (all_teams file))

-- the teams that are undrawn, those that have no group and those that have no position
abbrev group_left : DrawFile → List Move → ℕ
group_left file ms = left_of draws file ms + (left_of (gives group_by) file ms + left_of (gives position_by) file ms)

-- no move gave what the moves do not say
not_given : (by : TeamId → Move → Option ℕ) (t : TeamId) (ms : List Move) → last_of (by t) ms ≡ None → list_any (gives by t) ms ≡ false
not_given by t [] e = refl
not_given by t (m ∷ ms) e =
    let none = neither (last_of (by t) ms) (by t m) e in
    or_from (gives by t m) (list_any (gives by t) ms) (ap is_some none.1) (not_given by t ms none.0)
  where
    neither : (o p : Option ℕ) → option_or o p ≡ None → (o ≡ None) × (p ≡ None)
    neither None p f = (refl, f)
    neither (Some n) p f = cc

last_is : (ms : List Move) (m : Move) → IsAmong (ms ++ m ∷ []) m
last_is [] m = (0, refl)
last_is (n ∷ ms) m = let rest = last_is ms m in (suc rest.0, rest.1)

team_among : (file : DrawFile) (t : TeamId) → IsTeamOf file t → IsAmong (all_teams file) t
team_among file t within =
    let there = range_has 0 (length file.teams) t.0 (omega arith) (omega arith) in
    (there.0, map_at team_at (range_with_len 0 (length file.teams)) there.0 t.0 there.1 ∙ ap Some (same_id (team_at t.0) t refl))

module _ (file : DrawFile) (ms : List Move) (kind : file.kind ≡ Kind.Group) where
  abbrev LeavesLess : Move → Type 0
  LeavesLess m = group_left file (ms ++ m ∷ []) < group_left file ms

  -- a team to which this was not done is one of those that are left
  module _ (does : TeamId → Move → Bool) (t : TeamId) (of_file : IsTeamOf file t) (undone : list_any (does t) ms ≡ false) where
    fewer_left : (m : Move) → does t m ≡ true → left_of does file (ms ++ m ∷ []) < left_of does file ms
    fewer_left m done =
        let among = kept_among (λ s. not (list_any (does s) ms)) (all_teams file) t (team_among file t of_file) (ap not undone) in
        one_less does ms m (all_teams file) t among done

  drawn_leaves : (t : TeamId) → IsTeamOf file t → is_drawn t ms ≡ false → LeavesLess (Drawn t)
  drawn_leaves t of_file undrawn =
      omega (arith, fewer_left draws t of_file undrawn (Drawn t) (eq-eqb t.0 t.0 refl), no_more (gives group_by) ms (Drawn t) (all_teams file), no_more (gives position_by) ms (Drawn t) (all_teams file))

  placed_leaves : (t : TeamId) (group : ℕ) → IsTeamOf file t → group_in ms t ≡ None → LeavesLess (Placed t group)
  placed_leaves t group of_file none =
      let own : (t.0 == t.0) ≡ true = eq-eqb t.0 t.0 refl in
      let given : gives group_by t (Placed t group) ≡ true = rw own refl in
      omega (arith, fewer_left (gives group_by) t of_file (not_given group_by t ms none) (Placed t group) given, no_more draws ms (Placed t group) (all_teams file), no_more (gives position_by) ms (Placed t group) (all_teams file))

  positioned_leaves : (t : TeamId) (position : ℕ) → IsTeamOf file t → position_in ms t ≡ None → LeavesLess (Positioned t position)
  positioned_leaves t position of_file none =
      let own : (t.0 == t.0) ≡ true = eq-eqb t.0 t.0 refl in
      let given : gives position_by t (Positioned t position) ≡ true = rw own refl in
      omega (arith, fewer_left (gives position_by) t of_file (not_given position_by t ms none) (Positioned t position) given, no_more draws ms (Positioned t position) (all_teams file), no_more (gives group_by) ms (Positioned t position) (all_teams file))

  -- where the moves with the candidate's own say of each team one group and one position
  in_group_draw : (p : Phase) → Tells file ms p → (c : Choice) (m : Move) → IsAmong (candidates_in file ms p) c → move_in p c ≡ Some m → SaysOnce file (ms ++ m ∷ []) → LeavesLess m
  in_group_draw Runner told c m among e says = let other = sym kind ∙ told in cc
  in_group_draw (Opponent r) told c m among e says = let other = sym kind ∙ told in cc
  in_group_draw (phase.Team pot) told (choice.Group g) m among e says = cc
  in_group_draw (phase.Team pot) told (choice.Position n) m among e says = cc
  in_group_draw (phase.Group t) told (Team s) m among e says = cc
  in_group_draw (phase.Group t) told (choice.Position n) m among e says = cc
  in_group_draw (phase.Position t) told (Team s) m among e says = cc
  in_group_draw (phase.Position t) told (choice.Group g) m among e says = cc
  in_group_draw (phase.Team pot) told (Team t) m among e says =
      let is : Drawn t ≡ m = same_item (Drawn t) m e in
      let kept = among_kept (λ s. not (is_drawn s ms)) (teams_of_pot pot file) t (among_choices (undrawn_of_pot file ms pot) t among) in
      let drawn = subst (λ n. IsAmong (ms ++ m ∷ []) n) (sym is) (last_is ms m) in
      subst LeavesLess is (drawn_leaves t (says.drawn t drawn) (not-true (is_drawn t ms) kept.0))
  in_group_draw (phase.Group t) told (choice.Group g) m among e says =
      let is : Placed t g ≡ m = same_item (Placed t g) m e in
      let placed = says.placed t g (subst (λ n. IsAmong (ms ++ m ∷ []) n) (sym is) (last_is ms m)) in
      subst LeavesLess is (placed_leaves t g placed.0 told.1)
  in_group_draw (phase.Position t) told (choice.Position n) m among e says =
      let is : Positioned t n ≡ m = same_item (Positioned t n) m e in
      let positioned = says.positioned t n (subst (λ x. IsAmong (ms ++ m ∷ []) x) (sym is) (last_is ms m)) in
      let placed = says.placed t positioned.group positioned.placed in
      subst LeavesLess is (positioned_leaves t n placed.0 told.1)
  in_group_draw Complete told c m among e says = absurd (none_among c among)

  group_leaves : IsState file ms → (m : Move) → IsCandidateMove file ms m → LeavesLess m
  group_leaves state m h = in_group_draw (phase_of file ms) (phase_tells file ms) h.0 m h.1.0 h.1.1 (state_says file kind (ms ++ m ∷ []) (state_and_move file ms m state h))

-- ---- few moves

-- there are no more moves than what was left before them, if each leaves less
few_after : (file : DrawFile) (left : List Move → ℕ) → ((ms : List Move) (m : Move) → IsState file ms → IsCandidateMove file ms m → left (ms ++ m ∷ []) < left ms)
    → (before ms : List Move) → IsState file before → AreMovesAfter file before ms → length ms + left (before ++ ms) ≤ left before
few_after file left less before [] state h = let same = ap left (append-nil before) in omega (arith, same)
few_after file left less before (m ∷ ms) state h =
    let rest = few_after file left less (before ++ m ∷ []) ms (state_and_move file before m state h.0) h.1 in
    let same = ap left (append_assoc before (m ∷ []) ms) in
    omega (arith, rest, same, less before m state h.0)

-- no more pass a test than there are
kept_le : (p : TeamId → Bool) (teams : List TeamId) → length (filter p teams) ≤ length teams
kept_le p teams = omega (arith, length-filter p teams, count_by-le-length p teams)

-- a state has few moves
pub few_moves : (file : DrawFile) (ms : List Move) → HasForm file → IsState file ms → length ms < 2 ^ 32
few_moves file ms form state = by_kind file.kind refl
  where
    by_kind : (k : Kind) → file.kind ≡ k → length ms < 2 ^ 32
    by_kind Kind.Group kind =
        let all = few_after file (group_left file) (λ ns m h next. group_leaves file ns kind h m next) [] ms tt state in
        let teams = length-map (range_with_len 0 (length file.teams)) team_at in
        let undrawn = kept_le (λ t. not (list_any (draws t) [])) (all_teams file) in
        let unplaced = kept_le (λ t. not (list_any (gives group_by t) [])) (all_teams file) in
        let unpositioned = kept_le (λ t. not (list_any (gives position_by t) [])) (all_teams file) in
        omega (arith, all, teams, undrawn, unplaced, unpositioned, length-range_with_len 0 (length file.teams), form.common.few_teams)
    by_kind Kind.Pairing kind =
        let all = few_after file (pairing_left file) (λ ns m h next. pairing_leaves file ns kind m next) [] ms tt state in
        let undrawn = kept_le (λ t. not (is_drawn t [])) (runners_up file) in
        let unpaired = kept_le (λ t. not (is_paired t [])) (winners file) in
        omega (arith, all, undrawn, unpaired, few_teams file 2 form, few_teams file 1 form)

-- ---- few candidates

-- it has few groups and few pots
few_groups : (file : DrawFile) → HasForm file → (file.groups ≤ most_teams) × (file.pots ≤ most_teams)
few_groups file form = go file.kind refl
  where
    go : (k : Kind) → file.kind ≡ k → (file.groups ≤ most_teams) × (file.pots ≤ most_teams)
    go Kind.Group is = let group = form.group is in let groups = group.groups.1 in let pots = group.pots.1 in (omega arith, omega arith)
    go Kind.Pairing is = let pairing = form.pairing is in let groups = pairing.groups in let pots = pairing.pots in (omega arith, omega arith)

few_open : (file : DrawFile) (ms : List Move) (pot : Option ℕ) → length (open_groups file ms pot) ≤ file.groups
few_open file ms None = omega arith
few_open file ms (Some pot) =
    omega (arith, length-filter (λ g. not (has_placed file ms pot g)) (groups_of file), count_by-le-length (λ g. not (has_placed file ms pot g)) (groups_of file), length-range_with_len 0 file.groups)

-- and few candidates
pub few_candidates : (file : DrawFile) (ms : List Move) → HasForm file → length (candidates file ms) ≤ most_teams
few_candidates file ms form = by_phase (phase_of file ms)
  where
    by_phase : (p : Phase) → length (candidates_in file ms p) ≤ most_teams
    by_phase Runner = omega (arith, length-map (undrawn_runners_up file ms) Team, kept_le (λ t. not (is_drawn t ms)) (runners_up file), few_teams file 2 form)
    by_phase (Opponent r) = omega (arith, length-map (unpaired_winners file ms) Team, kept_le (λ t. not (is_paired t ms)) (winners file), few_teams file 1 form)
    by_phase (phase.Team pot) = omega (arith, length-map (undrawn_of_pot file ms pot) Team, kept_le (λ t. not (is_drawn t ms)) (teams_of_pot pot file), few_teams file pot form)
    by_phase (phase.Group t) = omega (arith, length-map (groups_for file ms t) choice.Group, few_open file ms (pot_of file t), (few_groups file form).0)
    by_phase (phase.Position t) = omega (arith, length-map (later_positions file) choice.Position, length-range_with_len 2 (file.pots - 1), (few_groups file form).1)
    by_phase Complete = omega arith
