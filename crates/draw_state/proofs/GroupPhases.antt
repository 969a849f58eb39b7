-- What the phase of a group draw says of the moves: who waits for a group, which move came last, and that some group is
-- possible where the moves can be completed.
use Rattle.std.proofs.Common.{◌≡◌, ◌≢◌, ℕ, zero, suc, Bool, true, false, List, [], ◌∷◌, ◌++◌, ◌⊎◌, inl, inr, Option, Some, None, slice_get, refl, sym, ap, subst, ◌∙◌, append_assoc, append-nil}
use Rattle.std.specs.Prelude.{◌&&◌, if◌then◌else◌, is_none, option_and_then}
use Rattle.std.specs.Option.{option_or}
use Rattle.std.proofs.lemmas.Bool.{eq-eqb}
use Rattle.team_files.specs.declared.kind.Kind.{Kind}
use Rattle.team_files.specs.declared.team_id.TeamId.{TeamId}
use Rattle.team_files.specs.Members.{where_true}
use Rattle.rule_sets.specs.Files.{DrawFile}
use Rattle.draw_tables.specs.declared.moves.Move.{Move}
use Rattle.draw_tables.specs.declared.moves.Move.TheVariants.{Drawn, Placed, Positioned, Paired}
use Rattle.draw_tables.specs.declared.moves.Choice.{Choice}
use Rattle.draw_tables.specs.declared.moves.Choice.TheVariants as choice
use Rattle.draw_tables.specs.declared.moves.Phase.{Phase}
use Rattle.draw_tables.specs.declared.moves.Phase.TheVariants as phase
use Rattle.draw_tables.specs.Lists.{IsAmong}
use Rattle.draw_tables.specs.Moves.{last_of, last_drawn, drawn_team, last_placed, placed_team, group_by, group_in, position_in}
use Rattle.draw_tables.specs.GroupPhases.{without_group, without_position, has_position_ball, open_pot, group_phase_with}
use Rattle.draw_tables.specs.PairingPhases.{waiting_runner_up, undrawn_runners_up, pairing_phase_with}
use Rattle.draw_tables.specs.States.{phase_by, phase_of, move_in, IsCandidateMove, AreMovesAfter, IsState}
use Rattle.draw_tables.proofs.Lists.{same_item}
use Rattle.draw_tables.proofs.HeldPositions.{last_same, last_here}
use Rattle.draw_tables.proofs.StateMoves.{state_before_move}

-- ---- answers of moves

nothing : {A : Type 0} (o : Option A) → is_none o ≡ true → o ≡ None
nothing None e = refl
nothing (Some a) e = cc

module _ {A : Type 0} (f : Move → Option A) where
  neither : (a b : Option A) → option_or a b ≡ None → (a ≡ None) × (b ≡ None)
  neither None b e = (refl, e)
  neither (Some x) b e = cc

  -- where there is no last answer no move answers
  pub none_answers : (ms : List Move) → last_of f ms ≡ None → (m : Move) → IsAmong ms m → f m ≡ None
  none_answers ms e m among = at ms e among.0 among.1
    where
      at : (ns : List Move) → last_of f ns ≡ None → (k : ℕ) → slice_get ns k ≡ Some m → f m ≡ None
      at [] e k h = cc
      at (n ∷ ns) e zero h = ap f (sym (same_item n m h)) ∙ (neither (last_of f ns) (f n) e).1
      at (n ∷ ns) e (suc k) h = at ns (neither (last_of f ns) (f n) e).0 k h

  -- the last answer is that of some move
  pub last_answers : (ms : List Move) (a : A) → last_of f ms ≡ Some a → (m : Move) × IsAmong ms m × (f m ≡ Some a)
  last_answers [] a e = cc
  last_answers (n ∷ ms) a e = go (last_of f ms) refl e (last_answers ms a)
    where
      go : (o : Option A) → last_of f ms ≡ o → option_or o (f n) ≡ Some a → (last_of f ms ≡ Some a → (m : Move) × IsAmong ms m × (f m ≡ Some a))
          → (m : Move) × IsAmong (n ∷ ms) m × (f m ≡ Some a)
      go (Some b) is g rest = let r = rest (is ∙ g) in (r.0, (suc r.1.0, r.1.1), r.2)
      go None is g rest = (n, (0, refl), g)

-- a team that the moves place has a group by them
pub placed_has_group : (ms : List Move) (t : TeamId) (g : ℕ) → IsAmong ms (Placed t g) → group_in ms t ≢ None
placed_has_group ms t g among none =
    let here : group_by t (Placed t g) ≡ Some g = ap (λ b. if b then Some g else None) (eq-eqb t.0 t.0 refl) in
    let clash = sym here ∙ none_answers (group_by t) ms none (Placed t g) among in
    cc

-- ---- which phase takes a move

abbrev IsPhaseFor : Move → Phase → Type 0
IsPhaseFor (Drawn t) p = (p ≡ phase.Runner) ⊎ ((pot : ℕ) × (p ≡ phase.Team pot))
IsPhaseFor (Placed t group) p = p ≡ phase.Group t
IsPhaseFor (Positioned t position) p = p ≡ phase.Position t
IsPhaseFor (Paired r w) p = p ≡ phase.Opponent r

pub taken_by : (p : Phase) (c : Choice) (m : Move) → move_in p c ≡ Some m → IsPhaseFor m p
taken_by phase.Runner (choice.Team t) m e = subst (λ n. IsPhaseFor n phase.Runner) (same_item (Drawn t) m e) (inl refl)
taken_by phase.Runner (choice.Group group) m e = cc
taken_by phase.Runner (choice.Position position) m e = cc
taken_by (phase.Opponent r) (choice.Team t) m e = subst (λ n. IsPhaseFor n (phase.Opponent r)) (same_item (Paired r t) m e) refl
taken_by (phase.Opponent r) (choice.Group group) m e = cc
taken_by (phase.Opponent r) (choice.Position position) m e = cc
taken_by (phase.Team pot) (choice.Team t) m e = subst (λ n. IsPhaseFor n (phase.Team pot)) (same_item (Drawn t) m e) (inr (pot, refl))
taken_by (phase.Team pot) (choice.Group group) m e = cc
taken_by (phase.Team pot) (choice.Position position) m e = cc
taken_by (phase.Group t) (choice.Team s) m e = cc
taken_by (phase.Group t) (choice.Group group) m e = subst (λ n. IsPhaseFor n (phase.Group t)) (same_item (Placed t group) m e) refl
taken_by (phase.Group t) (choice.Position position) m e = cc
taken_by (phase.Position t) (choice.Team s) m e = cc
taken_by (phase.Position t) (choice.Group group) m e = cc
taken_by (phase.Position t) (choice.Position position) m e = subst (λ n. IsPhaseFor n (phase.Position t)) (same_item (Positioned t position) m e) refl
taken_by phase.Complete c m e = cc

-- the choice of a team's ball is the team
pub drawn_choice : (pot : ℕ) (c : Choice) (t : TeamId) → move_in (phase.Team pot) c ≡ Some (Drawn t) → c ≡ choice.Team t
drawn_choice pot (choice.Team s) t e = let same : s ≡ t = (let both = same_item (Drawn s) (Drawn t) e in cc) in ap (λ x. choice.Team x) same
drawn_choice pot (choice.Group group) t e = cc
drawn_choice pot (choice.Position position) t e = cc

-- ---- what a phase says

-- the team is the first answer where the test holds
where_so : (test : TeamId → Bool) (o : Option TeamId) (t : TeamId) → option_and_then (λ s. where_true (test s) s) o ≡ Some t → (o ≡ Some t) × (test t ≡ true)
where_so test None t e = cc
where_so test (Some s) t e = go (test s) refl e
  where
    go : (b : Bool) → test s ≡ b → where_true b s ≡ Some t → (Some s ≡ Some t) × (test t ≡ true)
    go true is f = (f, ap test (sym (same_item s t f)) ∙ is)
    go false is f = cc

group_from : (a b : Option TeamId) (o : Option ℕ) (t : TeamId) → group_phase_with a b o ≡ phase.Group t → a ≡ Some t
group_from (Some s) b o t e = let same : s ≡ t = cc in ap Some same
group_from None (Some s) o t e = cc
group_from None None (Some pot) t e = cc
group_from None None None t e = cc

position_from : (a b : Option TeamId) (o : Option ℕ) (t : TeamId) → group_phase_with a b o ≡ phase.Position t → (a ≡ None) × (b ≡ Some t)
position_from (Some s) b o t e = cc
position_from None (Some s) o t e = let same : s ≡ t = cc in (refl, ap Some same)
position_from None None (Some pot) t e = cc
position_from None None None t e = cc

team_from : (a b : Option TeamId) (o : Option ℕ) (pot : ℕ) → group_phase_with a b o ≡ phase.Team pot → o ≡ Some pot
team_from (Some s) b o pot e = cc
team_from None (Some s) o pot e = cc
team_from None None (Some q) pot e = let same : q ≡ pot = cc in ap Some same
team_from None None None pot e = cc

of_pairing : (a b : Option TeamId) (o : Option ℕ) (r : TeamId) → group_phase_with a b o ≡ phase.Opponent r → ⊥
of_pairing (Some s) b o r e = cc
of_pairing None (Some s) o r e = cc
of_pairing None None (Some pot) r e = cc
of_pairing None None None r e = cc

pub not_runner : (a b : Option TeamId) (o : Option ℕ) → group_phase_with a b o ≡ phase.Runner → ⊥
not_runner (Some s) b o e = cc
not_runner None (Some s) o e = cc
not_runner None None (Some pot) e = cc
not_runner None None None e = cc

no_group_there : (o : Option TeamId) (left : List TeamId) (t : TeamId) → pairing_phase_with o left ≡ phase.Group t → ⊥
no_group_there (Some r) left t e = cc
no_group_there None [] t e = cc
no_group_there None (s ∷ ss) t e = cc

no_position_there : (o : Option TeamId) (left : List TeamId) (t : TeamId) → pairing_phase_with o left ≡ phase.Position t → ⊥
no_position_there (Some r) left t e = cc
no_position_there None [] t e = cc
no_position_there None (s ∷ ss) t e = cc

module _ (file : DrawFile) where
  -- the phase of a group draw
  pub in_group_draw : (ms : List Move) (p : Phase) → file.kind ≡ Kind.Group → phase_of file ms ≡ p
      → group_phase_with (without_group ms) (without_position file ms) (open_pot file ms) ≡ p
  in_group_draw ms p kind e = sym (ap (λ k. phase_by k file ms) kind) ∙ e

  -- the team that was drawn last has no group
  pub record WaitsForGroup (ms : List Move) (t : TeamId) : Type 0 where
    pub kind : file.kind ≡ Kind.Group
    pub drawn : last_drawn ms ≡ Some t
    pub without : group_in ms t ≡ None

  pub waits_for_group : (ms : List Move) (t : TeamId) → phase_of file ms ≡ phase.Group t → WaitsForGroup ms t
  waits_for_group ms t e = by file.kind refl e
    where
      by : (k : Kind) → file.kind ≡ k → phase_by k file ms ≡ phase.Group t → WaitsForGroup ms t
      by Kind.Pairing is f = absurd (no_group_there (waiting_runner_up ms) (undrawn_runners_up file ms) t f)
      by Kind.Group is f =
          let g = group_from (without_group ms) (without_position file ms) (open_pot file ms) t f in
          let h = where_so (λ s. is_none (group_in ms s)) (last_drawn ms) t g in
          record { kind = is; drawn = h.0; without = nothing (group_in ms t) h.1 }

  -- in a group draw the team that was drawn last waits for a group where it has none
  pub waits_where_drawn : (ms : List Move) (t : TeamId) → file.kind ≡ Kind.Group → last_drawn ms ≡ Some t → group_in ms t ≡ None → without_group ms ≡ Some t
  waits_where_drawn ms t kind drawn without =
      ap (option_and_then (λ s. where_true (is_none (group_in ms s)) s)) drawn ∙ ap (λ o. where_true (is_none o) t) without

  -- the team that was placed last has no position, and none waits for a group
  pub record WaitsForPosition (ms : List Move) (t : TeamId) : Type 0 where
    pub kind : file.kind ≡ Kind.Group
    pub no_group : without_group ms ≡ None
    pub placed : last_placed ms ≡ Some t

  pub waits_for_position : (ms : List Move) (t : TeamId) → phase_of file ms ≡ phase.Position t → WaitsForPosition ms t
  waits_for_position ms t e = by file.kind refl e
    where
      by : (k : Kind) → file.kind ≡ k → phase_by k file ms ≡ phase.Position t → WaitsForPosition ms t
      by Kind.Pairing is f = absurd (no_position_there (waiting_runner_up ms) (undrawn_runners_up file ms) t f)
      by Kind.Group is f =
          let g = position_from (without_group ms) (without_position file ms) (open_pot file ms) t f in
          let h = where_so (λ s. has_position_ball file s && is_none (position_in ms s)) (last_placed ms) t g.1 in
          record { kind = is; no_group = g.0; placed = h.0 }

  -- a team that waits for its position stands in a group
  pub stands_somewhere : (ms : List Move) (t : TeamId) → WaitsForPosition ms t → (g : ℕ) × IsAmong ms (Placed t g)
  stands_somewhere ms t h = let m = last_answers placed_team ms t h.placed in of m.0 m.2 m.1
    where
      of : (m : Move) → placed_team m ≡ Some t → IsAmong ms m → (g : ℕ) × IsAmong ms (Placed t g)
      of (Drawn s) e among = cc
      of (Placed s g) e among = (g, subst (λ r. IsAmong ms (Placed r g)) (same_item s t e) among)
      of (Positioned s q) e among = cc
      of (Paired r w) e among = cc

  -- none waits for a group without moves
  pub none_at_opening : (t : TeamId) → phase_of file [] ≢ phase.Group t
  none_at_opening t e = let drawn = (waits_for_group [] t e).drawn in cc

  -- nor when the team that waited has its group
  pub none_when_placed : (ms : List Move) (t s : TeamId) (g : ℕ) → phase_of file ms ≡ phase.Group t → phase_of file (ms ++ Placed t g ∷ []) ≢ phase.Group s
  none_when_placed ms t s g e f =
      let before = waits_for_group ms t e in
      let after = waits_for_group (ms ++ Placed t g ∷ []) s f in
      let same = same_item s t (sym after.drawn ∙ last_same drawn_team ms (Placed t g) refl ∙ before.drawn) in
      let none : group_in (ms ++ Placed t g ∷ []) t ≡ None = subst (λ r. group_in (ms ++ Placed t g ∷ []) r ≡ None) same after.without in
      let some = last_here (group_by t) ms (Placed t g) g (ap (λ b. if b then Some g else None) (eq-eqb t.0 t.0 refl)) in
      let clash = sym none ∙ some in
      cc

  -- ---- the last move

  -- the last move was a candidate's
  after_candidate : (before ms : List Move) (m : Move) → AreMovesAfter file before (ms ++ m ∷ []) → IsCandidateMove file (before ++ ms) m
  after_candidate before [] m h = rw append-nil h.0
  after_candidate before (n ∷ ms) m h = rw append_assoc at (after_candidate (before ++ n ∷ []) ms m h.1)

  pub last_candidate : (ms : List Move) (m : Move) → IsState file (ms ++ m ∷ []) → IsCandidateMove file ms m
  last_candidate ms m state = after_candidate [] ms m state

  -- there is no move, or a last one
  front_and_last : (ms : List Move) → (ms ≡ []) ⊎ ((front : List Move) × (m : Move) × (ms ≡ front ++ m ∷ []))
  front_and_last [] = inl refl
  front_and_last (n ∷ ms) = inr (go (front_and_last ms))
    where
      go : (ms ≡ []) ⊎ ((front : List Move) × (m : Move) × (ms ≡ front ++ m ∷ [])) → (front : List Move) × (m : Move) × (n ∷ ms ≡ front ++ m ∷ [])
      go (inl none) = ([], n, ap (λ xs. n ∷ xs) none)
      go (inr (front, m, is)) = (n ∷ front, m, ap (λ xs. n ∷ xs) is)

  -- where a team waits for a group, its ball was the last move
  pub drawn_last : (ms : List Move) (t : TeamId) → IsState file ms → phase_of file ms ≡ phase.Group t → (front : List Move) × (ms ≡ front ++ Drawn t ∷ [])
  drawn_last ms t state e = from (front_and_last ms)
    where
      waits : WaitsForGroup ms t
      waits = waits_for_group ms t e

      of : (front : List Move) (m : Move) → ms ≡ front ++ m ∷ [] → IsPhaseFor m (phase_of file front) → (front : List Move) × (ms ≡ front ++ Drawn t ∷ [])
      of front (Drawn s) is p =
          let here = last_here drawn_team front (Drawn s) s refl in
          let same : s ≡ t = same_item s t (sym here ∙ ap last_drawn (sym is) ∙ waits.drawn) in
          (front, is ∙ ap (λ r. front ++ Drawn r ∷ []) same)
      of front (Placed s g) is p =
          let before = waits_for_group front s p in
          let same : s ≡ t = same_item s t (sym before.drawn ∙ sym (last_same drawn_team front (Placed s g) refl) ∙ ap last_drawn (sym is) ∙ waits.drawn) in
          let whole : phase_of file (front ++ Placed s g ∷ []) ≡ phase.Group t = ap (phase_of file) (sym is) ∙ e in
          absurd (none_when_placed front s t g p whole)
      of front (Positioned s q) is p =
          let before = waits_for_position front s p in
          let drawn = sym (last_same drawn_team front (Positioned s q) refl) ∙ ap last_drawn (sym is) ∙ waits.drawn in
          let without = sym (last_same (group_by t) front (Positioned s q) refl) ∙ ap (λ xs. group_in xs t) (sym is) ∙ waits.without in
          let some = waits_where_drawn front t waits.kind drawn without in
          let clash = sym before.no_group ∙ some in
          cc
      of front (Paired r w) is p = absurd (of_pairing (without_group front) (without_position file front) (open_pot file front) r (in_group_draw front (phase.Opponent r) waits.kind p))

      from : (ms ≡ []) ⊎ ((front : List Move) × (m : Move) × (ms ≡ front ++ m ∷ [])) → (front : List Move) × (ms ≡ front ++ Drawn t ∷ [])
      from (inl none) = let drawn = ap last_drawn (sym none) ∙ waits.drawn in cc
      from (inr (front, m, is)) =
          let last = last_candidate front m (subst (IsState file) is state) in
          of front m is (taken_by (phase_of file front) last.0 m last.1.1)

  -- before a team was placed its ball was the last move
  pub drawn_before_placed : (ms : List Move) (t : TeamId) (g : ℕ) → IsState file (ms ++ Placed t g ∷ []) → (front : List Move) × (ms ≡ front ++ Drawn t ∷ [])
  drawn_before_placed ms t g state =
      let last = last_candidate ms (Placed t g) state in
      drawn_last ms t (state_before_move file ms (Placed t g) state) (taken_by (phase_of file ms) last.0 (Placed t g) last.1.1)

  -- in a group draw a drawn team is of the open pot
  pub drawn_phase : (ms : List Move) (t : TeamId) → file.kind ≡ Kind.Group → IsPhaseFor (Drawn t) (phase_of file ms)
      → (pot : ℕ) × (phase_of file ms ≡ phase.Team pot) × (open_pot file ms ≡ Some pot)
  drawn_phase ms t kind (inl runner) = absurd (not_runner (without_group ms) (without_position file ms) (open_pot file ms) (in_group_draw ms phase.Runner kind runner))
  drawn_phase ms t kind (inr (pot, is)) = (pot, is, team_from (without_group ms) (without_position file ms) (open_pot file ms) pot (in_group_draw ms (phase.Team pot) kind is))
