-- What an accepted ball adds: its move, and the group that its team takes. It is one list, leads to a state, and leaves no
-- team that waits for a group.
use Rattle.std.proofs.Common.{◌≡◌, ◌≢◌, ℕ, ◌<◌, ◌≤◌, List, [], ◌∷◌, ◌++◌, ◌⊎◌, inl, inr, refl, sym, ap, subst, ◌∙◌, arith, append_assoc, append-nil}
use Rattle.std.proofs.lemmas.Bool.{cases_lt}
use Rattle.team_files.specs.declared.team_id.TeamId.{TeamId}
use Rattle.rule_sets.specs.Files.{DrawFile}
use Rattle.draw_tables.specs.declared.moves.Move.{Move}
use Rattle.draw_tables.specs.declared.moves.Choice.{Choice}
use Rattle.draw_tables.specs.declared.moves.Phase.{Phase}
use Rattle.draw_tables.specs.States.{phase_of, move_in, IsMoveOf, IsState}
use Rattle.draw_tables.specs.Offers.{IsOffer, IsPossible, IsCompletable}
use Rattle.draw_tables.proofs.Lists.{same_item}
use Rattle.draw_tables.proofs.StateMoves.{state_and_move}
use Rattle.draw_state.specs.Commands.{IsFirstPossibleGroup, AddsOfItself, Adds}
use Rattle.draw_state.specs.Replies.{NoneWaitsForGroup}
use Rattle.draw_state.proofs.GroupPhases.{none_when_placed}
use Rattle.draw_state.proofs.FirstGroups.{first_group}

-- a choice has one move
pub one_move : (file : DrawFile) (ms : List Move) (c : Choice) (m n : Move) → IsMoveOf file ms c m → IsMoveOf file ms c n → m ≡ n
one_move file ms c m n h g = same_item m n (sym h.1 ∙ g.1)

module _ (file : DrawFile) (ms : List Move) where
  -- ---- the group that a team takes of itself

  one_first : (g k : ℕ) → IsFirstPossibleGroup file ms g → IsFirstPossibleGroup file ms k → g ≡ k
  one_first g k h f = go (cases_lt g k) (cases_lt k g)
    where
      go : (g < k) ⊎ (k ≤ g) → (k < g) ⊎ (g ≤ k) → g ≡ k
      go (inl lt) other = absurd (f.before g lt h.possible)
      go (inr le) (inl lt) = absurd (h.before k lt f.possible)
      go (inr le) (inr ge) = omega arith

  -- its move, and that the moves with it can be completed
  group_move : (t : TeamId) (g : ℕ) → phase_of file ms ≡ Phase.Group t → IsFirstPossibleGroup file ms g
      → IsMoveOf file ms (Choice.Group g) (Move.Placed t g) × IsCompletable file (ms ++ Move.Placed t g ∷ [])
  group_move t g waits first =
      let possible = first.possible in
      let is : possible.0 ≡ Move.Placed t g = same_item possible.0 (Move.Placed t g) (sym possible.1.1 ∙ ap (λ p. move_in p (Choice.Group g)) waits) in
      (subst (IsMoveOf file ms (Choice.Group g)) is possible.1, subst (λ m. IsCompletable file (ms ++ m ∷ [])) is possible.2)

  -- ---- what a phase adds of itself

  -- nothing, or the first possible group of the team that waits
  abbrev Cases : Phase → List Move → Type 0
  Cases p more =
      ((more ≡ []) × ((t : TeamId) → p ≢ Phase.Group t))
      ⊎ ((t : TeamId) × (g : ℕ) × (p ≡ Phase.Group t) × IsFirstPossibleGroup file ms g × (more ≡ Move.Placed t g ∷ []))

  cases_of : (p : Phase) (more : List Move) → AddsOfItself file ms p more → Cases p more
  cases_of Phase.Runner more h = inl (h, λ t e. cc)
  cases_of (Phase.Opponent r) more h = inl (h, λ t e. cc)
  cases_of (Phase.Team pot) more h = inl (h, λ t e. cc)
  cases_of (Phase.Group t) more h = inr (t, h.0, refl, h.1, h.2)
  cases_of (Phase.Position t) more h = inl (h, λ t e. cc)
  cases_of Phase.Complete more h = inl (h, λ t e. cc)

  same_of_itself : (p : Phase) (a b : List Move) → AddsOfItself file ms p a → AddsOfItself file ms p b → a ≡ b
  same_of_itself Phase.Runner a b h g = h ∙ sym g
  same_of_itself (Phase.Opponent r) a b h g = h ∙ sym g
  same_of_itself (Phase.Team pot) a b h g = h ∙ sym g
  same_of_itself (Phase.Group t) a b h g = h.2 ∙ ap (λ k. Move.Placed t k ∷ []) (one_first h.0 g.0 h.1 g.1) ∙ sym g.2
  same_of_itself (Phase.Position t) a b h g = h ∙ sym g
  same_of_itself Phase.Complete a b h g = h ∙ sym g

  module _ (more : List Move) (adds : AddsOfItself file ms (phase_of file ms) more) where
    cases_here : Cases (phase_of file ms) more
    cases_here = cases_of (phase_of file ms) more adds

    itself_stays : IsState file ms → IsState file (ms ++ more)
    itself_stays state = from cases_here
      where
        from : Cases (phase_of file ms) more → IsState file (ms ++ more)
        from (inl (none, p)) = rw (none, append-nil) state
        from (inr (t, g, waits, first, is)) = rw is (state_and_move file ms (Move.Placed t g) state (Choice.Group g, (group_move t g waits first).0))

    itself_completes : IsCompletable file ms → IsCompletable file (ms ++ more)
    itself_completes completable = from cases_here
      where
        from : Cases (phase_of file ms) more → IsCompletable file (ms ++ more)
        from (inl (none, p)) = rw (none, append-nil) completable
        from (inr (t, g, waits, first, is)) = rw is (group_move t g waits first).1

    none_waits_after : NoneWaitsForGroup file (ms ++ more)
    none_waits_after s e = from cases_here
      where
        from : Cases (phase_of file ms) more → ⊥
        from (inl (none, p)) = p s (rw (none, append-nil) at e)
        from (inr (t, g, waits, first, is)) = none_when_placed file ms t s g waits (rw is at e)

  -- there is something that the phase adds of itself
  some_of_itself : IsState file ms → IsCompletable file ms → (offered : List Choice) → IsOffer file ms offered
      → (more : List Move) × AddsOfItself file ms (phase_of file ms) more
  some_of_itself state completable offered offer = go (phase_of file ms) refl
    where
      go : (p : Phase) → phase_of file ms ≡ p → (more : List Move) × AddsOfItself file ms p more
      go Phase.Runner is = ([], refl)
      go (Phase.Opponent r) is = ([], refl)
      go (Phase.Team pot) is = ([], refl)
      go (Phase.Group t) is = let first = first_group file ms t is state completable offered offer in (Move.Placed t first.0 ∷ [], (first.0, first.1, refl))
      go (Phase.Position t) is = ([], refl)
      go Phase.Complete is = ([], refl)

-- ---- what a ball adds

-- the move and what follows it of itself
parts : (ms : List Move) (m : Move) (more : List Move) → ms ++ m ∷ more ≡ (ms ++ m ∷ []) ++ more
parts ms m more = rw append_assoc refl

whole : (file : DrawFile) (ms added : List Move) (c : Choice) (adds : Adds file ms c added) → ms ++ added ≡ (ms ++ adds.0 ∷ []) ++ adds.1
whole file ms added c adds = ap (λ xs. ms ++ xs) adds.4 ∙ parts ms adds.0 adds.1

-- a ball adds one list
pub one_added : (file : DrawFile) (ms a b : List Move) (c : Choice) → Adds file ms c a → Adds file ms c b → a ≡ b
one_added file ms a b c h g =
    let same : g.0 ≡ h.0 = one_move file ms c g.0 h.0 g.2 h.2 in
    let follows = subst (λ m. AddsOfItself file (ms ++ m ∷ []) (phase_of file (ms ++ m ∷ [])) g.1) same g.3 in
    let more = same_of_itself file (ms ++ h.0 ∷ []) (phase_of file (ms ++ h.0 ∷ [])) h.1 g.1 h.3 follows in
    h.4 ∙ ap (λ m. m ∷ h.1) (sym same) ∙ ap (λ xs. g.0 ∷ xs) more ∙ sym g.4

-- it leads to a state
pub added_stay : (file : DrawFile) (ms added : List Move) (c : Choice) → IsState file ms → Adds file ms c added → IsState file (ms ++ added)
added_stay file ms added c state adds =
    let after = state_and_move file ms adds.0 state (c, adds.2) in
    rw (whole file ms added c adds) (itself_stays file (ms ++ adds.0 ∷ []) adds.1 adds.3 after)

-- to one that can be completed, where the choice is possible
pub added_completes : (file : DrawFile) (ms added : List Move) (c : Choice) → IsPossible file ms c → Adds file ms c added → IsCompletable file (ms ++ added)
added_completes file ms added c possible adds =
    let same = one_move file ms c possible.0 adds.0 possible.1 adds.2 in
    let after = subst (λ m. IsCompletable file (ms ++ m ∷ [])) same possible.2 in
    rw (whole file ms added c adds) (itself_completes file (ms ++ adds.0 ∷ []) adds.1 adds.3 after)

-- after it no team waits for its group
pub none_waits : (file : DrawFile) (ms added : List Move) (c : Choice) → Adds file ms c added → NoneWaitsForGroup file (ms ++ added)
none_waits file ms added c adds = rw (whole file ms added c adds) (none_waits_after file (ms ++ adds.0 ∷ []) adds.1 adds.3)

-- where the choice is possible, its ball adds something
pub some_added : (file : DrawFile) (ms : List Move) (c : Choice) → IsState file ms → IsPossible file ms c
    → ((later : List Move) → IsState file later → (offered : List Choice) × IsOffer file later offered) → (added : List Move) × Adds file ms c added
some_added file ms c state possible offers =
    let m = possible.0 in
    let after = state_and_move file ms m state (c, possible.1) in
    let offer = offers (ms ++ m ∷ []) after in
    let more = some_of_itself file (ms ++ m ∷ []) after possible.2 offer.0 offer.1 in
    (m ∷ more.0, (m, more.0, possible.1, more.1, refl))
