-- Taking off the last ball: its move, and the group that its team took.
use Rattle.std.proofs.Common.{◌≡◌, ℕ, List, [], ◌∷◌, ◌++◌, inr, Option, Some, None, refl, sym, ap, subst, ◌∙◌, append_assoc}
use Rattle.std.specs.Prelude.{MatchOption}
use Rattle.rule_sets.specs.Files.{DrawFile}
use Rattle.team_files.specs.declared.team_id.TeamId.{TeamId}
use Rattle.draw_tables.specs.declared.moves.Move.{Move}
use Rattle.draw_tables.specs.declared.moves.Move.TheVariants.{Drawn, Placed}
use Rattle.draw_tables.specs.States.{IsState}
use Rattle.draw_tables.proofs.StateMoves.{state_before_move}
use Rattle.draw_state.specs.State.{TakesOffBall}
use Rattle.draw_state.proofs.GroupPhases.{drawn_before_placed}

-- a list with a last item is not empty
no_end : {A : Type 0} (xs : List A) (x : A) → [] ≡ xs ++ x ∷ [] → ⊥
no_end [] x e = cc
no_end (y ∷ xs) x e = cc

-- lists that are the same end the same
same_end : {A : Type 0} (xs ys : List A) (x y : A) → xs ++ x ∷ [] ≡ ys ++ y ∷ [] → x ≡ y
same_end [] [] x y e = cc
same_end [] (b ∷ ys) x y e = let rest : [] ≡ ys ++ y ∷ [] = cc in absurd (no_end ys y rest)
same_end (a ∷ xs) [] x y e = let rest : [] ≡ xs ++ x ∷ [] = cc in absurd (no_end xs x rest)
same_end (a ∷ xs) (b ∷ ys) x y e = let rest : xs ++ x ∷ [] ≡ ys ++ y ∷ [] = cc in same_end xs ys x y rest

-- the last move is taken off, and none where there is none
abbrev pub IsTakenOff : List Move → List Move → Option Move → Type 0
IsTakenOff old new last = MatchOption last ((old ≡ []) × (new ≡ [])) (λ m. old ≡ new ++ m ∷ [])

-- without its last move a state is one
pub state_kept : (file : DrawFile) (old new : List Move) (last : Option Move) → IsTakenOff old new last → IsState file old → IsState file new
state_kept file old new None h state = rw h.1 tt
state_kept file old new (Some m) h state = state_before_move file new m (rw h at state)

module _ (file : DrawFile) (old mid : List Move) (t : TeamId) (g : ℕ) (placed : old ≡ mid ++ Placed t g ∷ []) (state : IsState file old) where
  whole : IsState file (mid ++ Placed t g ∷ [])
  whole = subst (IsState file) placed state

  -- where the last move placed a team, the one before it is the team's ball
  pub placed_off : (new : List Move) (last : Option Move) → IsTakenOff mid new last → MatchOption last ((old ≡ []) × (new ≡ [])) (λ m. TakesOffBall old new m)
  placed_off new None h = let front = drawn_before_placed file mid t g whole in absurd (no_end front.0 (Drawn t) (sym h.0 ∙ front.1))
  placed_off new (Some m) h =
      let front = drawn_before_placed file mid t g whole in
      let same : m ≡ Drawn t = same_end new front.0 m (Drawn t) (sym h ∙ front.1) in
      let both : old ≡ new ++ Drawn t ∷ Placed t g ∷ [] = placed ∙ ap (λ xs. xs ++ Placed t g ∷ []) (h ∙ ap (λ n. new ++ n ∷ []) same) ∙ rw append_assoc refl in
      subst (TakesOffBall old new) (sym same) (inr (g, both))

  pub state_without : (new : List Move) (last : Option Move) → IsTakenOff mid new last → IsState file new
  state_without new last h = state_kept file mid new last h (state_before_move file mid (Placed t g) whole)
