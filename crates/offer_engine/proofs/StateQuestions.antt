-- The questions of a state and the answers to them, by their places.
use Rattle.std.proofs.Common.{◌≡◌, ℕ, zero, suc, ◌+◌, ◌<◌, ◌≤◌, List, [], ◌∷◌, ◌++◌, length, slice_get, refl, sym, ap, ◌∙◌, subst, ◌⊎◌, inl, inr, arith}
use Rattle.std.proofs.lemmas.Bool.{cases_lt}
use Rattle.team_files.specs.declared.kind.Kind.{Kind}
use Rattle.rule_sets.specs.Files.{DrawFile}
use Rattle.draw_tables.specs.declared.moves.Move.{Move}
use Rattle.draw_tables.specs.declared.moves.Choice.{Choice}
use Rattle.draw_tables.specs.Lists.{IsAmong}
use Rattle.draw_tables.specs.States.{IsMoveOf}
use Rattle.draw_tables.proofs.Lists.{same_item}
use Rattle.draw_state.specs.State.{State}
use Rattle.group_draw.specs.Encoding.{rules_of as group_rules, lits_of_moves as group_lits}
use Rattle.pairing_draw.specs.Encoding.{rules_of as pairing_rules, lits_of_moves as pairing_lits}
use Rattle.offer_engine.specs.Encodings.{rules_by, rules_of, lits_by, lits_of}
use Rattle.offer_engine.specs.Questions.{AddsMoveOf, with_move, question_of}

-- ---- the kind

pub group_rules_are : (file : DrawFile) → file.kind ≡ Kind.Group → rules_of file ≡ group_rules file
group_rules_are file kind = ap (λ k. rules_by k file) kind

pub group_lits_are : (file : DrawFile) (ms : List Move) → file.kind ≡ Kind.Group → lits_of file ms ≡ group_lits file ms
group_lits_are file ms kind = ap (λ k. lits_by k file ms) kind

pub pairing_rules_are : (file : DrawFile) → file.kind ≡ Kind.Pairing → rules_of file ≡ pairing_rules file
pairing_rules_are file kind = ap (λ k. rules_by k file) kind

pub pairing_lits_are : (file : DrawFile) (ms : List Move) → file.kind ≡ Kind.Pairing → lits_of file ms ≡ pairing_lits file ms
pairing_lits_are file ms kind = ap (λ k. lits_by k file ms) kind

-- ---- questions

-- a question of the longer moves is that of the choice
pub question_is : (file : DrawFile) (ms : List Move) (c : Choice) (m : Move) → IsMoveOf file ms c m → lits_of file (ms ++ m ∷ []) ≡ question_of file ms c
question_is file ms c m move = ap (λ o. lits_of file (with_move ms o)) (sym move.1)

-- the question of the state with the choice's move
pub question_later : (state later : State) (c : Choice) → AddsMoveOf state c later → lits_of later.file later.moves ≡ question_of state.file state.moves c
question_later state later c h =
    ap (λ f. lits_of f later.moves) h.2 ∙ ap (λ ms. lits_of state.file ms) h.3 ∙ question_is state.file state.moves c h.0 h.1

-- what holds of the moves with the choice's own holds of the state after it
pub at_later : (P : DrawFile → List Move → Type 0) (state later : State) (c : Choice) (h : AddsMoveOf state c later) → P state.file (state.moves ++ h.0 ∷ []) → P later.file later.moves
at_later P state later c h holds = subst (λ f. P f later.moves) (sym h.2) (subst (P state.file) (sym h.3) holds)

-- and the other way round
pub of_later : (P : DrawFile → List Move → Type 0) (state later : State) (c : Choice) (h : AddsMoveOf state c later) → P later.file later.moves → P state.file (state.moves ++ h.0 ∷ [])
of_later P state later c h holds = subst (P state.file) h.3 (subst (λ f. P f later.moves) h.2 holds)

-- ---- lists by their places

-- one item more that has the property
pub among_push : {A : Type 0} (P : A → Type 0) (xs : List A) (y : A) → ((x : A) → IsAmong xs x → P x) → P y → (x : A) → IsAmong (xs ++ y ∷ []) x → P x
among_push P [] y all own x (zero, e) = subst P (same_item y x e) own
among_push P [] y all own x (suc k, e) = cc
among_push P (z ∷ xs) y all own x (zero, e) = all x (0, e)
among_push P (z ∷ xs) y all own x (suc k, e) = among_push P xs y (λ w h. all w (suc h.0, h.1)) own x (k, e)

-- lists that have the same at each place
pub same_places : {A : Type 0} (xs ys : List A) → ((k : ℕ) → slice_get xs k ≡ slice_get ys k) → xs ≡ ys
same_places [] [] h = refl
same_places [] (y ∷ ys) h = let e = h 0 in cc
same_places (x ∷ xs) [] h = let e = h 0 in cc
same_places (x ∷ xs) (y ∷ ys) h =
    let head = same_item x y (h 0) in
    let tail = same_places xs ys (λ k. h (suc k)) in
    ap (λ z. z ∷ xs) head ∙ ap (λ zs. y ∷ zs) tail

-- no longer than the second, and the same at each of its places
pub same_as : {A : Type 0} (xs ys : List A) → length xs ≤ length ys → ((k : ℕ) → k < length ys → slice_get xs k ≡ slice_get ys k) → xs ≡ ys
same_as [] [] le h = refl
same_as [] (y ∷ ys) le h = let e = h 0 (omega arith) in cc
same_as (x ∷ xs) [] le h = absurd (omega arith)
same_as (x ∷ xs) (y ∷ ys) le h =
    let head = same_item x y (h 0 (omega arith)) in
    let tail = same_as xs ys (omega arith) (λ k lt. h (suc k) (omega arith)) in
    ap (λ z. z ∷ xs) head ∙ ap (λ zs. y ∷ zs) tail

-- one place more
pub same_more : {A : Type 0} (xs ys : List A) (i : ℕ) → ((k : ℕ) → k < i → slice_get xs k ≡ slice_get ys k) → slice_get xs i ≡ slice_get ys i
    → (k : ℕ) → k < i + 1 → slice_get xs k ≡ slice_get ys k
same_more xs ys i before here k lt = from (cases_lt k i)
  where
    from : (k < i) ⊎ (i ≤ k) → slice_get xs k ≡ slice_get ys k
    from (inl less) = before k less
    from (inr more) = let e : k ≡ i = omega arith in rw e here
