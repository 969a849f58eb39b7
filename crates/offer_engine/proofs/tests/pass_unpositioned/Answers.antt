use Rattle.std.proofs.Common.{◌≡◌, ℕ, ◌+◌, ◌<◌, ◌⊎◌, inl, inr, length, List, Some, slice_get, arith, ap, subst, ◌∙◌}
use Rattle.std.proofs.lemmas.Bool.{cases_eq}
use Rattle.std.proofs.lemmas.Option.{get_or_from_slice_get, slice_get_within}
use Rattle.team_files.specs.declared.team_id.TeamId.{TeamId}
use Rattle.draw_tables.specs.declared.moves.Move.{Move}
use Rattle.draw_tables.specs.declared.moves.Move.TheVariants.{Positioned}
use Rattle.offer_engine.proofs.tests.pass_unpositioned.Goals as goal

-- no move of the list before the place gives a position
abbrev NoneBefore : List Move → ℕ → Type 0
NoneBefore ms n = (k : ℕ) (t : TeamId) (position : ℕ) → k < n → ¬ slice_get ms k ≡ Some (Positioned t position)

-- nor does one more
one_more : (ms : List Move) (n : ℕ) → NoneBefore ms n → ((t : TeamId) (position : ℕ) → ¬ slice_get ms n ≡ Some (Positioned t position)) → NoneBefore ms (n + 1)
one_more ms n before here k t position lt e = go (cases_eq k n)
  where
    go : (k ≡ n) ⊎ (k ≡ n → ⊥) → ⊥
    go (inl same) = here t position (subst (λ i. slice_get ms i ≡ Some (Positioned t position)) same e)
    go (inr other) = before k t position (let apart : ¬ k ≡ n = other in omega arith) e

pub loop-step-init : goal.loop-step-init
loop-step-init c = λ k t position lt e. omega arith

pub loop-step-preserved : goal.loop-step-preserved
loop-step-preserved c =
    let ms = c.args.state.now.moves in
    let i = c.loop-step.step-index in
    one_more ms i c.loop-step.invariant (λ t position e.
    c.in_default.not-Positioned t position (get_or_from_slice_get c.moves-step-items.result.now i (Positioned t position) _ (ap (λ xs. slice_get xs i) c.moves-step-items.ensures ∙ e)))

pub returns : goal.returns
returns c = λ t group position among stands held.
    let ms = c.args.state.now.moves in
    let within = slice_get_within ms among.0 (Positioned t position) among.1 in
    let size = ap (length {A = Move}) c.moves-step-items.ensures in
    let all = c.loop-step-test.false in
    c.loop-step.invariant among.0 t position (omega arith) among.1
