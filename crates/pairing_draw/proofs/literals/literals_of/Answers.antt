use Rattle.std.proofs.Common.{◌≡◌, ℕ, suc, ◌+◌, ◌<◌, List, [], ◌∷◌, ◌++◌, length, drop, get_or, Some, None, refl, sym, ap, ◌∙◌, add-one}
use Rattle.std.specs.List.{filter_map, cons_option}
use Rattle.std.proofs.Math.Seq.{drop-cons}
use Rattle.rule_sets.specs.Files.{DrawFile}
use Rattle.team_files.specs.declared.team_id.TeamId.{TeamId}
use Rattle.draw_tables.specs.declared.moves.Move.{Move}
use Rattle.draw_tables.specs.declared.moves.Move.TheVariants.{Drawn, Placed, Positioned, Paired}
use Rattle.pairing_draw.specs.Encoding.{lit_of_move, lits_of_moves}
use Rattle.pairing_draw.proofs.literals.literals_of.Goals as goal

-- a move that is no pair has no literal
no_literal : (file : DrawFile) (m : Move) → ((r w : TeamId) → ¬ m ≡ Paired r w) → lit_of_move file m ≡ None
no_literal file (Drawn t) none = refl
no_literal file (Placed t group) none = refl
no_literal file (Positioned t position) none = refl
no_literal file (Paired r w) none = absurd (none r w refl)

-- it is passed over
passed : (file : DrawFile) (ms : List Move) (i : ℕ) (d : Move) → i < length ms → ((r w : TeamId) → ¬ get_or ms i d ≡ Paired r w) → lits_of_moves file (drop i ms) ≡ lits_of_moves file (drop (i + 1) ms)
passed file ms i d lt none =
    ap (lits_of_moves file) (drop-cons ms i d lt)
    ∙ ap (λ o. cons_option o (lits_of_moves file (drop (suc i) ms))) (no_literal file (get_or ms i d) none)
    ∙ ap (λ n. lits_of_moves file (drop n ms)) (sym (add-one i))

pub loop-step-preserved-in_default : goal.loop-step-preserved-in_default
loop-step-preserved-in_default c =
    ap (λ xs. c.loop-step.literals.items ++ xs) (sym (passed c.args.file.now c.args.moves.now c.loop-step.step-index (Drawn (record { 0 = 0 })) c.loop-step-test.true c.in_default.not-Paired))
    ∙ c.loop-step.invariant
