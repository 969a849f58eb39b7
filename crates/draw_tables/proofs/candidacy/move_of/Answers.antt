use Rattle.std.proofs.Common.{◌≡◌, Option, Some, None, sym, ap, ◌∙◌}
use Rattle.std.specs.Prelude.{MatchOption}
use Rattle.rule_sets.specs.Files.{DrawFile}
use Rattle.draw_tables.specs.declared.moves.Move.{Move}
use Rattle.std.specs.Prelude.{List}
use Rattle.draw_tables.specs.declared.moves.Choice.{Choice}
use Rattle.draw_tables.specs.declared.moves.Phase.{Phase}
use Rattle.draw_tables.specs.Lists.{IsAmong}
use Rattle.draw_tables.specs.States.{candidates, candidates_in, phase_of, move_in, IsMoveOf}
use Rattle.draw_tables.proofs.CandidateMoves.{candidate_has_move}
use Rattle.draw_tables.proofs.candidacy.move_of.Goals as goal

-- the move of a candidate is what the phase makes of it
answers : (file : DrawFile) (ms : List Move) (p : Phase) (c : Choice) (o : Option Move) → p ≡ phase_of file ms → IsAmong (candidates_in file ms p) c → o ≡ move_in p c
    → MatchOption o (¬ IsAmong (candidates file ms) c) (λ m. IsMoveOf file ms c m)
answers file ms p c None is among e =
    let has = candidate_has_move file ms p c among in
    let clash = e ∙ has.1 in
    cc
answers file ms p c (Some m) is among e = (rw is at among, sym (ap (λ q. move_in q c) is) ∙ sym e)

pub returns : goal.returns
returns c = answers c.args.file.now c.args.moves.now c.phase_of-phase.result c.args.choice c.move_in.result c.phase_of-phase.ensures (c.is_candidate_in.ensures.0 c.if-not-is_candidate_in.false) c.move_in.ensures
