use Rattle.std.proofs.Common.{◌≡◌, ◌⊎◌, inl, inr, List, sym, ◌∙◌}
use Rattle.team_files.specs.declared.team_id.TeamId.{TeamId}
use Rattle.rule_sets.specs.Files.{DrawFile}
use Rattle.draw_tables.specs.declared.moves.Move.{Move}
use Rattle.draw_tables.specs.declared.moves.Phase.{Phase}
use Rattle.draw_tables.specs.declared.moves.Phase.TheVariants as phase
use Rattle.draw_tables.specs.Positions.{HasCleanPositions}
use Rattle.draw_tables.specs.States.{phase_of, IsState}
use Rattle.offer_engine.specs.Questions.{MovesStayClean}
use Rattle.offer_engine.proofs.CleanStates.{groups_stay_clean, opponents_stay_clean}
use Rattle.offer_engine.proofs.answering.standings_of.Goals as goal

-- a move in the phases Opponent and Group leaves the positions clean
stay_clean : (file : DrawFile) (ms : List Move) (p : Phase) → IsState file ms → HasCleanPositions file ms → p ≡ phase_of file ms
    → ((r : TeamId) × (p ≡ phase.Opponent r)) ⊎ ((t : TeamId) × (p ≡ phase.Group t)) → MovesStayClean file ms
stay_clean file ms p state clean here (inl (r, is)) = opponents_stay_clean file ms state r (sym here ∙ is) clean
stay_clean file ms p state clean here (inr (t, is)) = groups_stay_clean file ms state t (sym here ∙ is) clean

pub standings_apart-requires-clause-stays : goal.standings_apart-requires-clause-stays
standings_apart-requires-clause-stays c =
    let state = c.args.state.now in
    stay_clean state.file state.moves c.phase.result c.file.ensures.state c.requires.clean c.phase.ensures c.in-Opponent.is
