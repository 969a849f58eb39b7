-- What holds of all states, whatever the kind of the draw: where positions are clean, and that a
-- state has an offer. And that each legal table of a group draw can be drawn.
use Rattle.std.specs.Prelude.{List, []}
use Rattle.rule_sets.specs.Files.{DrawFile, IsWellFormed}
use Rattle.draw_tables.specs.declared.moves.Move.{Move}
use Rattle.draw_tables.specs.declared.moves.Choice.{Choice}
use Rattle.draw_tables.specs.Positions.{HasCleanPositions}
use Rattle.draw_tables.specs.States.{IsState}
use Rattle.draw_tables.specs.declared.group_table.GroupTable.{GroupTable}
use Rattle.draw_tables.specs.declared.table.Table.TheVariants.{Group}
use Rattle.draw_tables.specs.Tables.{IsLegal}
use Rattle.draw_tables.specs.Offers.{IsCompletable, IsOffer}
use Rattle.draw_state.specs.TableBalls.{IsDrawnByBalls}

-- Moves that can be completed have clean positions.
abbrev pub CleanWhereCompletable : Type 0
CleanWhereCompletable = (file : DrawFile) (ms : List Move)
    → IsCompletable file ms → HasCleanPositions file ms

-- Before the first move positions are clean.
abbrev pub CleanAtStart : Type 0
CleanAtStart = (file : DrawFile) → HasCleanPositions file []

-- Each state has an offer.
abbrev pub OfferExists : Type 0
OfferExists = (file : DrawFile) (ms : List Move)
    → IsWellFormed file → IsState file ms → (os : List Choice) × IsOffer file ms os

-- Each legal table of a group draw is drawn ball by ball.
abbrev pub TablesDrawn : Type 0
TablesDrawn = (file : DrawFile) (table : GroupTable)
    → IsWellFormed file → IsLegal file (Group table) → IsDrawnByBalls file table
