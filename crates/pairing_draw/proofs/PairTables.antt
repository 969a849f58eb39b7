-- The table of a pairing.
use Rattle.std.proofs.Common.{List}
use Rattle.team_files.specs.declared.team_id.TeamId.{TeamId}
use Rattle.draw_tables.specs.declared.table.Table.{Table}
use Rattle.draw_tables.specs.declared.table.Table.TheVariants.{Pairs}

-- the table of a pairing that gives these winners
abbrev pub pair_table : List TeamId → Table
pair_table given = Pairs (record { winners = given })
