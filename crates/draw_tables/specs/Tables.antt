-- Tables of a file, by the kind of its draw.
use Rattle.std.specs.Prelude.{◌≡◌, List, length}
use Rattle.team_files.specs.declared.kind.Kind.{Kind}
use Rattle.team_files.specs.declared.team_id.TeamId.{TeamId}
use Rattle.rule_sets.specs.Files.{DrawFile}
use Rattle.draw_tables.specs.declared.group_place.GroupPlace.{GroupPlace}
use Rattle.draw_tables.specs.declared.table.Table.{Table}
use Rattle.draw_tables.specs.declared.table.Table.TheVariants.{Group, Pairs}
use Rattle.draw_tables.specs.Pots.{runners_up, AreTeamsOf}
use Rattle.draw_tables.specs.GroupTables.{AreFilePlaces, IsLegalGroups}
use Rattle.draw_tables.specs.Pairings.{IsLegalPairing}

-- A table of a group draw gives each team a group and a position, be they of the file or not.
pub record IsGroupTableOf (file : DrawFile) (places : List GroupPlace) : Type 0 where
  pub kind : file.kind ≡ Kind.Group
  pub size : length places ≡ length file.teams

-- A table of a pairing gives a team of the file to each runner-up.
pub record IsPairTableOf (file : DrawFile) (winners : List TeamId) : Type 0 where
  pub kind : file.kind ≡ Kind.Pairing
  pub size : length winners ≡ length (runners_up file)
  pub teams : AreTeamsOf file winners

-- The table is one of the file, be it legal or not.
abbrev pub IsTableOf : DrawFile → Table → Type 0
IsTableOf file (Group groups) = IsGroupTableOf file groups.places
IsTableOf file (Pairs pairs) = IsPairTableOf file pairs.winners

-- The groups and positions in the table are those of the file. A pairing's table has none.
abbrev pub NamesFilePlaces : DrawFile → Table → Type 0
NamesFilePlaces file (Group groups) = AreFilePlaces file groups.places
NamesFilePlaces file (Pairs pairs) = Unit {0}

-- The table is of the file's kind and keeps the rules of its draw.
abbrev pub IsLegal : DrawFile → Table → Type 0
IsLegal file (Group groups) = (file.kind ≡ Kind.Group) × IsLegalGroups file groups.places
IsLegal file (Pairs pairs) = (file.kind ≡ Kind.Pairing) × IsLegalPairing file pairs.winners
