-- A draw file as a count problem, and moves as its literals, by the kind of the draw.
use Rattle.std.specs.Prelude.{List}
use Rattle.team_files.specs.declared.kind.Kind.{Kind}
use Rattle.rule_sets.specs.Files.{DrawFile}
use Rattle.count_core.specs.declared.lit.Lit.{Lit}
use Rattle.count_core.specs.Problems.{Problem}
use Rattle.draw_tables.specs.declared.moves.Move.{Move}
use Rattle.group_draw.specs.Encoding.{rules_of as group_rules, lits_of_moves as group_lits}
use Rattle.pairing_draw.specs.Encoding.{rules_of as pairing_rules, lits_of_moves as pairing_lits}

-- the count problem, by the kind
abbrev pub rules_by : Kind → DrawFile → Problem
rules_by Kind.Group file = group_rules file
rules_by Kind.Pairing file = pairing_rules file

-- The count problem of a file.
abbrev pub rules_of : DrawFile → Problem
rules_of file = rules_by file.kind file

-- the literals of moves, by the kind
abbrev pub lits_by : Kind → DrawFile → List Move → List Lit
lits_by Kind.Group file ms = group_lits file ms
lits_by Kind.Pairing file ms = pairing_lits file ms

-- The literals of moves. A drawn ball and a position have none.
abbrev pub lits_of : DrawFile → List Move → List Lit
lits_of file ms = lits_by file.kind file ms

-- A file and a count problem. An encoded file is seen as one.
pub record Encoding : Type 0 where
  pub file : DrawFile
  pub problem : Problem

-- the file with its own problem
abbrev pub encoding_of : DrawFile → Encoding
encoding_of file = record { file = file; problem = rules_of file }
