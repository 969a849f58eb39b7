use Rattle.std.proofs.Common.{◌≡◌, ◌++◌, drop}
use Rattle.draw_tables.specs.Pots.{AreTeamsOf}
use Rattle.draw_tables.specs.TableTexts.{codes_text, spaced_codes}
use Rattle.draw_tables.proofs.table_texts.add_codes.Given as goal

-- the text so far and the codes that are left are the whole
abbrev pub invariant-loop-team : goal.invariant-loop-team
invariant-loop-team l = record {
  teams : AreTeamsOf l.file (drop l.team-index l.others);
  whole : l.text.items ++ spaced_codes l.file.teams (drop l.team-index l.others) ≡ l.fn.text.items ++ codes_text l.file.teams l.fn.teams;
}
