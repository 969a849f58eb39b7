use Rattle.std.proofs.Common.{◌≡◌, drop}
use Rattle.draw_tables.specs.Pots.{AreTeamsOf, pot_from, runners_up}
use Rattle.draw_tables.specs.Pairings.{breaks}
use Rattle.draw_tables.specs.Passes.{first_pair}
use Rattle.draw_tables.proofs.judging.first_pair.Given as goal

-- no pair before this place breaks the rule
abbrev pub invariant-loop-place : goal.invariant-loop-place
invariant-loop-place l = record {
  teams : AreTeamsOf l.file l.rest;
  same : first_pair (breaks l.file l.rule) (pot_from 2 l.place (drop l.place l.teams)) l.rest ≡ first_pair (breaks l.file l.rule) (runners_up l.file) l.given;
}
