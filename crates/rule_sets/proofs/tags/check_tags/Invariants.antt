use Rattle.std.proofs.Common.{◌≡◌, drop}
use Rattle.rule_sets.specs.Files.{unknown_tag_from}
use Rattle.rule_sets.proofs.tags.check_tags.Given as goal

-- each team before this one has limits for its tags
abbrev pub invariant-loop-place : goal.invariant-loop-place
invariant-loop-place l = unknown_tag_from l.limits l.place (drop l.place l.teams) ≡ unknown_tag_from l.limits 0 l.teams
