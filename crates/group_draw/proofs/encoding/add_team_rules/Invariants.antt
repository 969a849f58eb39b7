use Rattle.std.proofs.Common.{◌≡◌, ◌++◌, map}
use Rattle.std.specs.List.{range_with_len}
use Rattle.group_draw.specs.Encoding.{team_rule}
use Rattle.group_draw.proofs.encoding.add_team_rules.Given as goal

-- the rules of the teams so far were added
abbrev pub invariant-loop-place : goal.invariant-loop-place
invariant-loop-place l = l.rules.items ≡ l.fn.rules.items ++ map (team_rule l.file) (range_with_len 0 l.place)
