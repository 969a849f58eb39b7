use Rattle.std.proofs.Common.{◌≡◌, drop, map}
use Rattle.serde_json.specs.View.{view}
use Rattle.team_files.specs.Heads.{missing_in_limit, missing_in_each}
use Rattle.team_files.proofs.missing.check_each_limit.Given as goal

-- no limit before this one lacks a member
abbrev pub invariant-loop-limit : goal.invariant-loop-limit
invariant-loop-limit l = missing_in_each missing_in_limit (map view (drop l.limit-index l.limits)) ≡ missing_in_each missing_in_limit (map view l.limits)
