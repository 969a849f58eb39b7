use Rattle.std.proofs.Common.{◌≡◌, ◌++◌, drop, Ok}
use Rattle.team_files.specs.Answers.{after}
use Rattle.rule_sets.specs.Files.{pairs_from}
use Rattle.rule_sets.proofs.rules.pairs_of.Given as goal

-- the pairs so far, and those of the rest
abbrev pub invariant-loop-place : goal.invariant-loop-place
invariant-loop-place l = after (pairs_from l.teams l.place (drop l.place l.pairs)) (λ rest. Ok (l.found.items ++ rest)) ≡ pairs_from l.teams 0 l.pairs
