use Rattle.std.proofs.Common.{◌≡◌, ◌++◌}
use Rattle.pairing_draw.specs.Encoding.{row_rules}
use Rattle.pairing_draw.proofs.encoding.add_rows.Given as goal

-- the rules of the runners-up so far were added
abbrev pub invariant-loop-runner : goal.invariant-loop-runner
invariant-loop-runner l = l.rules.items ≡ l.fn.rules.items ++ row_rules l.runner l.winners
