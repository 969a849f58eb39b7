use Rattle.std.proofs.Common.{◌≡◌, ◌++◌, drop}
use Rattle.std.specs.List.{filter}
use Rattle.refutations.specs.JoinedClauses.{is_other}
use Rattle.refutations.proofs.join.push_others.Given as goal

-- the clause so far, and those left that are to be put behind it
abbrev pub invariant-loop-lit : goal.invariant-loop-lit
invariant-loop-lit l = l.clause.items ++ filter (is_other l.out l.known) (drop l.lit-index l.lits) ≡ l.fn.clause.items ++ filter (is_other l.out l.known) l.lits
