use Rattle.std.proofs.Common.{rules, ◌≡◌, ◌+◌}
use Rattle.std.specs.Prelude.{replicate}
use Rattle.propagation.proofs.Engines.{engine_new}
use Rattle.propagation.proofs.engine.Engine.new.Goals as goal

pub invariant_of-result : goal.invariant_of-result
invariant_of-result c =
    let zeros : c.in_ok-quiet_at.quiet_at.items ≡ replicate (c.in_ok-store.store.problem.atoms + 1) 0 = search rules in
    engine_new c.in_ok-store.store c.in_ok-quiet_at.quiet_at.items c.in_ok-store.ensures.clauses zeros
