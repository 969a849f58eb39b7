use Rattle.std.proofs.Common.{◌∙◌, arith}
use Rattle.propagation.proofs.Trails.{trail_values, trail_known}
use Rattle.propagation.proofs.trail.Trail.value.Goals as goal

pub index-requires : goal.index-requires
index-requires c =
    let low = rw (← c.self.view_is) at c.requires in
    omega (arith, trail_values _ _ _ _ c.self.invariant, c.self.inside.values.ok.0)

pub returns : goal.returns
returns c =
    let low = rw (← c.self.view_is) at c.requires in
    c.index.ensures ∙ rw (← c.self.view_is) (trail_known _ _ _ _ c.self.invariant c.args.atom.0 c.index.result.now low)
