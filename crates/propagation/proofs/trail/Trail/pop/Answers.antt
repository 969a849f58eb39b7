use Rattle.std.proofs.Common.{◌≡◌, ◌++◌, ◌∷◌, [], arith}
use Rattle.propagation.specs.Trails.{IsTrail}
use Rattle.propagation.proofs.Trails.{pop_within, pop_trail}
use Rattle.propagation.proofs.trail.Trail.pop.Goals as goal

pub index_mut-requires : goal.index_mut-requires
index_mut-requires c =
    let items : c.self.inside.lits.items ≡ c.pop.new.self.items ++ c.unwrap-lit.result ∷ [] = rw c.unwrap-lit.ensures at c.pop.ensures.items in
    let trail : IsTrail c.self.inside.values.items c.self.inside.causes.items (c.pop.new.self.items ++ c.unwrap-lit.result ∷ []) c.self.inside.atoms = rw (← items) c.self.invariant in
    omega (arith, pop_within _ _ _ _ _ trail, c.self.inside.values.ok.0)

pub invariant_of-self : goal.invariant_of-self
invariant_of-self c =
    let items : c.self.inside.lits.items ≡ c.pop.new.self.items ++ c.unwrap-lit.result ∷ [] = rw c.unwrap-lit.ensures at c.pop.ensures.items in
    let trail : IsTrail c.self.inside.values.items c.self.inside.causes.items (c.pop.new.self.items ++ c.unwrap-lit.result ∷ []) c.self.inside.atoms = rw (← items) c.self.invariant in
    pop_trail _ _ _ _ _ trail
