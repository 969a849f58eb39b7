use Rattle.std.proofs.Common.{◌≡◌, ◌+◌, ◌++◌, ◌∷◌, [], length, length-append, ap, arith}
use Rattle.count_core.specs.Problems.{Problem}
use Rattle.propagation.proofs.Trails.{front_pop}
use Rattle.propagation.proofs.Queues.{differs_trans, quiet_at_pop, forgotten}
use Rattle.propagation.proofs.queue.unwind.Goals as goal

pub loop-store-preserved : goal.loop-store-preserved
loop-store-preserved c =
    let e = c.pop.ensures.last.0 in
    let is : c.loop-store.store.entries ≡ c.pop.new.self.entries ++ e ∷ [] = c.pop.ensures.last.1 in
    let longer : length c.loop-store.store.entries ≡ length c.pop.new.self.entries + 1 = omega (arith, ap length is, length-append c.pop.new.self.entries (e ∷ [])) in
    record {
      front = front_pop c.pop.new.self.entries c.loop-store.store.entries c.args.store.now.entries e is c.loop-store.invariant.front;
      above = omega (arith, longer, c.len.ensures.len);
      below = omega (arith, longer, c.loop-store.invariant.below);
      kept = differs_trans c.args.store.now c.loop-store.store c.pop.new.self c.loop-store.invariant.kept c.pop.ensures.kept;
      quiet_at = quiet_at_pop c.loop-store.store c.pop.new.self e c.loop-store.quiet_at c.len-in-loop-store.result c.loop-store.invariant.quiet_at c.pop.ensures.kept is c.len-in-loop-store.ensures.len (omega (arith, c.len-in-loop-store.ensures.len, c.len-in-loop-store.ensures.few, c.loop-store.auto.quiet_at, c.requires.lengths, ap (λ (p : Problem). p.atoms) c.loop-store.invariant.kept.problem));
      less = λ i. omega (arith, forgotten c.loop-store.quiet_at c.len-in-loop-store.result i, c.loop-store.invariant.less i);
    }
