use Rattle.std.proofs.Common.{◌≡◌, ◌≤◌, ◌<◌, length, get_or, ◌∙◌, ap, arith}
use Rattle.std.proofs.lemmas.List.{get_or_default}
use Rattle.count_core.specs.Problems.{Problem}
use Rattle.propagation.proofs.Basics.{returned}
use Rattle.propagation.proofs.Engines.{engine_back}
use Rattle.propagation.proofs.engine.Engine.back_to.Goals as goal

pub unwind-requires-clause-quiet_at : goal.unwind-requires-clause-quiet_at
unwind-requires-clause-quiet_at c = rw c.deref_mut.ensures.value c.self.invariant.are_quiet_at

pub invariant_of-self : goal.invariant_of-self
invariant_of-self c =
    let left = rw (← c.self.view_is) at c.requires in
    let number : c.self.inside.quiet_at.len ≡ length c.self.inside.quiet_at.items = omega (arith, c.self.inside.quiet_at.ok.0) in
    let len : length c.unwind.new.quiet_at ≡ length c.self.inside.quiet_at.items = c.unwind.auto.quiet_at ∙ ap length c.deref_mut.ensures.value in
    let back = returned c.self.inside.quiet_at.items c.unwind.new.quiet_at c.self.inside.quiet_at.len number len in
    let less = rw c.deref_mut.ensures.value at c.unwind.ensures.less in
    let low : c.last_quiet-place.result ≤ c.args.mark.0 = c.last_quiet-place.ensures in
    let within : c.last_quiet-place.result < length c.unwind.new.quiet_at = omega (arith, low, len, c.self.invariant.lengths, c.unwind.ensures.few, ap (λ (p : Problem). p.atoms) c.unwind.ensures.kept.problem) in
    let examined : c.index.result.now ≡ get_or c.unwind.new.quiet_at c.last_quiet-place.result 0 = rw back at c.index.ensures ∙ get_or_default c.unwind.new.quiet_at c.last_quiet-place.result c.index.result.now 0 within in
    rw (back, examined) (engine_back c.self.inside.store c.unwind.new.store c.self.inside.progress c.args.mark.0 c.last_quiet-place.result c.self.inside.quiet_at.items c.unwind.new.quiet_at c.unwind.ensures.caused c.self.invariant c.unwind.ensures.kept c.unwind.ensures.entries left low c.unwind.ensures.quiet_at len less)
