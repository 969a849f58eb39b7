use Rattle.std.proofs.Common.{◌<◌, IfOk, length}
use Rattle.std.proofs.lemmas.Result.{IfOk-weaker}
use Rattle.refutations.specs.Cones.{IsCone}
use Rattle.refutations.proofs.EarlierSteps.{accepted_earlier}
use Rattle.refutations.proofs.Sublists.{cone_lemma}
use Rattle.refutations.proofs.proof_log.ProofLog.cone.Goals as goal

pub cone_of-requires-clause-earlier : goal.cone_of-requires-clause-earlier
cone_of-requires-clause-earlier c = rw c.as_slice.ensures.value (accepted_earlier _ _ c.self.invariant.accepted)

pub returns-clause-lemma : goal.returns-clause-lemma
returns-clause-lemma c =
    let lt : c.args.step < length c.self.inside.steps.items = rw (← c.self.view_is) at c.requires in
    let cone : IfOk c.cone_of.result (λ v. IsCone c.self.inside.steps.items c.args.step v.items) = rw c.as_slice.ensures.value at c.cone_of.ensures in
    rw (← c.self.view_is) (IfOk-weaker c.cone_of.result _ _ (λ v h. (cone_lemma _ _ _ _ c.self.invariant.accepted lt h).0) cone)

pub returns-clause-clause : goal.returns-clause-clause
returns-clause-clause c =
    let lt : c.args.step < length c.self.inside.steps.items = rw (← c.self.view_is) at c.requires in
    let cone : IfOk c.cone_of.result (λ v. IsCone c.self.inside.steps.items c.args.step v.items) = rw c.as_slice.ensures.value at c.cone_of.ensures in
    rw (← c.self.view_is) (IfOk-weaker c.cone_of.result _ _ (λ v h. (cone_lemma _ _ _ _ c.self.invariant.accepted lt h).1) cone)
