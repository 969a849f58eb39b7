use Rattle.std.proofs.Common.{◌≡◌, ◌++◌, map, arith, length, length-append}
use Rattle.std.proofs.lemmas.List.{length-map}
use Rattle.count_core.specs.Steps.{AreAccepted}
use Rattle.refutations.specs.Shifts.{shifted_step}
use Rattle.refutations.proofs.EarlierSteps.{accepted_earlier}
use Rattle.refutations.proofs.Shifting.{appended_accepted}
use Rattle.refutations.proofs.proof_log.ProofLog.append_all.Goals as goal

pub shifted_steps-requires-clause-earlier : goal.shifted_steps-requires-clause-earlier
shifted_steps-requires-clause-earlier c = rw c.as_slice.ensures.value (accepted_earlier _ _ c.other.invariant.accepted)

pub invariant_of-self-2 : goal.invariant_of-self-2
invariant_of-self-2 c =
    let problem : c.self.inside.problem.value ≡ c.other.inside.problem.value = rw (← c.self.view_is, ← c.other.view_is) at c.requires in
    let other : AreAccepted c.self.inside.problem.value c.other.inside.steps.items = rw problem c.other.invariant.accepted in
    let shift : c.len-shift.result ≡ length c.self.inside.steps.items = omega (arith, c.len-shift.ensures, c.self.inside.steps.ok.0) in
    let items : c.append.new.self.items ≡ c.self.inside.steps.items ++ map (shifted_step (length c.self.inside.steps.items)) c.other.inside.steps.items = rw (c.in_ok-append.ensures.items, c.in_ok-steps.ensures, c.as_slice.ensures.value, shift) in
    record {
      accepted = rw items (appended_accepted _ _ _ c.self.invariant.accepted other);
      few = rw items (omega (arith, length-append c.self.inside.steps.items (map (shifted_step (length c.self.inside.steps.items)) c.other.inside.steps.items), length-map c.other.inside.steps.items (shifted_step (length c.self.inside.steps.items)), c.len.ensures, c.other.inside.steps.ok.0, shift));
      clear = c.self.invariant.clear;
    }
