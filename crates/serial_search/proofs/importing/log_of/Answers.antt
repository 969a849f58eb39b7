use Rattle.std.proofs.Common.{◌≡◌, refl, arith, Some, slice_get, take}
use Rattle.std.proofs.lemmas.Option.{slice_get_read}
use Rattle.count_core.specs.Steps.{step_of, IsAccepted}
use Rattle.count_core.proofs.Renumbering.{accepted_at}
use Rattle.serial_search.proofs.importing.log_of.Goals as goal

pub unreachable-requires : goal.unreachable-requires
unreachable-requires c =
    let at : slice_get c.args.steps.now c.loop-step.step-index ≡ Some c.step-item.result = slice_get_read c.args.steps.now _ _ _ refl (omega arith) c.step-item.is in
    let accepted : IsAccepted c.args.problem.value (take c.loop-step.step-index c.args.steps.now) (step_of c.step-item.result.clause c.step-item.result.hints) = accepted_at c.args.problem.value c.args.steps.now c.loop-step.step-index c.step-item.result c.requires at in
    let memory = c.in-Err-NotAccepted.ensures.taken (rw (c.loop-step.invariant.problem, c.loop-step.invariant.steps, c.as_slice.ensures, c.as_slice-hints.ensures) accepted) in
    cc
