use Rattle.std.proofs.Common.{◌<◌, length, arith, sym, ap, ◌∙◌, Some}
use Rattle.std.proofs.lemmas.Option.{slice_get-get_or}
use Rattle.count_core.specs.Limits.{number_limit}
use Rattle.count_core.proofs.Lists.{each_at}
use Rattle.cert_checker.specs.Countable.{HasCountableHints}
use Rattle.cert_checker.proofs.checking.first_bad.Goals as goal

pub overflow_cast-result-in-Some : goal.overflow_cast-result-in-Some
overflow_cast-result-in-Some c =
    let few : length c.index-steps-place.result.hints < number_limit = each_at HasCountableHints c.args.steps.now c.loop-place.place c.index-steps-place.result c.requires.countable.hints (slice_get-get_or c.args.steps.now c.loop-place.place c.index-steps-place.result (omega arith) ∙ ap (λ s. Some s) (sym c.index-steps-place.is)) in
    omega (arith, c.in-Some.ensures.within)
