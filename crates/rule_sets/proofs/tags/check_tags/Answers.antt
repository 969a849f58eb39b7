use Rattle.std.proofs.Common.{◌∙◌, sym}
use Rattle.rule_sets.proofs.LookUpSteps.{tags_known, tags_unknown}
use Rattle.rule_sets.proofs.tags.check_tags.Goals as goal

pub returns-then-not-has_limits : goal.returns-then-not-has_limits
returns-then-not-has_limits c =
    let unknown = sym c.has_limits.ensures ∙ c.if-not-has_limits.true in
    sym (tags_unknown c.args.limits.now c.args.teams.now c.loop-place.place c.get.result.now c.get.ensures unknown) ∙ c.loop-place.invariant

pub loop-place-preserved : goal.loop-place-preserved
loop-place-preserved c =
    let known = sym c.has_limits.ensures ∙ c.if-not-has_limits.false in
    tags_known c.args.limits.now c.args.teams.now c.loop-place.place c.get.result.now c.get.ensures known ∙ c.loop-place.invariant
