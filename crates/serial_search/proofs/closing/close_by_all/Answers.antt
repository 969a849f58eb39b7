use Rattle.std.proofs.Common.{◌≡◌, ◌∙◌, refl, sym}
use Rattle.count_core.specs.Problems.{IsWellFormed}
use Rattle.count_core.specs.Steps.{NegatesOnly}
use Rattle.serial_search.specs.Assumptions.{assumed_of}
use Rattle.serial_search.proofs.Negations.{negations_negate}
use Rattle.serial_search.proofs.Links.{conflict_leads_on, gained_closes}
use Rattle.serial_search.proofs.closing.close_by_all.Goals as goal

pub unreachable-requires : goal.unreachable-requires
unreachable-requires c =
    let formed : IsWellFormed c.args.engine.now.problem = rw (c.deref.ensures, c.problem.ensures) at c.rules-rules.ensures.formed in
    let leads = conflict_leads_on c.args.log.now c.args.engine.now c.args.conflict c.requires.linked c.trail-trail.ensures.sound formed c.requires.conflict in
    let some = c.in_ok-number.ensures.leads (rw (c.as_slice.ensures.value, c.in_ok-clause.ensures, c.as_slice-2.ensures.value, c.in_ok-hints.ensures) leads) in
    let none = rw c.in-None.is at some in
    cc

pub returns-clause-closed : goal.returns-clause-closed
returns-clause-closed c =
    let number = rw c.in-Some.is at c.in_ok-number.ensures.number in
    let gained = rw c.in-Some.is at c.in_ok-number.ensures.added in
    let clause = rw c.in-Some.is at c.in_ok-number.ensures.clause in
    let negates : NegatesOnly (assumed_of c.args.engine.now.entries) c.as_slice.result.now = rw (c.as_slice.ensures.value, c.in_ok-clause.ensures) (negations_negate (assumed_of c.args.engine.now.entries)) in
    gained_closes c.args.log.now c.add_leading.new.self (assumed_of c.args.engine.now.entries) _ _ c.in-Some.number gained number clause negates
