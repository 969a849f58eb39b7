use Rattle.std.proofs.Common.{◌≡◌, ◌∙◌, ap, sym, subst, List, length, arith}
use Rattle.count_core.specs.declared.step.Step.{Step}
use Rattle.refutations.specs.Derivations.{Derivation, IsLemma}
use Rattle.refutations.specs.Shifts.{ArePutBehind}
use Rattle.propagation.specs.Engines.{OnlyTrailDiffers}
use Rattle.serial_search.proofs.Links.{last_shaped, put_continued, put_linked, linked_on}
use Rattle.serial_search.proofs.importing.import_lemma.Goals as goal

pub add_clause-requires-clause-clause : goal.add_clause-requires-clause-clause
add_clause-requires-clause-clause c =
    rw (c.clause.ensures.clause, c.requires.linked.problem, ← c.requires.same) (last_shaped c.args.lemma.now.problem c.args.lemma.now.steps c.steps.ensures.lemma)

pub returns-in_err-add_clause-clause-linked : goal.returns-in_err-add_clause-clause-linked
returns-in_err-add_clause-clause-linked c =
    let continued = put_continued c.args.log.now c.append_all.new.self c.in_ok-own.own.steps c.append_all.ensures.problem c.in_ok-shift.ensures.steps in
    let kept : OnlyTrailDiffers c.args.engine.now c.add_clause.new.self = record { problem = c.add_clause.ensures.problem; clauses = c.in_err-add_clause.ensures.err; room = (let same = c.add_clause.ensures.room in omega arith) } in
    linked_on c.args.log.now c.append_all.new.self c.args.engine.now c.add_clause.new.self c.requires.linked continued kept

pub returns-clause-linked : goal.returns-clause-linked
returns-clause-linked c =
    let same : c.in_ok-own.own.steps ≡ c.args.lemma.now.steps = ap (λ (d : Derivation). d.steps) c.in_ok-own.ensures ∙ c.steps.ensures.steps in
    let put : ArePutBehind c.args.log.now.steps c.append_all.new.self.steps c.args.lemma.now.steps = subst (λ (ss : List Step). ArePutBehind c.args.log.now.steps c.append_all.new.self.steps ss) same c.in_ok-shift.ensures.steps in
    put_linked c.args.log.now c.append_all.new.self c.args.engine.now c.add_clause.new.self c.args.lemma.now.problem c.args.lemma.now.steps _ c.requires.linked c.append_all.ensures.problem put c.steps.ensures.lemma
    (omega (arith, c.in_ok-shift.ensures.shift, ap length same, ap (λ (d : Derivation). length d.steps) c.in_ok-own.ensures, ap length c.steps-2.ensures.steps, c.steps.ensures.lemma.some)) c.add_clause.ensures.problem (rw c.clause.ensures.clause at c.in_ok-add_clause.ensures.ok) c.add_clause.ensures.room
