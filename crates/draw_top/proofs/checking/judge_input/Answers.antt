use Rattle.std.proofs.Common.{inl, inr, refl}
use Rattle.draw_top.specs.declared.status.Status.{Status}
use Rattle.draw_top.specs.Follow.{IsRefusalOf}
use Rattle.draw_top.specs.Check.{IsApprovalOf, IsObjectionTo}
use Rattle.draw_top.specs.Modes.{Judge}
use Rattle.draw_top.proofs.TableVerdicts.{legal_decides, objection_decides, refusal_decides}
use Rattle.draw_top.proofs.RowsOfStatuses.{ended, complete}
use Rattle.draw_top.proofs.checking.judge_input.Goals as goal

pub returns-in-Ok-Legal-clause-ends : goal.returns-in-Ok-Legal-clause-ends
returns-in-Ok-Legal-clause-ends g c =
    let legal = rw (c.deref.ensures.value, c.in-Ok-Legal.field-0-is) at c.in-Ok-Legal.ensures in
    ended Judge c.in-Ok.input.items _ Status.Ok _ _ _ IsApprovalOf (λ h. h) c.in-Ok.ensures.read (legal, refl) (inl (legal, refl)) c.finish.ensures

pub returns-in-Ok-Legal-clause-complete : goal.returns-in-Ok-Legal-clause-complete
returns-in-Ok-Legal-clause-complete g c = λ called.
    let input = c.in-Ok.input.items in
    let read = c.in-Ok.ensures.read in
    let legal = rw (c.deref.ensures.value, c.in-Ok-Legal.field-0-is) at c.in-Ok-Legal.ensures in
    complete Judge input _ Status.Ok _ _ _ called read (legal_decides input called read.fits legal) c.finish.ensures

pub returns-in-Ok-NotValid-clause-ends : goal.returns-in-Ok-NotValid-clause-ends
returns-in-Ok-NotValid-clause-ends g c =
    let objection = rw (c.deref.ensures.value, c.in-Ok-NotValid.field-0-is) at c.in-Ok-NotValid.ensures in
    let put = rw c.deref-in-Ok-NotValid.ensures.value at c.finish-in-Ok-NotValid.ensures in
    ended Judge c.in-Ok.input.items c.in-Ok-NotValid.line.items Status.NotValid _ _ _ IsObjectionTo (λ h. h) c.in-Ok.ensures.read objection (inr (inl objection)) put

pub returns-in-Ok-NotValid-clause-complete : goal.returns-in-Ok-NotValid-clause-complete
returns-in-Ok-NotValid-clause-complete g c = λ called.
    let input = c.in-Ok.input.items in
    let line = c.in-Ok-NotValid.line.items in
    let read = c.in-Ok.ensures.read in
    let objection = rw (c.deref.ensures.value, c.in-Ok-NotValid.field-0-is) at c.in-Ok-NotValid.ensures in
    let put = rw c.deref-in-Ok-NotValid.ensures.value at c.finish-in-Ok-NotValid.ensures in
    let one = objection_decides c.law_one_table_of_text.ensures c.law_legal_where_nothing_broken.ensures.none_broken in
    complete Judge input line Status.NotValid _ _ _ called read (one input line called read.fits objection) put

pub returns-in-Ok-Refused-clause-ends : goal.returns-in-Ok-Refused-clause-ends
returns-in-Ok-Refused-clause-ends g c =
    let refusal = rw (c.deref.ensures.value, c.in-Ok-Refused.field-0-is) at c.in-Ok-Refused.ensures in
    let put = rw c.deref-in-Ok-Refused.ensures.value at c.finish-in-Ok-Refused.ensures in
    ended Judge c.in-Ok.input.items c.in-Ok-Refused.line.items Status.FileRefused _ _ _ IsRefusalOf (λ h. h) c.in-Ok.ensures.read refusal (inr (inr refusal)) put

pub returns-in-Ok-Refused-clause-complete : goal.returns-in-Ok-Refused-clause-complete
returns-in-Ok-Refused-clause-complete g c = λ called.
    let input = c.in-Ok.input.items in
    let line = c.in-Ok-Refused.line.items in
    let read = c.in-Ok.ensures.read in
    let refusal = rw (c.deref.ensures.value, c.in-Ok-Refused.field-0-is) at c.in-Ok-Refused.ensures in
    let put = rw c.deref-in-Ok-Refused.ensures.value at c.finish-in-Ok-Refused.ensures in
    complete Judge input line Status.FileRefused _ _ _ called read (refusal_decides input line called read.fits refusal) put
