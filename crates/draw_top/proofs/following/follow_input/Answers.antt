use Rattle.std.proofs.Common.{inl, inr}
use Rattle.draw_top.specs.declared.status.Status.{Status}
use Rattle.draw_top.specs.Follow.{IsAnswerOf, IsRefusalOf}
use Rattle.draw_top.specs.Modes.{Follow}
use Rattle.draw_top.proofs.WhatWasRead.{answer_decides, refusal_decides}
use Rattle.draw_top.proofs.RowsOfStatuses.{ended, complete}
use Rattle.draw_top.proofs.following.follow_input.Goals as goal

pub returns-in-Ok-Answer-clause-ends : goal.returns-in-Ok-Answer-clause-ends
returns-in-Ok-Answer-clause-ends g c =
    let answer = rw (c.deref.ensures.value, c.in-Ok-Answer.field-0-is) at c.in-Ok-Answer.ensures in
    let put = rw c.deref-in-Ok-Answer.ensures.value at c.finish.ensures in
    ended Follow c.in-Ok.input.items c.in-Ok-Answer.text.items Status.Ok _ _ _ IsAnswerOf (λ h. h) c.in-Ok.ensures.read answer (inl answer) put

pub returns-in-Ok-Answer-clause-complete : goal.returns-in-Ok-Answer-clause-complete
returns-in-Ok-Answer-clause-complete g c = λ called.
    let input = c.in-Ok.input.items in
    let text = c.in-Ok-Answer.text.items in
    let read = c.in-Ok.ensures.read in
    let answer = rw (c.deref.ensures.value, c.in-Ok-Answer.field-0-is) at c.in-Ok-Answer.ensures in
    let put = rw c.deref-in-Ok-Answer.ensures.value at c.finish.ensures in
    complete Follow input text Status.Ok _ _ _ called read (answer_decides input text called read.fits answer) put

pub returns-in-Ok-Refusal-clause-ends : goal.returns-in-Ok-Refusal-clause-ends
returns-in-Ok-Refusal-clause-ends g c =
    let refusal = rw (c.deref.ensures.value, c.in-Ok-Refusal.field-0-is) at c.in-Ok-Refusal.ensures in
    let put = rw c.deref-in-Ok-Refusal.ensures.value at c.finish-in-Ok-Refusal.ensures in
    ended Follow c.in-Ok.input.items c.in-Ok-Refusal.line.items Status.FileRefused _ _ _ IsRefusalOf (λ h. h) c.in-Ok.ensures.read refusal (inr refusal) put

pub returns-in-Ok-Refusal-clause-complete : goal.returns-in-Ok-Refusal-clause-complete
returns-in-Ok-Refusal-clause-complete g c = λ called.
    let input = c.in-Ok.input.items in
    let line = c.in-Ok-Refusal.line.items in
    let read = c.in-Ok.ensures.read in
    let refusal = rw (c.deref.ensures.value, c.in-Ok-Refusal.field-0-is) at c.in-Ok-Refusal.ensures in
    let put = rw c.deref-in-Ok-Refusal.ensures.value at c.finish-in-Ok-Refusal.ensures in
    complete Follow input line Status.FileRefused _ _ _ called read (refusal_decides input line called read.fits refusal) put
