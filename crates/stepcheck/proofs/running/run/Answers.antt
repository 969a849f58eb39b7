use Rattle.std.proofs.Common.{inl, ◌≡◌, ◌<◌, ◌≤◌, length, inr, arith}
use Rattle.stepcheck.specs.Runs.{HasBadStep, IsAcceptedText, IsRefused, IsRefusalOf}
use Rattle.stepcheck.proofs.Runs.{told, gains, gains_part, one_limit, accepted_not_bad, accepted_not_refused, bad_not_refused, told_bad, told_refused}
use Rattle.stepcheck.proofs.running.run.Goals as goal

pub returns-in-Ok-put_all-clause-complete_bad : goal.returns-in-Ok-put_all-clause-complete_bad
returns-in-Ok-put_all-clause-complete_bad g c = λ holds _ _.
    let bytes = c.in-Ok-read_all.text.items in
    let accepted = rw (c.deref.ensures.value, c.in-Ok-Accepted.field-0-is) at c.in-Ok-Accepted.ensures.told in
    let bad = told bytes _ _ (λ i. (length i ≤ holds.0) × HasBadStep i) c.in-Ok-read_all.ensures.all c.in-Ok-read_all.ensures.end holds.2 in
    inl (absurd (accepted_not_bad bytes accepted bad.1))

pub returns-in-Ok-put_all-clause-complete_refused : goal.returns-in-Ok-put_all-clause-complete_refused
returns-in-Ok-put_all-clause-complete_refused g c = λ holds _ _.
    let bytes = c.in-Ok-read_all.text.items in
    let accepted = rw (c.deref.ensures.value, c.in-Ok-Accepted.field-0-is) at c.in-Ok-Accepted.ensures.told in
    let refused = told bytes _ _ (λ i. (length i ≤ holds.0) × IsRefused i) c.in-Ok-read_all.ensures.all c.in-Ok-read_all.ensures.end holds.2 in
    inl (absurd (accepted_not_refused bytes accepted refused.1))

pub returns-in-Ok-put_all-clause-complete_too_long : goal.returns-in-Ok-put_all-clause-complete_too_long
returns-in-Ok-put_all-clause-complete_too_long g c = λ holds _ _.
    let same : holds.0 ≡ c.in-Some.limit = one_limit _ holds.0 c.in-Some.limit holds.1 c.in-Some.ensures in
    let long : holds.0 < length c.in-Ok-read_all.text.items = told c.in-Ok-read_all.text.items _ _ (λ i. holds.0 < length i) c.in-Ok-read_all.ensures.all c.in-Ok-read_all.ensures.end holds.2 in
    inl (absurd (omega (arith, c.in-Ok-read_all.ensures.fits)))

pub returns-in-Ok-put_all-2-clause-complete : goal.returns-in-Ok-put_all-2-clause-complete
returns-in-Ok-put_all-2-clause-complete g c = λ holds _ _.
    let bytes = c.in-Ok-read_all.text.items in
    let objection = rw (c.deref.ensures.value, c.in-Ok-Bad.field-0-is) at c.in-Ok-Bad.ensures.told in
    let accepted = told bytes _ _ (λ i. (length i ≤ holds.0) × IsAcceptedText i) c.in-Ok-read_all.ensures.all c.in-Ok-read_all.ensures.end holds.2 in
    inl (absurd (accepted_not_bad bytes accepted.1 (told_bad bytes c.in-Ok-Bad.line.items objection)))

pub returns-in-Ok-put_all-2-clause-complete_refused : goal.returns-in-Ok-put_all-2-clause-complete_refused
returns-in-Ok-put_all-2-clause-complete_refused g c = λ holds _ _.
    let bytes = c.in-Ok-read_all.text.items in
    let objection = rw (c.deref.ensures.value, c.in-Ok-Bad.field-0-is) at c.in-Ok-Bad.ensures.told in
    let refused = told bytes _ _ (λ i. (length i ≤ holds.0) × IsRefused i) c.in-Ok-read_all.ensures.all c.in-Ok-read_all.ensures.end holds.2 in
    inl (absurd (bad_not_refused bytes (told_bad bytes c.in-Ok-Bad.line.items objection) refused.1))

pub returns-in-Ok-put_all-2-clause-complete_too_long : goal.returns-in-Ok-put_all-2-clause-complete_too_long
returns-in-Ok-put_all-2-clause-complete_too_long g c = λ holds _ _.
    let same : holds.0 ≡ c.in-Some.limit = one_limit _ holds.0 c.in-Some.limit holds.1 c.in-Some.ensures in
    let long : holds.0 < length c.in-Ok-read_all.text.items = told c.in-Ok-read_all.text.items _ _ (λ i. holds.0 < length i) c.in-Ok-read_all.ensures.all c.in-Ok-read_all.ensures.end holds.2 in
    inl (absurd (omega (arith, c.in-Ok-read_all.ensures.fits)))

pub returns-in-Ok-put_all-3-clause-refused : goal.returns-in-Ok-put_all-3-clause-refused
returns-in-Ok-put_all-3-clause-refused g c = λ _.
    let wrote = rw c.deref-in-Ok-Refused.ensures.value at c.in-Ok-put_all-3.ensures.all in
    let refusal = rw (c.deref.ensures.value, c.in-Ok-Refused.field-0-is) at c.in-Ok-Refused.ensures.told in
    gains c.in-Ok-read_all.text.items c.in-Ok-Refused.line.items _ _ _ _ IsRefusalOf c.in-Ok-read_all.ensures.all c.in-Ok-read_all.ensures.end refusal wrote

pub returns-in-Ok-put_all-3-clause-complete : goal.returns-in-Ok-put_all-3-clause-complete
returns-in-Ok-put_all-3-clause-complete g c = λ holds _ _.
    let bytes = c.in-Ok-read_all.text.items in
    let refusal = rw (c.deref.ensures.value, c.in-Ok-Refused.field-0-is) at c.in-Ok-Refused.ensures.told in
    let accepted = told bytes _ _ (λ i. (length i ≤ holds.0) × IsAcceptedText i) c.in-Ok-read_all.ensures.all c.in-Ok-read_all.ensures.end holds.2 in
    inl (absurd (accepted_not_refused bytes accepted.1 (told_refused bytes c.in-Ok-Refused.line.items refusal)))

pub returns-in-Ok-put_all-3-clause-complete_bad : goal.returns-in-Ok-put_all-3-clause-complete_bad
returns-in-Ok-put_all-3-clause-complete_bad g c = λ holds _ _.
    let bytes = c.in-Ok-read_all.text.items in
    let refusal = rw (c.deref.ensures.value, c.in-Ok-Refused.field-0-is) at c.in-Ok-Refused.ensures.told in
    let bad = told bytes _ _ (λ i. (length i ≤ holds.0) × HasBadStep i) c.in-Ok-read_all.ensures.all c.in-Ok-read_all.ensures.end holds.2 in
    inl (absurd (bad_not_refused bytes bad.1 (told_refused bytes c.in-Ok-Refused.line.items refusal)))

pub returns-in-Ok-put_all-3-clause-complete_too_long : goal.returns-in-Ok-put_all-3-clause-complete_too_long
returns-in-Ok-put_all-3-clause-complete_too_long g c = λ holds _ _.
    let same : holds.0 ≡ c.in-Some.limit = one_limit _ holds.0 c.in-Some.limit holds.1 c.in-Some.ensures in
    let long : holds.0 < length c.in-Ok-read_all.text.items = told c.in-Ok-read_all.text.items _ _ (λ i. holds.0 < length i) c.in-Ok-read_all.ensures.all c.in-Ok-read_all.ensures.end holds.2 in
    inl (absurd (omega (arith, c.in-Ok-read_all.ensures.fits)))

pub returns-in-Ok-Refused-clause-write_part : goal.returns-in-Ok-Refused-clause-write_part
returns-in-Ok-Refused-clause-write_part g c = λ _ _.
    let wrote = rw c.deref-in-Ok-Refused.ensures.value at c.in-Err-put_all-3.ensures.some in
    let refusal = rw (c.deref.ensures.value, c.in-Ok-Refused.field-0-is) at c.in-Ok-Refused.ensures.told in
    gains_part c.in-Ok-read_all.text.items c.in-Ok-Refused.line.items _ _ _ _ c.in-Ok-read_all.ensures.all c.in-Ok-read_all.ensures.end (inr (inr refusal)) wrote
