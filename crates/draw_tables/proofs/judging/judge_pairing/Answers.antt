use Rattle.std.proofs.Common.{refl, sym, ◌∙◌}
use Rattle.draw_tables.proofs.Judgements.{few, judged_1, judged_2, judged_3, judged_4, judged_legal}
use Rattle.draw_tables.proofs.judging.judge_pairing.Goals as goal

pub first_not_once-requires : goal.first_not_once-requires
first_not_once-requires c = few c.args.file.now c.args.winners.now c.expect_form.ensures.form.common c.requires

pub returns-in-Some : goal.returns-in-Some
returns-in-Some c = judged_1 c.args.file.now c.args.winners.now c.in-Some.found _ (sym c.first_not_once.ensures ∙ c.in-Some.is) refl

pub returns-in-Some-first_pair : goal.returns-in-Some-first_pair
returns-in-Some-first_pair c =
    judged_2 c.args.file.now c.args.winners.now c.in-Some-first_pair.pair c.broken_pair.result (sym c.first_not_once.ensures ∙ c.in_default.is) (sym c.first_pair.ensures ∙ c.in-Some-first_pair.is) c.broken_pair.ensures

pub returns-in-Some-first_pair-2 : goal.returns-in-Some-first_pair-2
returns-in-Some-first_pair-2 c =
    judged_3 c.args.file.now c.args.winners.now c.in-Some-first_pair-2.pair _ (sym c.first_not_once.ensures ∙ c.in_default.is) (sym c.first_pair.ensures ∙ c.in_default-first_pair.is)
    (sym c.first_pair-2.ensures ∙ c.in-Some-first_pair-2.is) c.broken_pair-in-Some-first_pair-2.ensures

pub returns-in-Some-first_pair-3 : goal.returns-in-Some-first_pair-3
returns-in-Some-first_pair-3 c =
    judged_4 c.args.file.now c.args.winners.now c.in-Some-first_pair-3.pair _ (sym c.first_not_once.ensures ∙ c.in_default.is) (sym c.first_pair.ensures ∙ c.in_default-first_pair.is)
    (sym c.first_pair-2.ensures ∙ c.in_default-first_pair-2.is) (sym c.first_pair-3.ensures ∙ c.in-Some-first_pair-3.is) c.broken_pair-in-Some-first_pair-3.ensures

pub returns : goal.returns
returns c =
    judged_legal c.args.file.now c.args.winners.now c.expect_form.ensures.form c.requires (sym c.first_not_once.ensures ∙ c.in_default.is)
    (sym c.first_pair.ensures ∙ c.in_default-first_pair.is) (sym c.first_pair-2.ensures ∙ c.in_default-first_pair-2.is) (sym c.first_pair-3.ensures ∙ c.in_default-first_pair-3.is)
