use Rattle.std.proofs.Common.{◌≡◌, true, ◌++◌, [], ◌∷◌, map, take, get_or, sym, ap, ◌∙◌, subst}
use Rattle.std.proofs.lemmas.List.{map_more}
use Rattle.count_core.specs.Problems.{are_within}
use Rattle.draw_tables.specs.declared.moves.Choice.{Choice}
use Rattle.offer_engine.specs.Encodings.{rules_of}
use Rattle.offer_engine.specs.Questions.{question_of}
use Rattle.offer_engine.proofs.StateQuestions.{question_later, among_push}
use Rattle.offer_engine.proofs.asking.questions_of_choices.Goals as goal

abbrev none : Choice
none = Choice.Team (record { 0 = 0 })

pub loop-choice-preserved : goal.loop-choice-preserved
loop-choice-preserved c =
    let state = c.args.state.now in
    let i = c.loop-choice.choice-index in
    let later = c.in_ok-later.later in
    let q = c.in_ok-question_of.field-0 in
    let asks : q ≡ question_of state.file state.moves (get_or c.args.choices.now i none) =
    c.in_ok-question_of.ensures.question ∙ question_later state later (get_or c.args.choices.now i none) c.in_ok-later.ensures in
    let within = subst (λ f. are_within (rules_of f).atoms q ≡ true) c.in_ok-later.ensures.2 c.in_ok-question_of.ensures.within in
    rw c.in_ok-push.ensures.items (
      ap (λ qs. qs ++ q ∷ []) c.loop-choice.invariant.0 ∙ ap (λ x. map (question_of state.file state.moves) (take i c.args.choices.now) ++ x ∷ []) asks
          ∙ sym (map_more (question_of state.file state.moves) c.args.choices.now i none c.loop-choice-test.true),
      among_push (λ x. are_within (rules_of state.file).atoms x ≡ true) c.loop-choice.asked.items q c.loop-choice.invariant.1 within,
    )
