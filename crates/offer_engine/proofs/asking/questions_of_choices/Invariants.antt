use Rattle.std.proofs.Common.{◌≡◌, map, take}
use Rattle.offer_engine.specs.Encodings.{rules_of}
use Rattle.offer_engine.specs.Questions.{AreWithin, question_of}
use Rattle.offer_engine.proofs.asking.questions_of_choices.Given as goal

-- the questions so far
abbrev pub invariant-loop-choice : goal.invariant-loop-choice
invariant-loop-choice l =
    (l.asked.items ≡ map (question_of l.state.file l.state.moves) (take l.choice-index l.choices)) × AreWithin (rules_of l.state.file).atoms l.asked.items
