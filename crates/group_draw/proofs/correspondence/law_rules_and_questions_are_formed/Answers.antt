use Rattle.group_draw.proofs.FormedRules.{rules_formed}
use Rattle.group_draw.proofs.StateMoves.{are_questions}
use Rattle.group_draw.proofs.correspondence.law_rules_and_questions_are_formed.Goals as goal

pub returns-clause-rules : goal.returns-clause-rules
returns-clause-rules c = λ file kind formed. rules_formed file kind (c.law_files_have_form.ensures file formed)

pub returns-clause-questions : goal.returns-clause-questions
returns-clause-questions c = are_questions
