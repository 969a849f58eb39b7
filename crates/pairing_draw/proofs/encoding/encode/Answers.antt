use Rattle.std.proofs.Common.{◌≡◌, sym, ◌∙◌, subst}
use Rattle.count_core.specs.Problems.{IsWellFormed}
use Rattle.draw_tables.specs.Pots.{runners_up, winners}
use Rattle.pairing_draw.specs.Encoding.{problem_between}
use Rattle.pairing_draw.proofs.encoding.encode.Goals as goal

pub problem_between-requires-clause-formed : goal.problem_between-requires-clause-formed
problem_between-requires-clause-formed c =
    let file = c.args.file.now in
    let formed : IsWellFormed (problem_between file (runners_up file) (winners file)) = c.law_rules_and_questions_are_formed.ensures.rules file c.requires.kind c.in_ok-winners.ensures.formed in
    let runners : c.deref.result.now ≡ runners_up file = c.deref.ensures.value ∙ c.in_ok-runners.ensures.teams in
    let others : c.deref-2.result.now ≡ winners file = c.deref-2.ensures.value ∙ c.in_ok-winners.ensures.teams in
    subst (λ rs. IsWellFormed (problem_between file rs c.deref-2.result.now)) (sym runners) (subst (λ ws. IsWellFormed (problem_between file (runners_up file) ws)) (sym others) formed)
