use Rattle.std.proofs.Common.{◌≡◌, ◌∙◌, ap, subst}
use Rattle.serial_search.specs.Answers.{Searching, IsRight}
use Rattle.serial_search.proofs.Answers.{possible_exactly, impossible_exactly}
use Rattle.serial_search.proofs.session.solve.Goals as goal

pub returns-clause-possible : goal.returns-clause-possible
returns-clause-possible c =
    let same : c.search_to_end.new.log.problem ≡ c.args.session.now.problem = c.search_to_end.ensures.continued.problem ∙ ap (λ (s : Searching). s.problem) c.session.view_is in
    possible_exactly _ _ _ (subst (λ p. IsRight p c.args.question.now c.in_ok-found.found.outcome) same c.in_ok-found.ensures.right)

pub returns-clause-impossible : goal.returns-clause-impossible
returns-clause-impossible c =
    let same : c.search_to_end.new.log.problem ≡ c.args.session.now.problem = c.search_to_end.ensures.continued.problem ∙ ap (λ (s : Searching). s.problem) c.session.view_is in
    impossible_exactly _ _ _ (subst (λ p. IsRight p c.args.question.now c.in_ok-found.found.outcome) same c.in_ok-found.ensures.right)
