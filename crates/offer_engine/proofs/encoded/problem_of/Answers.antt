use Rattle.std.proofs.Common.{◌≡◌, ◌∙◌, sym, subst}
use Rattle.std.specs.Prelude.{IfOk}
use Rattle.team_files.specs.declared.kind.Kind.{Kind}
use Rattle.offer_engine.proofs.StateQuestions.{group_rules_are, pairing_rules_are}
use Rattle.offer_engine.proofs.encoded.problem_of.Goals as goal

pub returns-in-Group : goal.returns-in-Group
returns-in-Group c =
    let kind : c.args.file.now.kind ≡ Kind.Group = sym c.kind.ensures.kind ∙ c.in-Group.is in
    subst (λ rules. IfOk c.encode.result (λ p. p ≡ rules)) (sym (group_rules_are c.args.file.now kind)) c.encode.ensures

pub returns-in-Pairing : goal.returns-in-Pairing
returns-in-Pairing c =
    let kind : c.args.file.now.kind ≡ Kind.Pairing = sym c.kind.ensures.kind ∙ c.in-Pairing.is in
    subst (λ rules. IfOk c.encode-in-Pairing.result (λ p. p ≡ rules)) (sym (pairing_rules_are c.args.file.now kind)) c.encode-in-Pairing.ensures
