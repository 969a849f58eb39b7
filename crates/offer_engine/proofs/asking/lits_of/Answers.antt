use Rattle.std.proofs.Common.{◌≡◌, ◌∙◌, true, sym, ap, subst}
use Rattle.std.specs.Prelude.{IfOk}
use Rattle.team_files.specs.declared.kind.Kind.{Kind}
use Rattle.count_core.specs.Problems.{are_within}
use Rattle.offer_engine.specs.Encodings.{lits_of, rules_of}
use Rattle.offer_engine.proofs.StateQuestions.{group_lits_are, group_rules_are, pairing_lits_are, pairing_rules_are}
use Rattle.offer_engine.proofs.asking.lits_of.Goals as goal

pub returns-in-Group-clause-literals : goal.returns-in-Group-clause-literals
returns-in-Group-clause-literals c =
    let file = c.file-file.result.now in
    let ms = c.moves.result.now in
    let kind : file.kind ≡ Kind.Group = sym c.kind.ensures.kind ∙ c.in-Group.is in
    let same : lits_of c.args.state.now.file c.args.state.now.moves ≡ lits_of file ms = ap (λ f. lits_of f c.args.state.now.moves) (sym c.file-file.ensures.file) ∙ ap (lits_of file) (sym c.moves.ensures) in
    subst (λ lits. IfOk c.lits_of.result (λ v. v.items ≡ lits)) (sym (same ∙ group_lits_are file ms kind)) c.lits_of.ensures.literals

pub returns-in-Group-clause-within : goal.returns-in-Group-clause-within
returns-in-Group-clause-within c =
    let file = c.file-file.result.now in
    let kind : file.kind ≡ Kind.Group = sym c.kind.ensures.kind ∙ c.in-Group.is in
    let same : rules_of c.args.state.now.file ≡ rules_of file = ap rules_of (sym c.file-file.ensures.file) in
    subst (λ rules. IfOk c.lits_of.result (λ v. are_within rules.atoms v.items ≡ true)) (sym (same ∙ group_rules_are file kind)) c.lits_of.ensures.within

pub returns-in-Pairing-clause-literals : goal.returns-in-Pairing-clause-literals
returns-in-Pairing-clause-literals c =
    let file = c.file-file.result.now in
    let ms = c.moves-in-Pairing.result.now in
    let kind : file.kind ≡ Kind.Pairing = sym c.kind.ensures.kind ∙ c.in-Pairing.is in
    let same : lits_of c.args.state.now.file c.args.state.now.moves ≡ lits_of file ms = ap (λ f. lits_of f c.args.state.now.moves) (sym c.file-file.ensures.file) ∙ ap (lits_of file) (sym c.moves-in-Pairing.ensures) in
    subst (λ lits. IfOk c.lits_of-in-Pairing.result (λ v. v.items ≡ lits)) (sym (same ∙ pairing_lits_are file ms kind)) c.lits_of-in-Pairing.ensures.literals

pub returns-in-Pairing-clause-within : goal.returns-in-Pairing-clause-within
returns-in-Pairing-clause-within c =
    let file = c.file-file.result.now in
    let kind : file.kind ≡ Kind.Pairing = sym c.kind.ensures.kind ∙ c.in-Pairing.is in
    let same : rules_of c.args.state.now.file ≡ rules_of file = ap rules_of (sym c.file-file.ensures.file) in
    subst (λ rules. IfOk c.lits_of-in-Pairing.result (λ v. are_within rules.atoms v.items ≡ true)) (sym (same ∙ pairing_rules_are file kind)) c.lits_of-in-Pairing.ensures.within
