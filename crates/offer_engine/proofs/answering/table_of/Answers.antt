use Rattle.std.proofs.Common.{◌≡◌, ◌∙◌, sym, ap, subst}
use Rattle.team_files.specs.declared.kind.Kind.{Kind}
use Rattle.count_core.specs.Assignments.{Satisfies, SatisfiesQuestion}
use Rattle.offer_engine.specs.Encodings.{lits_of, rules_of}
use Rattle.offer_engine.proofs.StateQuestions.{group_lits_are, group_rules_are, pairing_lits_are, pairing_rules_are}
use Rattle.offer_engine.proofs.answering.table_of.Goals as goal

pub decode-requires-clause-clean : goal.decode-requires-clause-clean
decode-requires-clause-clean c = rw (c.file-file.ensures.file, c.moves.ensures) c.requires.clean

pub decode-requires-clause-rules : goal.decode-requires-clause-rules
decode-requires-clause-rules c =
    let file = c.file-file.result.now in
    let kind : file.kind ≡ Kind.Group = sym c.kind.ensures.kind ∙ c.in-Group.is in
    subst (λ r. Satisfies c.args.values.now r) (ap rules_of (sym c.file-file.ensures.file) ∙ group_rules_are file kind) c.requires.rules

pub decode-requires-clause-moves : goal.decode-requires-clause-moves
decode-requires-clause-moves c =
    let file = c.file-file.result.now in
    let kind : file.kind ≡ Kind.Group = sym c.kind.ensures.kind ∙ c.in-Group.is in
    let same = ap (λ f. lits_of f c.args.state.now.moves) (sym c.file-file.ensures.file) ∙ ap (lits_of file) (sym c.moves.ensures) in
    subst (λ q. SatisfiesQuestion c.args.values.now q) (same ∙ group_lits_are file c.moves.result.now kind) c.requires.moves

pub decode-requires-in-Pairing-clause-rules : goal.decode-requires-in-Pairing-clause-rules
decode-requires-in-Pairing-clause-rules c =
    let file = c.file-file.result.now in
    let kind : file.kind ≡ Kind.Pairing = sym c.kind.ensures.kind ∙ c.in-Pairing.is in
    subst (λ r. Satisfies c.args.values.now r) (ap rules_of (sym c.file-file.ensures.file) ∙ pairing_rules_are file kind) c.requires.rules

pub decode-requires-in-Pairing-clause-moves : goal.decode-requires-in-Pairing-clause-moves
decode-requires-in-Pairing-clause-moves c =
    let file = c.file-file.result.now in
    let kind : file.kind ≡ Kind.Pairing = sym c.kind.ensures.kind ∙ c.in-Pairing.is in
    let same = ap (λ f. lits_of f c.args.state.now.moves) (sym c.file-file.ensures.file) ∙ ap (lits_of file) (sym c.moves-in-Pairing.ensures) in
    subst (λ q. SatisfiesQuestion c.args.values.now q) (same ∙ pairing_lits_are file c.moves-in-Pairing.result.now kind) c.requires.moves
