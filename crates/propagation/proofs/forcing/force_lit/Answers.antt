use Rattle.std.proofs.Common.{◌≡◌, ◌<◌, length, get_or, ◌∙◌, sym, None}
use Rattle.count_core.specs.PartialAssignments.{value_at}
use Rattle.propagation.specs.Statuses.{IsAtBound}
use Rattle.propagation.specs.Stores.{constraint_in, values_in, no_entry}
use Rattle.propagation.specs.Views.{rule_in}
use Rattle.propagation.proofs.Basics.{none_was}
use Rattle.propagation.proofs.Forced.{lit_free, lit_caused, lit_bound, lit_entries}
use Rattle.propagation.proofs.forcing.force_lit.Goals as goal

pub set-requires-clause-free : goal.set-requires-clause-free
set-requires-clause-free c =
    let rule : rule_in c.constraint-constraint.result ≡ constraint_in c.args.store.now c.args.number = c.constraint-constraint.ensures.rule in
    let lt : c.args.place < length c.constraint-constraint.result.lits.now = rw (← rule) at c.requires.place in
    let bound : IsAtBound c.args.truth (values_in c.args.store.now) (rule_in c.constraint-constraint.result) = rw (← rule) at c.requires.bound in
    let unset : value_at (values_in c.args.store.now) (get_or c.constraint-constraint.result.lits.now c.args.place no_entry.lit).atom.0 ≡ None = sym c.value.ensures ∙ none_was c.value.result c.is_none.result c.is_none.ensures c.if-is_none.true in
    rw c.directed.ensures (lit_free c.args.store.now c.args.number c.args.place c.args.truth (rule_in c.constraint-constraint.result) rule c.constraint-constraint.ensures.shaped no_entry.lit lt bound unset)

pub set-requires-clause-caused : goal.set-requires-clause-caused
set-requires-clause-caused c =
    let rule : rule_in c.constraint-constraint.result ≡ constraint_in c.args.store.now c.args.number = c.constraint-constraint.ensures.rule in
    let lt : c.args.place < length c.constraint-constraint.result.lits.now = rw (← rule) at c.requires.place in
    let bound : IsAtBound c.args.truth (values_in c.args.store.now) (rule_in c.constraint-constraint.result) = rw (← rule) at c.requires.bound in
    let unset : value_at (values_in c.args.store.now) (get_or c.constraint-constraint.result.lits.now c.args.place no_entry.lit).atom.0 ≡ None = sym c.value.ensures ∙ none_was c.value.result c.is_none.result c.is_none.ensures c.if-is_none.true in
    rw c.directed.ensures (lit_caused c.args.store.now c.args.number c.args.place c.args.truth (rule_in c.constraint-constraint.result) rule c.constraint-constraint.ensures.shaped no_entry.lit lt bound unset c.constraint-constraint.result.hint c.constraint-constraint.ensures.named)

pub returns-then-is_none-clause-entries : goal.returns-then-is_none-clause-entries
returns-then-is_none-clause-entries c =
    let rule : rule_in c.constraint-constraint.result ≡ constraint_in c.args.store.now c.args.number = c.constraint-constraint.ensures.rule in
    let lt : c.args.place < length c.constraint-constraint.result.lits.now = rw (← rule) at c.requires.place in
    let bound : IsAtBound c.args.truth (values_in c.args.store.now) (rule_in c.constraint-constraint.result) = rw (← rule) at c.requires.bound in
    let unset : value_at (values_in c.args.store.now) (get_or c.constraint-constraint.result.lits.now c.args.place no_entry.lit).atom.0 ≡ None = sym c.value.ensures ∙ none_was c.value.result c.is_none.result c.is_none.ensures c.if-is_none.true in
    lit_entries c.args.store.now c.args.number c.args.place c.args.truth (rule_in c.constraint-constraint.result) rule c.constraint-constraint.ensures.shaped no_entry.lit lt bound unset c.set.new.self c.directed.result c.constraint-constraint.result.hint c.set.ensures.kept c.set.ensures.entries c.directed.ensures c.constraint-constraint.ensures.hint

pub returns-then-is_none-clause-bound : goal.returns-then-is_none-clause-bound
returns-then-is_none-clause-bound c =
    let rule : rule_in c.constraint-constraint.result ≡ constraint_in c.args.store.now c.args.number = c.constraint-constraint.ensures.rule in
    let lt : c.args.place < length c.constraint-constraint.result.lits.now = rw (← rule) at c.requires.place in
    let bound : IsAtBound c.args.truth (values_in c.args.store.now) (rule_in c.constraint-constraint.result) = rw (← rule) at c.requires.bound in
    let unset : value_at (values_in c.args.store.now) (get_or c.constraint-constraint.result.lits.now c.args.place no_entry.lit).atom.0 ≡ None = sym c.value.ensures ∙ none_was c.value.result c.is_none.result c.is_none.ensures c.if-is_none.true in
    lit_bound c.args.store.now c.args.number c.args.place c.args.truth (rule_in c.constraint-constraint.result) rule c.constraint-constraint.ensures.shaped no_entry.lit lt bound unset c.set.new.self c.directed.result c.constraint-constraint.result.hint c.set.ensures.kept c.set.ensures.entries c.directed.ensures
