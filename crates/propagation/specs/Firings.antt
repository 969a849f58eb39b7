-- What constraints add to a trail when they force.
use Rattle.std.specs.Prelude.{◌≡◌, ◌==◌, Bool, true, false, not, if◌then◌else◌, List, [], ◌∷◌, ◌++◌, Some}
use Rattle.count_core.specs.declared.lit.Lit.{Lit}
use Rattle.count_core.specs.declared.hint.Hint.{Hint}
use Rattle.count_core.specs.declared.count_rule.CountRule.{CountRule}
use Rattle.count_core.specs.Problems.{Problem}
use Rattle.count_core.specs.Assignments.{negation}
use Rattle.count_core.specs.PartialAssignments.{PartialAssignment, conflicts, forces, forced_assignment, is_unset, trues}
use Rattle.propagation.specs.declared.clause.Clause.{Clause}
use Rattle.propagation.specs.Trails.{Entry, with_true}
use Rattle.propagation.specs.Constraints.{IsNamed}

-- the literal, or its negation
abbrev pub directed : Bool → Lit → Lit
directed true l = l
directed false l = negation l

-- an entry for each unset literal in turn, which is made true, or each false
abbrev pub entries_setting : Hint → Bool → PartialAssignment → List Lit → List Entry
entries_setting h b p [] = []
entries_setting h b p (l ∷ ls) =
    if is_unset p l
    then record { lit = directed b l; cause = Some h } ∷ entries_setting h b (with_true p (directed b l)) ls
    else entries_setting h b p ls

-- the entries that the constraint adds when it forces: at its upper bound its unset literals are
-- made false, else true
abbrev pub entries_forced : Hint → PartialAssignment → CountRule → List Entry
entries_forced h p r = entries_setting h (not (trues p r.lits == r.hi)) p r.lits

-- A constraint that forced, and the hint that names it.
pub record Firing : Type 0 where
  pub hint : Hint
  pub rule : CountRule

-- From p on, each in turn is named by its hint, does not conflict, and forces.
abbrev pub AreFirings : Problem → List Clause → PartialAssignment → List Firing → Type 0
AreFirings problem clauses p [] = Unit {0}
AreFirings problem clauses p (f ∷ fs) =
    IsNamed problem clauses f.hint f.rule
    × (conflicts p f.rule.lits f.rule.lo f.rule.hi ≡ false)
    × (forces p f.rule.lits f.rule.lo f.rule.hi ≡ true)
    × AreFirings problem clauses (forced_assignment p f.rule.lits f.rule.lo f.rule.hi) fs

-- what is set after them
abbrev pub after_firings : PartialAssignment → List Firing → PartialAssignment
after_firings p [] = p
after_firings p (f ∷ fs) = after_firings (forced_assignment p f.rule.lits f.rule.lo f.rule.hi) fs

-- all entries that they add
abbrev pub entries_fired : PartialAssignment → List Firing → List Entry
entries_fired p [] = []
entries_fired p (f ∷ fs) =
    entries_forced f.hint p f.rule
    ++ entries_fired (forced_assignment p f.rule.lits f.rule.lo f.rule.hi) fs
