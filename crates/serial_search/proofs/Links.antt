-- Log and engine over one problem, as both grow: what the engine's hints name, the log finds.
use Rattle.std.proofs.Common.{◌≡◌, ℕ, zero, suc, ◌+◌, ◌-◌, ◌<◌, ◌≤◌, Bool, true, false, List, [], ◌∷◌, ◌++◌, length, take, append_assoc, refl, sym, ap, ◌∙◌, subst, Option, Some, None, slice_get, arith}
use Rattle.std.specs.Prelude.{option_map, map, replicate, ◌&&◌, ◌||◌, nat_lt, not}
use Rattle.std.specs.List.{AllByRecursion as Each}
use Rattle.std.proofs.lemmas.Bool.Decides.{nat_tests}
use Rattle.std.proofs.lemmas.List.{length-append, length-replicate, append-nil}
use Rattle.count_core.specs.declared.lit.Lit.{Lit}
use Rattle.count_core.specs.declared.hint.Hint.{Hint}
use Rattle.count_core.specs.declared.hint.Hint.TheVariants.{Rule, Step as Earlier}
use Rattle.count_core.specs.declared.count_rule.CountRule.{CountRule}
use Rattle.count_core.specs.declared.step.Step.{Step}
use Rattle.count_core.specs.Problems.{Problem, repeats, are_within, IsWellFormedRule, IsWellFormed}
use Rattle.count_core.specs.Assignments.{Follows}
use Rattle.count_core.specs.PartialAssignments.{PartialAssignment, falses, conflicts}
use Rattle.count_core.specs.Steps.{step_of, clause_rule, rule_at, assumed_negation, is_clause, NegatesOnly, AreAccepted}
use Rattle.count_core.proofs.Lists.{each_at, each_map, each_push, both_true}
use Rattle.count_core.proofs.Assigning.{value_at_none, length-assign_all}
use Rattle.count_core.proofs.HintChecks.{accepted_by_conflict}
use Rattle.count_core.proofs.Renumbering.{accepted_at}
use Rattle.count_core.proofs.Soundness.{clause_follows}
use Rattle.refutations.specs.Derivations.{Derivation, clause_of, clause_at, last_clause, IsPushed, IsLemma}
use Rattle.refutations.specs.Shifts.{shifted_step, ArePutBehind}
use Rattle.refutations.specs.Joins.{AreContinued}
use Rattle.refutations.specs.Leading.{leading, leading_hints, GainsLeading, LeadOn}
use Rattle.propagation.specs.declared.clause.Clause.{Clause}
use Rattle.propagation.specs.Trails.{Entry}
use Rattle.propagation.specs.Constraints.{IsNamed, with_clause}
use Rattle.propagation.specs.Engines.{Engine, values_in, IsSound, IsConflict, OnlyTrailDiffers}
use Rattle.serial_search.specs.Assumptions.{assumed_of, negations_of, hints_of}
use Rattle.serial_search.specs.Sides.{IsOfStep, AreLinked, IsContinued, IsClosedBy}
use Rattle.serial_search.proofs.Negations.{negations_negate}
use Rattle.serial_search.proofs.Replays.{AreFound, replay_leads, negations_distinct, negations_within, negated_true}

-- ---- logs that grow

pub get_front : {X : Type 0} (xs ys : List X) (n : ℕ) (x : X) → slice_get xs n ≡ Some x → slice_get (xs ++ ys) n ≡ Some x
get_front [] ys n x e = cc
get_front (y ∷ xs) ys zero x e = e
get_front (y ∷ xs) ys (suc n) x e = get_front xs ys n x e

pub get_last : {X : Type 0} (xs : List X) (x : X) → slice_get (xs ++ x ∷ []) (length xs) ≡ Some x
get_last [] x = refl
get_last (y ∷ xs) x = get_last xs x

same_before : {X : Type 0} (xs ys : List X) (n : ℕ) → n < length xs → slice_get (xs ++ ys) n ≡ slice_get xs n
same_before [] ys n lt = absurd (omega arith)
same_before (x ∷ xs) ys zero lt = refl
same_before (x ∷ xs) ys (suc n) lt = same_before xs ys n (omega arith)

pub continued_same : (log : Derivation) → IsContinued log log
continued_same log = record { problem = refl; steps = ([], sym (append-nil log.steps)) }

pub continued_on : (a b c : Derivation) → IsContinued a b → IsContinued b c → IsContinued a c
continued_on a b c h g = record {
  problem = g.problem ∙ h.problem;
  steps = (h.steps.0 ++ g.steps.0, g.steps.1 ∙ ap (λ ss. ss ++ g.steps.0) h.steps.1 ∙ append_assoc a.steps h.steps.0 g.steps.0);
}

pub clause_kept : (old new : Derivation) (n : ℕ) → IsContinued old new → n < length old.steps → clause_at new.steps n ≡ clause_at old.steps n
clause_kept old new n h lt = rw h.steps.1 (ap clause_of (same_before old.steps h.steps.0 n lt))

pub within_kept : (old new : Derivation) (n : ℕ) → IsContinued old new → n < length old.steps → n < length new.steps
within_kept old new n h lt = rw h.steps.1 (omega (arith, length-append old.steps h.steps.0))

pub closed_kept : (old new : Derivation) (ls : List Lit) (n : ℕ) → IsContinued old new → IsClosedBy old ls n → IsClosedBy new ls n
closed_kept old new ls n h c = record { within = within_kept old new n h c.within; negates = rw (clause_kept old new n h c.within) c.negates }

-- ---- log and engine

pub differs_same : (e : Engine) → OnlyTrailDiffers e e
differs_same e = record { problem = refl; clauses = refl; room = omega arith }

pub differs_on : (a b c : Engine) → OnlyTrailDiffers a b → OnlyTrailDiffers b c → OnlyTrailDiffers a c
differs_on a b c h g = record { problem = g.problem ∙ h.problem; clauses = g.clauses ∙ h.clauses; room = (let x = h.room in let y = g.room in omega arith) }

steps_kept : (old new : Derivation) (cs : List Clause) → IsContinued old new → Each (IsOfStep old.steps) cs → Each (IsOfStep new.steps) cs
steps_kept old new cs h held = rw h.steps.1 (each_map (IsOfStep old.steps) (IsOfStep (old.steps ++ h.steps.0)) cs (λ c s. (s.0, get_front old.steps h.steps.0 c.step s.0 s.1, s.2)) held)

pub linked_on : (old new : Derivation) (e f : Engine) → AreLinked old e → IsContinued old new → OnlyTrailDiffers e f → AreLinked new f
linked_on old new e f h more kept = record {
  problem = kept.problem ∙ h.problem ∙ sym more.problem;
  clauses = rw kept.clauses (steps_kept old new e.clauses more h.clauses);
  room = (let atoms = ap (λ (p : Problem). p.atoms) kept.problem in let room = kept.room in let had = h.room in omega arith);
}

pub same_problem : (old new : Derivation) (e f : Engine) → AreLinked old e → IsContinued old new → AreLinked new f → f.problem ≡ e.problem
same_problem old new e f h more g = g.problem ∙ more.problem ∙ sym h.problem

-- one clause more, which is that of a step
pub linked_clause : (old new : Derivation) (e f : Engine) (clause : List Lit) (n : ℕ) (s : Step) → AreLinked old e → IsContinued old new → slice_get new.steps n ≡ Some s → s.clause ≡ clause
    → f.problem ≡ e.problem → f.clauses ≡ with_clause e.clauses clause n → f.room ≡ e.room → AreLinked new f
linked_clause old new e f clause n s h more at is own clauses room = record {
  problem = own ∙ h.problem ∙ sym more.problem;
  clauses = rw clauses (each_push (IsOfStep new.steps) e.clauses (record { lits = clause; step = n }) (steps_kept old new e.clauses more h.clauses) (s, at, is));
  room = (let atoms = ap (λ (p : Problem). p.atoms) own in let had = h.room in omega arith);
}

named_more : (problem : Problem) (clauses : List Clause) (c : Clause) (h : Hint) (r : CountRule) → IsNamed problem clauses h r → IsNamed problem (clauses ++ c ∷ []) h r
named_more problem clauses c (Rule n) r e = e
named_more problem clauses c (Earlier n) r (k, b, at, step, same) = (k, b, get_front clauses (c ∷ []) k b at, step, same)

-- a conflict stays one when a clause is added
pub conflict_on : (e f : Engine) (clause : List Lit) (n : ℕ) (h : Hint) → f.problem ≡ e.problem → f.entries ≡ e.entries → f.clauses ≡ with_clause e.clauses clause n → IsConflict e h → IsConflict f h
conflict_on e f clause n h problem entries clauses (r, named, c) =
    (r, rw (problem, clauses) (named_more e.problem e.clauses (record { lits = clause; step = n }) h r named), rw (problem, entries) c)

-- the log gained a step
pub gained_continued : (old new : Derivation) (clause : List Lit) (hints : List Hint) → GainsLeading old new clause hints → new.problem ≡ old.problem → IsContinued old new
gained_continued old new clause hints g problem = record { problem = problem; steps = (step_of clause g.kept ∷ [], g.pushed) }

pub gained_follows : (old new : Derivation) (clause : List Lit) (hints : List Hint) → GainsLeading old new clause hints → AreAccepted new.problem new.steps → Follows new.problem clause
gained_follows old new clause hints g accepted =
    clause_follows new.problem new.steps accepted (length old.steps) (step_of clause g.kept) (rw g.pushed (get_last old.steps (step_of clause g.kept)))

pub gained_linked : (old new : Derivation) (e f : Engine) (clause : List Lit) (hints : List Hint) (n : ℕ) → AreLinked old e → GainsLeading old new clause hints → new.problem ≡ old.problem → n ≡ length old.steps
    → f.problem ≡ e.problem → f.clauses ≡ with_clause e.clauses clause n → f.room ≡ e.room → AreLinked new f
gained_linked old new e f clause hints n h g problem number own clauses room =
    linked_clause old new e f clause n (step_of clause g.kept) h (gained_continued old new clause hints g problem) (rw (g.pushed, number) (get_last old.steps (step_of clause g.kept))) refl own clauses room

-- ---- what the engine's hints name

calm_bounds : (p : PartialAssignment) (ls : List Lit) (lo hi : ℕ) → conflicts p ls lo hi ≡ false → lo ≤ length ls - falses p ls
unfolding conflicts
calm_bounds p ls lo hi calm = grind (arith, nat_tests)

clause_at_hint : (problem : Problem) (steps : List Step) (c : Clause) → IsOfStep steps c → rule_at problem steps (Earlier c.step) ≡ Some (clause_rule c.lits)
clause_at_hint problem steps c (s, at, is) = ap (option_map (λ (t : Step). clause_rule t.clause)) at ∙ ap (λ ls. Some (clause_rule ls)) is

are_found : (problem : Problem) (steps : List Step) (clauses : List Clause) → IsWellFormed problem → Each (IsOfStep steps) clauses → AreFound (rule_at problem steps) problem clauses
are_found problem steps clauses formed linked = record { found = found; bounds = bounds }
  where
    found : (h : Hint) (r : CountRule) → IsNamed problem clauses h r → rule_at problem steps h ≡ Some r
    found (Rule n) r e = e
    found (Earlier n) r (k, c, at, step, same) = rw (← step) (clause_at_hint problem steps c (each_at (IsOfStep steps) clauses k c linked at) ∙ ap Some (sym same))

    bounds : (h : Hint) (r : CountRule) (p : PartialAssignment) → IsNamed problem clauses h r → conflicts p r.lits r.lo r.hi ≡ false → r.lo ≤ r.hi
    bounds (Rule n) r p e calm = (each_at (IsWellFormedRule problem.atoms) problem.rules n r formed.rules e).bounds
    bounds (Earlier n) r p (k, c, at, step, same) calm =
        let b : r.lo ≤ length r.lits - falses p r.lits = calm_bounds p r.lits r.lo r.hi calm in
        let hi : r.hi ≡ length r.lits = rw same refl in
        omega arith

-- ---- a conflict is closed by all that was assumed

negations_clause : (problem : Problem) (e : Engine) → e.problem ≡ problem → IsSound e → is_clause problem (negations_of e.entries) ≡ true
negations_clause problem e same sound =
    rw (← same)
    (let nothing : Option Bool = None in
    let a = negations_within e.problem e.clauses e.entries (replicate e.problem.atoms None) e.problem.atoms (length-replicate e.problem.atoms nothing) sound.caused in
    let b = negations_distinct e.problem e.clauses e.entries (replicate e.problem.atoms None) sound.caused in
    rw (a, b) refl)

causes_lead : (steps : List Step) (e : Engine) (cause : Hint) → Each (IsOfStep steps) e.clauses → IsSound e → IsWellFormed e.problem → IsConflict e cause
    → (kept : List Hint) × (leading (rule_at e.problem steps) (assumed_negation e.problem.atoms (negations_of e.entries)) (hints_of e.entries cause) ≡ Some kept)
causes_lead steps e cause linked sound formed (r, named, c) =
    let nothing : Option Bool = None in
    let len = length-replicate e.problem.atoms nothing in
    replay_leads (rule_at e.problem steps) e.problem e.clauses (are_found e.problem steps e.clauses formed linked)
    e.entries (replicate e.problem.atoms None) (assumed_negation e.problem.atoms (negations_of e.entries))
    len (length-assign_all false (negations_of e.entries) (replicate e.problem.atoms None) ∙ len)
    (λ a b k. absurd (value_at_none e.problem.atoms a b k))
    (negated_true e.problem e.clauses e.entries (replicate e.problem.atoms None) (replicate e.problem.atoms None) refl (λ a b k. k) sound.caused)
    sound.caused cause r named c

pub conflict_leads_on : (log : Derivation) (e : Engine) (cause : Hint) → AreLinked log e → IsSound e → IsWellFormed e.problem → IsConflict e cause → LeadOn log (negations_of e.entries) (hints_of e.entries cause)
conflict_leads_on log e cause linked sound formed conflict =
    let lead = causes_lead log.steps e cause linked.clauses sound formed conflict in
    let clause = negations_clause log.problem e linked.problem sound in
    (lead.0, rw (clause, ← linked.problem) lead.1)

-- ---- a step closes

pub gained_closes : (old new : Derivation) (ls : List Lit) (clause : List Lit) (hints : List Hint) (n : ℕ) → GainsLeading old new clause hints → n ≡ length old.steps → clause_at new.steps n ≡ clause → NegatesOnly ls clause → IsClosedBy new ls n
gained_closes old new ls clause hints n g number at negates = record {
  within = rw (number, g.pushed) (omega (arith, length-append old.steps (step_of clause g.kept ∷ [])));
  negates = rw at negates;
}

-- ---- a lemma of the problem

there_is : {X : Type 0} (xs : List X) (n : ℕ) → n < length xs → (x : X) × (slice_get xs n ≡ Some x)
there_is [] n lt = absurd (omega arith)
there_is (x ∷ xs) zero lt = (x, refl)
there_is (x ∷ xs) (suc n) lt = there_is xs n (omega arith)

clause_there : (steps : List Step) (n : ℕ) (s : Step) → slice_get steps n ≡ Some s → clause_at steps n ≡ s.clause
clause_there steps n s at = ap clause_of at

pub last_shaped : (problem : Problem) (steps : List Step) → IsLemma problem steps → is_clause problem (last_clause steps) ≡ true
last_shaped problem steps h =
    let s = there_is steps (length steps - 1) (let some = h.some in omega arith) in
    rw (clause_there steps (length steps - 1) s.0 s.1) ((accepted_by_conflict problem (take (length steps - 1) steps) s.0).0 (accepted_at problem steps (length steps - 1) s.0 h.accepted s.1)).0

get_map : {X Y : Type 0} (f : Y → X) (ys : List Y) (n : ℕ) (y : Y) → slice_get ys n ≡ Some y → slice_get (map f ys) n ≡ Some (f y)
get_map f [] n y e = cc
get_map f (z ∷ ys) zero y e = ap (option_map f) e
get_map f (z ∷ ys) (suc n) y e = get_map f ys n y e

get_behind : {X Y : Type 0} (f : Y → X) (xs : List X) (ys : List Y) (m n : ℕ) (y : Y) → m ≡ length xs + n → slice_get ys n ≡ Some y → slice_get (xs ++ map f ys) m ≡ Some (f y)
get_behind f [] ys m n y is e = let same : m ≡ n = omega arith in rw same (get_map f ys n y e)
get_behind f (x ∷ xs) ys zero n y is e = absurd (omega arith)
get_behind f (x ∷ xs) ys (suc m) n y is e = get_behind f xs ys m n y (omega arith) e

pub put_continued : (old new : Derivation) (others : List Step) → new.problem ≡ old.problem → ArePutBehind old.steps new.steps others → IsContinued old new
put_continued old new others problem is = record { problem = problem; steps = (map (shifted_step (length old.steps)) others, is) }

pub put_linked : (old new : Derivation) (e f : Engine) (problem : Problem) (others : List Step) (n : ℕ) → AreLinked old e → new.problem ≡ old.problem → ArePutBehind old.steps new.steps others → IsLemma problem others → n ≡ length old.steps + (length others - 1)
    → f.problem ≡ e.problem → f.clauses ≡ with_clause e.clauses (last_clause others) n → f.room ≡ e.room → AreLinked new f
put_linked old new e f problem others n h same is lemma number own clauses room =
    let s = there_is others (length others - 1) (let some = lemma.some in omega arith) in
    let at : slice_get new.steps n ≡ Some (shifted_step (length old.steps) s.0) = rw is (get_behind (shifted_step (length old.steps)) old.steps others n (length others - 1) s.0 number s.1) in
    linked_clause old new e f (last_clause others) n (shifted_step (length old.steps) s.0) h (put_continued old new others same is) at (sym (clause_there others (length others - 1) s.0 s.1)) own clauses room
