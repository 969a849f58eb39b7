-- In an accepted list each hint names a rule or an earlier step.
use Rattle.std.proofs.Common.{◌≡◌, ℕ, ◌<◌, ◌≤◌, Bool, true, false, List, [], ◌∷◌, length, take, refl, arith, Option, Some, None, slice_get, subst}
use Rattle.std.specs.Prelude.{option_map, ◌||◌, ◌==◌}
use Rattle.std.specs.List.{list_any, AllByRecursion as Each}
use Rattle.std.proofs.lemmas.List.{length-take-le}
use Rattle.std.proofs.lemmas.Bool.Decides.{Decides-eqb}
use Rattle.std.proofs.lemmas.Option.{slice_get_within}
use Rattle.count_core.specs.declared.count_rule.CountRule.{CountRule}
use Rattle.count_core.specs.declared.hint.Hint.{Hint}
use Rattle.count_core.specs.declared.hint.Hint.TheVariants.{Rule, Step as Earlier}
use Rattle.count_core.specs.declared.step.Step.{Step}
use Rattle.count_core.specs.Problems.{Problem}
use Rattle.count_core.specs.PartialAssignments.{PartialAssignment, forced_assignment}
use Rattle.count_core.specs.Steps.{clause_rule, rule_at, assumed_negation, LeadToConflict, IsAccepted, AreAccepted}
use Rattle.count_core.proofs.HintChecks.{accepted_by_conflict}
use Rattle.count_core.proofs.Renumbering.{accepted_at}
use Rattle.refutations.specs.EarlierSteps.{IsBelow, AreEarlier}
use Rattle.refutations.specs.Cones.{is_to}

named_below : (problem : Problem) (earlier : List Step) (h : Hint) (r : CountRule) → rule_at problem earlier h ≡ Some r → IsBelow (length earlier) h
named_below problem earlier (Rule n) r e = tt
named_below problem earlier (Earlier n) r e = go (slice_get earlier n) refl e
  where
    go : (o : Option Step) → slice_get earlier n ≡ o → option_map (λ (s : Step). clause_rule s.clause) o ≡ Some r → n < length earlier
    go None is e = cc
    go (Some s) is e = slice_get_within earlier n s is

leads_below : (problem : Problem) (earlier : List Step) (p : PartialAssignment) (hs : List Hint) → LeadToConflict (rule_at problem earlier) p hs → Each (IsBelow (length earlier)) hs
leads_below problem earlier p [] h = absurd h
leads_below problem earlier p (x ∷ []) (r, found, c) = (named_below problem earlier x r found, tt)
leads_below problem earlier p (x ∷ y ∷ hs) (r, found, c, f, rest) = (named_below problem earlier x r found, leads_below problem earlier (forced_assignment p r.lits r.lo r.hi) (y ∷ hs) rest)

accepted_below : (problem : Problem) (earlier : List Step) (s : Step) → IsAccepted problem earlier s → Each (IsBelow (length earlier)) s.hints
accepted_below problem earlier s e = leads_below problem earlier (assumed_negation problem.atoms s.clause) s.hints ((accepted_by_conflict problem earlier s).0 e).1

-- hints of an accepted list are to rules or to earlier steps
pub accepted_earlier : (problem : Problem) (steps : List Step) → AreAccepted problem steps → AreEarlier steps
accepted_earlier problem steps h n s at =
    let lt : n < length steps = slice_get_within steps n s at in
    let len : length (take n steps) ≡ n = length-take-le n steps (omega arith) in
    subst (λ k. Each (IsBelow k) s.hints) len (accepted_below problem (take n steps) s (accepted_at problem steps n s h at))

-- a step that hints below a number name is below it
pub any_below : (k n : ℕ) (hs : List Hint) → Each (IsBelow k) hs → list_any (is_to n) hs ≡ true → n < k
any_below k n [] h e = cc
any_below k n (Rule m ∷ hs) h e = any_below k n hs h.1 e
any_below k n (Earlier m ∷ hs) h e = go (m == n) refl e (any_below k n hs h.1)
  where
    go : (b : Bool) → (m == n) ≡ b → (b || list_any (is_to n) hs) ≡ true → (list_any (is_to n) hs ≡ true → n < k) → n < k
    go true is e rest = subst (λ x. x < k) ((Decides-eqb m n).0 is) h.0
    go false is e rest = rest e

-- hints below a number are below a greater one
pub each_more : (a b : ℕ) (hs : List Hint) → a ≤ b → Each (IsBelow a) hs → Each (IsBelow b) hs
each_more a b [] le h = tt
each_more a b (Rule m ∷ hs) le h = (tt, each_more a b hs le h.1)
each_more a b (Earlier m ∷ hs) le h = ((let lt : m < a = h.0 in omega arith), each_more a b hs le h.1)
