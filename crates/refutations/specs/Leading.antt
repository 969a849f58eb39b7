-- Candidate hints of a step, of which those are kept that lead on: idle ones are ignored.
use Rattle.std.specs.Prelude.{◌≡◌, ◌⊎◌, if◌then◌else◌, List, [], ◌∷◌, Option, Some, None, option_map}
use Rattle.count_core.specs.declared.lit.Lit.{Lit}
use Rattle.count_core.specs.declared.hint.Hint.{Hint}
use Rattle.count_core.specs.declared.step.Step.{Step}
use Rattle.count_core.specs.declared.count_rule.CountRule.{CountRule}
use Rattle.count_core.specs.Problems.{Problem}
use Rattle.count_core.specs.PartialAssignments.{PartialAssignment, conflicts, forces, forced_assignment}
use Rattle.count_core.specs.Steps.{rule_at, assumed_negation, is_clause}
use Rattle.refutations.specs.Derivations.{Derivation, IsPushed, Accepts}

-- One candidate that names the rule. Where the rule conflicts, the candidate is kept and is the last.
-- Where the rule forces, the candidate is kept, and `go` says what comes after the literals that it
-- forces. Else it is ignored.
abbrev pub keep_hint : PartialAssignment → Option CountRule → Hint → (PartialAssignment → Option (List Hint)) → Option (List Hint)
keep_hint p None h go = go p
keep_hint p (Some r) h go =
    if conflicts p r.lits r.lo r.hi
    then Some (h ∷ [])
    else (if forces p r.lits r.lo r.hi then option_map (λ hs. h ∷ hs) (go (forced_assignment p r.lits r.lo r.hi)) else go p)

-- The candidates that are kept with p set, where `find` gives the rule of a hint: those that force in
-- their turn, up to the first that conflicts. There are none where no candidate conflicts.
abbrev pub leading : (Hint → Option CountRule) → PartialAssignment → List Hint → Option (List Hint)
leading find p [] = None
leading find p (h ∷ hs) = keep_hint p (find h) h (λ q. leading find q hs)

-- Those kept with the clause's negation assumed. There are none where the clause has an atom out of
-- range or one atom twice.
abbrev pub leading_hints : Problem → List Step → List Lit → List Hint → Option (List Hint)
leading_hints problem earlier clause hints =
    if is_clause problem clause
    then leading (rule_at problem earlier) (assumed_negation problem.atoms clause) hints
    else None

-- The part is the list with some hints left out.
abbrev pub IsSublist : List Hint → List Hint → Type 0
IsSublist [] part = part ≡ []
IsSublist (h ∷ hs) [] = Unit {0}
IsSublist (h ∷ hs) (g ∷ part) = ((g ≡ h) × IsSublist hs part) ⊎ IsSublist hs (g ∷ part)

-- The log gained the step of the clause by those of the candidates that lead on.
pub record GainsLeading (old new : Derivation) (clause : List Lit) (candidates : List Hint) : Type 0 where
  pub kept : List Hint
  pub leads : leading_hints old.problem old.steps clause candidates ≡ Some kept
  pub among : IsSublist candidates kept
  pub accepted : Accepts old clause kept
  pub pushed : IsPushed old.steps new.steps clause kept

-- Some of the candidates lead on.
abbrev pub LeadOn : Derivation → List Lit → List Hint → Type 0
LeadOn log clause candidates = (kept : List Hint) × (leading_hints log.problem log.steps clause candidates ≡ Some kept)

-- Some of the candidates are hints by which a step of the clause is accepted.
abbrev pub CanBeAccepted : Derivation → List Lit → List Hint → Type 0
CanBeAccepted log clause candidates = (part : List Hint) × IsSublist candidates part × Accepts log clause part
