-- Why each literal of a trail follows, and what stays true of the parts of an engine.
use Rattle.std.proofs.Common.{◌≡◌, ◌≢◌, cond, ℕ, zero, suc, ◌+◌, ◌<◌, ◌≤◌, Bool, true, false, not, List, [], ◌∷◌, ◌++◌, length, length-append, length-take, take, Option, Some, None, refl, ap, ◌∙◌, arith, slice_get}
use Rattle.std.specs.Prelude.{slice_set, replicate, ◌==◌}
use Rattle.std.specs.List.{AllByRecursion as Each}
use Rattle.std.proofs.lemmas.List.{length-set, length-replicate}
use Rattle.count_core.specs.declared.lit.Lit.{Lit}
use Rattle.count_core.specs.declared.hint.Hint.{Hint}
use Rattle.count_core.specs.declared.hint.Hint.TheVariants.{Rule, Step as Earlier}
use Rattle.count_core.specs.declared.count_rule.CountRule.{CountRule}
use Rattle.count_core.specs.Problems.{Problem}
use Rattle.count_core.specs.Assignments.{value_of, under_sign, makes_true, SatisfiesRule, Satisfies, Follows}
use Rattle.count_core.specs.PartialAssignments.{PartialAssignment, value_at, is_unset, trues, forced_assignment, Agrees}
use Rattle.count_core.proofs.Lists.{each_at, each_push}
use Rattle.count_core.proofs.Agreement.{nothing_agrees, set_agrees, true_met, forced_agrees}
use Rattle.count_core.proofs.Soundness.{clause_met}
use Rattle.propagation.specs.declared.progress.Progress.{Progress}
use Rattle.propagation.specs.declared.clause.Clause.{Clause}
use Rattle.propagation.specs.Trails.{Entry, with_true, values_of, IsFree}
use Rattle.propagation.specs.Constraints.{rule_of_clause, IsNamed}
use Rattle.propagation.specs.Causes.{IsCaused, AreCaused, MeetsAssumed, MeetsAll, AllFollow}
use Rattle.propagation.specs.Firings.{Firing, directed, entries_setting, entries_forced, entries_fired}
use Rattle.propagation.specs.Engines.{AddsForced}
use Rattle.propagation.specs.Occurrences.{counter}
use Rattle.propagation.specs.Stores.{Store, constraints_in, constraint_in, values_in, HasCausedTrail, OnlyTrailDiffers, Grows}
use Rattle.propagation.specs.Queues.{AreQuiet, AreQuietAt, IsDone, IsNoGreater, IsWithin, IsEngine}
use Rattle.propagation.proofs.Trails.{length_values}
use Rattle.propagation.proofs.Queues.{head_within, quiet_grow, quiet_at_grow, quiet_at_set, quiet_at_below, quiet_from}
use Rattle.propagation.proofs.Clauses.{constraints_push, constraint_before, counter_zero}

-- ---- each literal follows

module _ (v : List Bool) (problem : Problem) (clauses : List Clause) (met : Satisfies v problem) (held : Each (λ (c : Clause). Follows problem c.lits) clauses) where
  -- what a hint names is satisfied
  named_met : (h : Hint) (r : CountRule) → IsNamed problem clauses h r → SatisfiesRule v r
  named_met (Rule n) r at = each_at (SatisfiesRule v) problem.rules n r met at
  named_met (Earlier s) r (k, c, at, step, is) = rw is (clause_met v c.lits (each_at (λ (x : Clause). Follows problem x.lits) clauses k c held at v met))

  value_is : (s x : Bool) → under_sign s x ≡ true → x ≡ s
  value_is true x e = e
  value_is false true e = cc
  value_is false false e = refl

  cause_met : (p : PartialAssignment) (l : Lit) (o : Option Hint) → Agrees v p → IsCaused problem clauses p l o → (o ≡ None → makes_true v l ≡ true) → makes_true v l ≡ true
  cause_met p l None agrees caused assumed = assumed refl
  cause_met p l (Some h) agrees (r, named, f) assumed = true_met v (forced_assignment p r.lits r.lo r.hi) (forced_agrees v p agrees r.lits r.lo r.hi (named_met h r named)) l f.makes

  all_met : (es : List Entry) (p : PartialAssignment) → Agrees v p → AreCaused problem clauses p es → MeetsAssumed v es → MeetsAll v es
  all_met [] p agrees h assumed = tt
  all_met (e ∷ es) p agrees h assumed =
      let here = cause_met p e.lit e.cause agrees h.1 assumed.0 in
      let next = set_agrees v p e.lit.atom.0 e.lit.positive agrees (value_is e.lit.positive (value_of v e.lit.atom.0) here) in
      (here, all_met es (with_true p e.lit) next h.2 assumed.1)

pub all_follow : (s : Store) → HasCausedTrail s → Each (λ (c : Clause). Follows s.problem c.lits) s.clauses → AllFollow s.problem s.entries
all_follow s caused held v met assumed = all_met v s.problem s.clauses met held s.entries (replicate s.problem.atoms None) (nothing_agrees v s.problem.atoms) caused assumed

-- ---- none that a constraint adds was assumed

setting_forced : (h : Hint) (b : Bool) (p : PartialAssignment) (ls : List Lit) → Each (λ (e : Entry). e.cause ≢ None) (entries_setting h b p ls)
setting_forced h b p [] = tt
setting_forced h b p (l ∷ ls) = go (is_unset p l) (setting_forced h b (with_true p (directed b l)) ls) (setting_forced h b p ls)
  where
    go : (u : Bool) → Each (λ (e : Entry). e.cause ≢ None) (entries_setting h b (with_true p (directed b l)) ls) → Each (λ (e : Entry). e.cause ≢ None) (entries_setting h b p ls)
        → Each (λ (e : Entry). e.cause ≢ None) (cond u (record { lit = directed b l; cause = Some h } ∷ entries_setting h b (with_true p (directed b l)) ls) (entries_setting h b p ls))
    go true set rest = ((λ q. cc), set)
    go false set rest = rest

fired_forced : (fs : List Firing) (p : PartialAssignment) → Each (λ (e : Entry). e.cause ≢ None) (entries_fired p fs)
fired_forced [] p = tt
fired_forced (f ∷ fs) p = each_append (entries_forced f.hint p f.rule) (entries_fired (forced_assignment p f.rule.lits f.rule.lo f.rule.hi) fs) (setting_forced f.hint (not (trues p f.rule.lits == f.rule.hi)) p f.rule.lits) (fired_forced fs (forced_assignment p f.rule.lits f.rule.lo f.rule.hi))
  where
    each_append : (xs ys : List Entry) → Each (λ (e : Entry). e.cause ≢ None) xs → Each (λ (e : Entry). e.cause ≢ None) ys → Each (λ (e : Entry). e.cause ≢ None) (xs ++ ys)
    each_append [] ys h k = k
    each_append (x ∷ xs) ys h k = (h.0, each_append xs ys h.1 k)

pub grows_forced : (old new : Store) → Grows old new → AddsForced old.entries new.entries
grows_forced old new (fs, h, is) = (entries_fired (values_in old) fs, is, fired_forced fs (values_in old))

-- ---- the parts of an engine

pub free_where : (atoms : ℕ) (es : List Entry) (l : Lit) → l.atom.0 < atoms → value_at (values_of atoms es) l.atom.0 ≡ None → IsFree (values_of atoms es) l
free_where atoms es l lt none = go (values_of atoms es) l.atom.0 (let len = length_values atoms es in omega arith) none
  where
    go : (p : PartialAssignment) (a : ℕ) → a < length p → value_at p a ≡ None → slice_get p a ≡ Some None
    go [] a lt e = absurd (omega arith)
    go (None ∷ p) zero lt e = refl
    go (Some c ∷ p) zero lt e = cc
    go (o ∷ p) (suc a) lt e = go p a (omega arith) e

-- the trail grows, and nothing was examined
pub engine_grow : (old new : Store) (es : List Entry) (q : Progress) (quiet_at : List ℕ) → HasCausedTrail new → IsEngine old q quiet_at → OnlyTrailDiffers old new → new.entries ≡ old.entries ++ es → IsEngine new q quiet_at
engine_grow old new es q quiet_at caused h kept is =
    let long : length old.entries ≤ length new.entries = omega (arith, ap length is, length-append old.entries es) in
    record {
      within = record {
        rules = omega (arith, h.within.rules);
        clauses = omega (arith, h.within.clauses);
        examined = rw (kept.problem, kept.clauses) h.within.examined;
      };
      quiet = quiet_grow old new es q [] caused h.quiet kept is (λ n. head_within old q n h.within);
      lengths = rw kept.problem h.lengths;
      counts_within = rw (kept.problem, kept.clauses) h.counts_within;
      are_quiet_at = quiet_at_grow old new es quiet_at h.are_quiet_at kept is;
      follow = rw (kept.problem, kept.clauses) h.follow;
    }

pub engine_same : (old new : Store) (q : Progress) (quiet_at : List ℕ) → IsEngine old q quiet_at → new.problem ≡ old.problem → new.clauses ≡ old.clauses → new.entries ≡ old.entries → IsEngine new q quiet_at
engine_same old new q quiet_at h problem clauses entries = record {
  within = record {
    rules = rw entries h.within.rules;
    clauses = rw entries h.within.clauses;
    examined = rw (problem, clauses) h.within.examined;
  };
  quiet = rw (problem, clauses, entries) h.quiet;
  lengths = rw problem h.lengths;
  counts_within = rw (problem, clauses) h.counts_within;
  are_quiet_at = rw (problem, clauses, entries) h.are_quiet_at;
  follow = rw (problem, clauses) h.follow;
}

-- it was propagated
pub engine_run : (old new : Store) (q r : Progress) (quiet_at : List ℕ) → IsEngine old q quiet_at → OnlyTrailDiffers old new → Grows old new → IsWithin new r → AreQuiet new r → IsEngine new r quiet_at
engine_run old new q r quiet_at h kept (fs, hf, is) within quiet = record {
  within = within;
  quiet = quiet;
  lengths = rw kept.problem h.lengths;
  counts_within = rw (kept.problem, kept.clauses) h.counts_within;
  are_quiet_at = quiet_at_grow old new (entries_fired (values_in old) fs) quiet_at h.are_quiet_at kept is;
  follow = rw (kept.problem, kept.clauses) h.follow;
}

-- all is quiet, which is noted
pub engine_note : (s : Store) (q : Progress) (place : ℕ) (quiet_at : List ℕ) → IsEngine s q quiet_at → IsDone s q → place ≡ length s.entries → length s.entries ≤ s.problem.atoms → IsEngine s q (slice_set quiet_at place q.examined)
engine_note s q place quiet_at h done is few =
    let number = h.lengths in
    let lt : place < length quiet_at = omega arith in
    record {
      within = h.within;
      quiet = h.quiet;
      lengths = length-set quiet_at place q.examined ∙ h.lengths;
      counts_within = quiet_at_below quiet_at place q.examined (length (constraints_in s)) h.counts_within h.within.examined lt;
      are_quiet_at = quiet_at_set s quiet_at q place h.are_quiet_at h.quiet done is lt;
      follow = h.follow;
    }

-- entries were taken away
pub engine_back : (old new : Store) (q : Progress) (left at : ℕ) (before after : List ℕ) → HasCausedTrail new → IsEngine old q before → OnlyTrailDiffers old new → new.entries ≡ take left old.entries → left ≤ length old.entries → at ≤ left
    → AreQuietAt new after → length after ≡ length before → IsNoGreater after before → IsEngine new (record { rules = at; clauses = at; examined = counter after at }) after
engine_back old new q left at before after caused h kept is le low quiet_at number less =
    let within : at ≤ length new.entries = omega (arith, ap length is, length-take left old.entries) in
    record {
      within = record {
        rules = within;
        clauses = within;
        examined = rw (kept.problem, kept.clauses) (omega (arith, less at, h.counts_within at));
      };
      quiet = quiet_from new after at caused quiet_at;
      lengths = rw kept.problem (number ∙ h.lengths);
      counts_within = λ i. rw (kept.problem, kept.clauses) (omega (arith, less i, h.counts_within i));
      are_quiet_at = quiet_at;
      follow = rw (kept.problem, kept.clauses) h.follow;
    }

-- a clause was added
pub engine_add : (old new : Store) (c : Clause) (q : Progress) (quiet_at : List ℕ) → IsEngine old q quiet_at → new.problem ≡ old.problem → new.clauses ≡ old.clauses ++ c ∷ [] → new.entries ≡ old.entries → Follows old.problem c.lits → IsEngine new q quiet_at
engine_add old new c q quiet_at h problem clauses entries follows = record {
  within = record {
    rules = rw entries h.within.rules;
    clauses = rw entries h.within.clauses;
    examined = omega (arith, h.within.examined, longer);
  };
  quiet = λ n low un unlisted. (let same = before n (omega (arith, low, h.within.examined)) in rw (same, problem, entries) (h.quiet n low (rw (same, problem, entries) at un) unlisted));
  lengths = rw problem h.lengths;
  counts_within = λ i. omega (arith, h.counts_within i, longer);
  are_quiet_at = λ i n low. rw (before n (omega (arith, low, h.counts_within i)), problem, entries) (h.are_quiet_at i n low);
  follow = rw (problem, clauses) (each_push (λ (x : Clause). Follows old.problem x.lits) old.clauses c h.follow follows);
}
  where
    all : constraints_in new ≡ constraints_in old ++ rule_of_clause c ∷ []
    all = rw (problem, clauses) (constraints_push old.problem old.clauses c)

    longer : length (constraints_in new) ≡ length (constraints_in old) + 1
    longer = omega (arith, ap length all, length-append (constraints_in old) (rule_of_clause c ∷ []))

    before : (n : ℕ) → n < length (constraints_in old) → constraint_in new n ≡ constraint_in old n
    before n lt = rw (problem, clauses) (constraint_before old.problem old.clauses c n lt)

-- an engine as it is made
pub engine_new : (s : Store) (quiet_at : List ℕ) → s.clauses ≡ [] → quiet_at ≡ replicate (s.problem.atoms + 1) 0 → IsEngine s (record { rules = 0; clauses = 0; examined = 0 }) quiet_at
engine_new s quiet_at clauses is = record {
  within = record { rules = omega arith; clauses = omega arith; examined = omega arith };
  quiet = λ n low un unlisted. absurd (omega arith);
  lengths = rw is (let z : ℕ = 0 in length-replicate (s.problem.atoms + 1) z);
  counts_within = λ i. rw is (omega (arith, counter_zero (s.problem.atoms + 1) i));
  are_quiet_at = λ i n low. (let low' = rw is at low in absurd (omega (arith, low', counter_zero (s.problem.atoms + 1) i)));
  follow = rw clauses tt;
}
