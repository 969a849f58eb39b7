-- Which constraints are known to be quiet, so that they need no look.
use Rattle.std.specs.Prelude.{◌≡◌, ℕ, ◌+◌, ◌≤◌, ◌<◌, ◌==◌, ◌&&◌, ◌||◌, nat_lt, not, if◌then◌else◌, Bool, false, List, [], length, take, drop}
use Rattle.std.specs.List.{list_any, AllByRecursion}
use Rattle.count_core.specs.declared.lit.Lit.{Lit}
use Rattle.count_core.specs.declared.count_rule.CountRule.{CountRule}
use Rattle.count_core.specs.Problems.{mentions}
use Rattle.count_core.specs.Assignments.{Follows, under_sign}
use Rattle.propagation.specs.declared.clause.Clause.{Clause}
use Rattle.propagation.specs.declared.progress.Progress.{Progress}
use Rattle.propagation.specs.declared.occurrence.Occurrence.{Occurrence}
use Rattle.propagation.specs.Trails.{Entry, values_of}
use Rattle.propagation.specs.Constraints.{IsQuietConstraint}
use Rattle.propagation.specs.Occurrences.{is_listed, counter}
use Rattle.propagation.specs.Stores.{Store, constraints_in, constraint_in, rules_number, in_rules, in_clauses, IsQuietIn}

-- some literal of the list is over the set literal's atom, and false
abbrev pub falsifies : Lit → List Lit → Bool
falsifies m ls = list_any (λ (l : Lit). (l.atom.0 == m.atom.0) && not (under_sign l.positive m.positive)) ls

-- A literal that is set may make the constraint conflict or force: it makes one of its literals false;
-- or it makes one true, and more may be true than the upper bound says. In a clause that cannot be.
abbrev pub affects : Lit → CountRule → Bool
affects m r = falsifies m r.lits || (nat_lt r.hi (length r.lits) && mentions m.atom.0 r.lits)

-- some entry's literal may
abbrev pub is_affected : List Entry → CountRule → Bool
is_affected es r = list_any (λ (e : Entry). affects e.lit r) es

-- the next entry was visited for the rules
abbrev pub past_rules : Progress → Progress
past_rules q = record { rules = q.rules + 1; clauses = q.clauses; examined = q.examined }

-- the next entry was visited for the clauses
abbrev pub past_clauses : Progress → Progress
past_clauses q = record { rules = q.rules; clauses = q.clauses + 1; examined = q.examined }

-- the next constraint was examined
abbrev pub past_constraint : Progress → Progress
past_constraint q = record { rules = q.rules; clauses = q.clauses; examined = q.examined + 1 }

-- the first entry that was not visited for the constraint with this number
abbrev pub head_of : Store → Progress → ℕ → ℕ
head_of s q n = if nat_lt n (rules_number s) then q.rules else q.clauses

-- No pending entry may affect the constraint with this number.
abbrev pub IsUnaffected : Store → Progress → ℕ → Type 0
IsUnaffected s q n = is_affected (drop (head_of s q n) s.entries) (constraint_in s n) ≡ false

-- Each of the first constraints is quiet, but for those listed and those that a pending entry may
-- affect.
abbrev pub AreQuietBut : Store → Progress → List Occurrence → Type 0
AreQuietBut s q os =
    (n : ℕ) → n < q.examined → IsUnaffected s q n → is_listed n os ≡ false → IsQuietIn s n

-- Each of the first constraints is quiet, but for those that a pending entry may affect.
abbrev pub AreQuiet : Store → Progress → Type 0
AreQuiet s q = AreQuietBut s q []

-- Only entries and constraints that are there were visited and examined.
pub record IsWithin (s : Store) (q : Progress) : Type 0 where
  pub rules : q.rules ≤ length s.entries
  pub clauses : q.clauses ≤ length s.entries
  pub examined : q.examined ≤ length (constraints_in s)

-- Nothing is pending.
pub record IsDone (s : Store) (q : Progress) : Type 0 where
  pub rules : q.rules ≡ length s.entries
  pub clauses : q.clauses ≡ length s.entries
  pub examined : q.examined ≡ length (constraints_in s)

-- A rule of the problem that is not listed at the atom has no literal over it.
abbrev pub HaveNoRules : Store → ℕ → Type 0
HaveNoRules s a =
    (n : ℕ) → n < rules_number s → is_listed n (in_rules s a) ≡ false
    → mentions a (constraint_in s n).lits ≡ false

-- A clause that is not listed at the atom has no literal over it.
abbrev pub HaveNoClauses : Store → ℕ → Type 0
HaveNoClauses s a =
    (n : ℕ) → rules_number s ≤ n → is_listed n (in_clauses s a) ≡ false
    → mentions a (constraint_in s n).lits ≡ false

-- At each length of the trail so many of the first constraints are quiet.
abbrev pub AreQuietAt : Store → List ℕ → Type 0
AreQuietAt s quiet_at =
    (i n : ℕ) → n < counter quiet_at i
    → (i ≤ length s.entries)
    × IsQuietConstraint (values_of s.problem.atoms (take i s.entries)) (constraint_in s n)

-- Each counter is no greater than it was.
abbrev pub IsNoGreater : List ℕ → List ℕ → Type 0
IsNoGreater new old = (i : ℕ) → counter new i ≤ counter old i

-- What holds of the parts of an engine.
pub record IsEngine (store : Store) (progress : Progress) (quiet_at : List ℕ) : Type 0 where
  pub within : IsWithin store progress
  pub quiet : AreQuiet store progress
  pub lengths : length quiet_at ≡ store.problem.atoms + 1
  pub counts_within : (i : ℕ) → counter quiet_at i ≤ length (constraints_in store)
  pub are_quiet_at : AreQuietAt store quiet_at
  pub follow : AllByRecursion (λ (c : Clause). Follows store.problem c.lits) store.clauses
