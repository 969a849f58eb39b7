-- Where atoms occur: for each atom a list of the literals over it, each with its constraint's number;
-- and counters by constraint, which such a list raises.
use Rattle.std.specs.Prelude.{◌≡◌, ℕ, ◌+◌, ◌≤◌, ◌<◌, ◌^◌, length, if◌then◌else◌, ◌==◌, ◌&&◌, Bool, false, List, [], ◌++◌, take, drop, count_by, slice_index_or}
use Rattle.std.specs.List.{list_any, AllByRecursion}
use Rattle.count_core.specs.declared.lit.Lit.{Lit}
use Rattle.count_core.specs.declared.count_rule.CountRule.{CountRule}
use Rattle.count_core.specs.Assignments.{under_sign}
use Rattle.propagation.specs.declared.occurrence.Occurrence.{Occurrence}
use Rattle.propagation.specs.Constraints.{nth}

-- Occurrences, and for how many there is room.
pub record OccurrenceList : Type 0 where
  pub items : List Occurrence
  pub room : ℕ

-- what is read past the end
abbrev pub no_list : OccurrenceList
no_list = record { items = []; room = 0 }

abbrev pub no_occurrence : Occurrence
no_occurrence = record { constraint = 0; positive = false }

-- the occurrences of the atom
abbrev pub items_at : List OccurrenceList → ℕ → List Occurrence
items_at lists a = (slice_index_or lists a no_list).items

-- for how many occurrences of the atom there is room
abbrev pub room_at : List OccurrenceList → ℕ → ℕ
room_at lists a = (slice_index_or lists a no_list).room

-- how many listed literals of constraint n are true where the atom has this value
abbrev pub number_listed : Bool → ℕ → List Occurrence → ℕ
number_listed b n os = count_by (λ (o : Occurrence). (o.constraint == n) && under_sign o.positive b) os

-- how many of the literals are over the atom, and true where it has this value
abbrev pub number_in : Bool → ℕ → List Lit → ℕ
number_in b a ls = count_by (λ (l : Lit). (l.atom.0 == a) && under_sign l.positive b) ls

-- that number, or 0 where it does not count
abbrev pub number_if : Bool → Bool → ℕ → List Lit → ℕ
number_if counts b a ls = if counts then number_in b a ls else 0

-- some listed literal is of the constraint
abbrev pub is_listed : ℕ → List Occurrence → Bool
is_listed n os = list_any (λ (o : Occurrence). o.constraint == n) os

-- Each is of one of so many constraints.
abbrev pub AreBelow : ℕ → List Occurrence → Type 0
AreBelow m os = AllByRecursion (λ (o : Occurrence). o.constraint < m) os

-- Each is of constraint m or a later one.
abbrev pub AreFrom : ℕ → List Occurrence → Type 0
AreFrom m os = AllByRecursion (λ (o : Occurrence). m ≤ o.constraint) os

-- Each is of constraint m.
abbrev pub AreOf : ℕ → List Occurrence → Type 0
AreOf m os = AllByRecursion (λ (o : Occurrence). o.constraint ≡ m) os

-- ---- counters

-- the counter of the constraint with this number, or 0 past the end
abbrev pub counter : List ℕ → ℕ → ℕ
counter xs n = slice_index_or xs n 0

-- Each counter is raised by the number of its listed literals that are true at this value.
abbrev pub IsRaised : List ℕ → List ℕ → Bool → List Occurrence → Type 0
IsRaised old new b os = (n : ℕ) → counter new n ≡ counter old n + number_listed b n os

-- A usize can hold the counters when they are raised.
abbrev pub CanRise : List ℕ → Bool → List Occurrence → Type 0
CanRise xs b os = (n : ℕ) → counter xs n + number_listed b n os < 2 ^ 64

-- The counters have counted as many.
abbrev pub CanFall : List ℕ → Bool → List Occurrence → Type 0
CanFall xs b os = (n : ℕ) → number_listed b n os ≤ counter xs n

-- ---- lists of all atoms

-- The atom has no occurrence.
abbrev pub IsEmptyAt : List OccurrenceList → ℕ → Type 0
IsEmptyAt lists a = items_at lists a ≡ []

-- Each atom has the same occurrences.
abbrev pub HaveSameItems : List OccurrenceList → List OccurrenceList → Type 0
HaveSameItems old new = (a : ℕ) → items_at new a ≡ items_at old a

-- There is room for one occurrence more at the atom of the literal.
abbrev pub HasRoomAt : List OccurrenceList → Lit → Type 0
HasRoomAt lists l = length (items_at lists l.atom.0) < room_at lists l.atom.0

-- There is room for one occurrence more at the atom of each literal.
abbrev pub HaveRoomFor : List OccurrenceList → List Lit → Type 0
HaveRoomFor lists ls = AllByRecursion (HasRoomAt lists) ls

-- Occurrences of constraint n were added at the end.
abbrev pub IsAppended : ℕ → List Occurrence → List Occurrence → Type 0
IsAppended n old new = (os : List Occurrence) × (new ≡ old ++ os) × AreOf n os

-- The literals were entered as those of constraint `number`.
pub record AreEntered (old new : List OccurrenceList) (number : ℕ) (ls : List Lit) : Type 0 where
  pub numbers : (b : Bool) (n a : ℕ) → number_listed b n (items_at new a)
      ≡ number_listed b n (items_at old a) + number_if (number == n) b a ls
  pub appended : (a : ℕ) → IsAppended number (items_at old a) (items_at new a)

-- For each of so many atoms the literals of all constraints over it are listed.
pub record AreListed (atoms : ℕ) (rules : List CountRule) (lists : List OccurrenceList) : Type 0 where
  pub atoms_number : length lists ≡ atoms
  pub numbers : (b : Bool) (n a : ℕ) → number_listed b n (items_at lists a) ≡ number_in b a (nth rules n).lits
  pub below : (a : ℕ) → AreBelow (length rules) (items_at lists a)

-- At each atom the occurrences of the first m constraints stand before the others, so many of them.
pub record AreSplit (m : ℕ) (splits : List ℕ) (lists : List OccurrenceList) : Type 0 where
  pub number : length splits ≡ length lists
  pub within : (a : ℕ) → counter splits a ≤ length (items_at lists a)
  pub before : (a : ℕ) → AreBelow m (take (counter splits a) (items_at lists a))
  pub after : (a : ℕ) → AreFrom m (drop (counter splits a) (items_at lists a))

-- Each number is that of the occurrences of an atom.
pub record AreLengths (lengths : List ℕ) (lists : List OccurrenceList) : Type 0 where
  pub number : length lengths ≡ length lists
  pub each : (a : ℕ) → counter lengths a ≡ length (items_at lists a)

-- No counter of the literals of one constraint overflows.
abbrev pub AreShort : List CountRule → Type 0
AreShort rules = (n : ℕ) → length (nth rules n).lits < 2 ^ 63
