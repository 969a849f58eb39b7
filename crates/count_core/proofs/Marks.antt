-- A mark at the atom of each literal of a list: it is met again exactly where two are over one atom.
use Rattle.std.proofs.Common.{◌≡◌, ◌≢◌, ℕ, ◌<◌, ◌≤◌, Bool, true, false, List, [], ◌∷◌, length, drop, drop-cons, get_or, refl, ◌∙◌, ap, arith}
use Rattle.std.specs.Prelude.{slice_set, ◌||◌, ◌==◌, nat_lt}
use Rattle.std.specs.List.{list_any}
use Rattle.std.proofs.lemmas.Bool.Decides.{nat_tests, Decides-eqb, Decides-ltb}
use Rattle.std.proofs.lemmas.List.Elements.{All-get_or}
use Rattle.std.proofs.lemmas.List.Sums.{AllPass-from_list_all}
use Rattle.std.proofs.lemmas.List.{get_or-set_same, get_or-set_other, length-set, drop_all}
use Rattle.count_core.specs.declared.lit.Lit.{Lit}
use Rattle.count_core.specs.Problems.{mentions, repeats, are_within}
use Rattle.count_core.proofs.Lists.{both_true, any_same, any_or, regroup}

-- the atom has the mark
abbrev pub is_marked : List ℕ → ℕ → ℕ → Bool
is_marked marks mark a = get_or marks a 0 == mark

-- some literal is over an atom with the mark, where each that is passed leaves it
abbrev pub meets_mark : List ℕ → ℕ → List Lit → Bool
meets_mark marks mark [] = false
meets_mark marks mark (l ∷ ls) = is_marked marks mark l.atom.0 || meets_mark (slice_set marks l.atom.0 mark) mark ls

set_reads : (marks : List ℕ) (a mark k : ℕ) → a < length marks → is_marked (slice_set marks a mark) mark k ≡ ((k == a) || is_marked marks mark k)
set_reads marks a mark k h = go (k == a) refl
  where
    go : (b : Bool) → (k == a) ≡ b → is_marked (slice_set marks a mark) mark k ≡ (b || is_marked marks mark k)
    go true e =
        let same : k ≡ a = (Decides-eqb k a).0 e in
        rw (same, get_or-set_same marks a mark 0 h) ((Decides-eqb mark mark).1 refl)
    go false e =
        let other : k ≢ a = λ q. (let yes : (k == a) ≡ true = (Decides-eqb k a).1 q in cc) in
        rw (get_or-set_other marks a k mark 0 other)

-- it is met exactly where some atom has it at first, or stands twice
pub meets_mark_is : (marks : List ℕ) (mark : ℕ) (ls : List Lit) → are_within (length marks) ls ≡ true → meets_mark marks mark ls ≡ (list_any (λ l. is_marked marks mark l.atom.0) ls || repeats ls)
meets_mark_is marks mark [] h = refl
meets_mark_is marks mark (l ∷ ls) h =
    let parts = both_true (nat_lt l.atom.0 (length marks)) (are_within (length marks) ls) h in
    let lt : l.atom.0 < length marks = (Decides-ltb l.atom.0 (length marks)).0 parts.0 in
    let same_length = length-set marks l.atom.0 mark in
    let inside : are_within (length (slice_set marks l.atom.0 mark)) ls ≡ true = rw same_length parts.1 in
    let rest = meets_mark_is (slice_set marks l.atom.0 mark) mark ls inside in
    let reads = any_same (λ (m : Lit). is_marked (slice_set marks l.atom.0 mark) mark m.atom.0) (λ (m : Lit). (m.atom.0 == l.atom.0) || is_marked marks mark m.atom.0) (λ m. set_reads marks l.atom.0 mark m.atom.0 lt) ls in
    let apart = any_or (λ (m : Lit). m.atom.0 == l.atom.0) (λ (m : Lit). is_marked marks mark m.atom.0) ls in
    ap (λ b. is_marked marks mark l.atom.0 || b) (rest ∙ ap (λ b. b || repeats ls) (reads ∙ apart))
    ∙ regroup (is_marked marks mark l.atom.0) (mentions l.atom.0 ls) (list_any (λ m. is_marked marks mark m.atom.0) ls) (repeats ls)

unmarked : (marks : List ℕ) (mark : ℕ) → ((k : ℕ) → get_or marks k 0 < mark) → (ls : List Lit) → list_any (λ l. is_marked marks mark l.atom.0) ls ≡ false
unmarked marks mark h [] = refl
unmarked marks mark h (l ∷ ls) =
    let lt = h l.atom.0 in
    let no : is_marked marks mark l.atom.0 ≡ false = grind (arith, nat_tests) in
    rw (no, unmarked marks mark h ls)

-- where no atom has the mark at first, it is met exactly where an atom stands twice
pub meets_mark_repeats : (marks : List ℕ) (mark : ℕ) (ls : List Lit) → are_within (length marks) ls ≡ true → ((k : ℕ) → get_or marks k 0 < mark) → meets_mark marks mark ls ≡ repeats ls
meets_mark_repeats marks mark ls h older = meets_mark_is marks mark ls h ∙ ap (λ b. b || repeats ls) (unmarked marks mark older ls)

-- a literal of a list within a number of atoms is
pub within_at : (atoms : ℕ) (ls : List Lit) (i : ℕ) (d : Lit) → i < length ls → are_within atoms ls ≡ true → (get_or ls i d).atom.0 < atoms
within_at atoms ls i d h e = (Decides-ltb _ _).0 (All-get_or (λ (l : Lit). nat_lt l.atom.0 atoms ≡ true) ls i d h (AllPass-from_list_all (λ (l : Lit). nat_lt l.atom.0 atoms) ls e))

-- the literal at a place is over an atom with the mark
pub met_now : (marks : List ℕ) (mark : ℕ) (ls : List Lit) (i : ℕ) (d : Lit) → i < length ls → get_or marks (get_or ls i d).atom.0 0 ≡ mark → meets_mark marks mark (drop i ls) ≡ true
met_now marks mark ls i d lt e =
    let yes : is_marked marks mark (get_or ls i d).atom.0 ≡ true = (Decides-eqb _ _).1 e in
    rw (drop-cons ls i d, yes)

-- none is left
pub met_never : (marks : List ℕ) (mark : ℕ) (ls : List Lit) (i : ℕ) → length ls ≤ i → meets_mark marks mark (drop i ls) ≡ false
met_never marks mark ls i past = rw (drop_all i ls past)
