-- The pair that is refused is the first one that names no two teams.
use Rattle.std.proofs.Common.{◌≡◌, ℕ, zero, suc, ◌+◌, ◌<◌, ◌⊎◌, inl, inr, eqb-true, Bool, true, false, List, [], ◌∷◌, slice_get, refl, sym, ap, ◌∙◌, Option, Some, None, Result, Ok, Err, arith}
use Rattle.std.specs.Prelude.{◌==◌, if◌then◌else◌}
use Rattle.std.proofs.lemmas.Bool.{cases_order}
use Rattle.std.proofs.lemmas.Bool.Decides.{nat_tests}
use Rattle.team_files.specs.declared.fault.FileFault.{FileFault}
use Rattle.team_files.specs.declared.head_pair.HeadPair.{HeadPair}
use Rattle.team_files.specs.declared.team.Team.{Team}
use Rattle.team_files.specs.declared.team_id.TeamId.{TeamId}
use Rattle.team_files.specs.Answers.{after}
use Rattle.rule_sets.specs.declared.pair.Pair.{Pair}
use Rattle.rule_sets.specs.Files.{team_named, pair_at, pair_of, pairs_from}
use Rattle.rule_sets.specs.BadPairs.{NamesNoPair, IsFirstBadPair, TellsFirstBadPair}

-- what looking up one pair says
abbrev OneTold : Option TeamId → Option TeamId → ℕ → Result Pair FileFault → Type 0
OneTold a b place (Ok pair) = ¬ ((a ≡ None) ⊎ ((b ≡ None) ⊎ (a ≡ b)))
OneTold a b place (Err fault) = (fault ≡ FileFault.BadPair place) × ((a ≡ None) ⊎ ((b ≡ None) ⊎ (a ≡ b)))

one_told : (place : ℕ) (a b : Option TeamId) → OneTold a b place (pair_at place a b)
one_told place None b = (refl, inl refl)
one_told place (Some a) None = (refl, inr (inl refl))
one_told place (Some a) (Some b) = go (a.0 == b.0) refl
  where
    go : (x : Bool) → (a.0 == b.0) ≡ x → OneTold (Some a) (Some b) place (if x then Err (FileFault.BadPair place) else Ok (record { first = a; second = b }))
    go true is = let same : a.0 ≡ b.0 = eqb-true a.0 b.0 is in (refl, inr (inr (ap (λ n. Some (record { 0 = n })) same)))
    go false is = λ bad. elim bad [ inl h ↦ cc | inr h ↦ elim h [ inl k ↦ cc | inr k ↦ (let same : a ≡ b = cc in let number : a.0 ≡ b.0 = ap (λ t. t.0) same in grind (arith, nat_tests)) ] ]

abbrev FirstBad : List Team → ℕ → List HeadPair → FileFault → Type 0
FirstBad teams i ps fault = (place : ℕ) × (fault ≡ FileFault.BadPair (i + place)) × IsFirstBadPair teams ps place

-- what looking up all pairs says, where they are counted from i
abbrev AllTold : List Team → ℕ → List HeadPair → Result (List Pair) FileFault → Type 0
AllTold teams i ps (Ok pairs) = (k : ℕ) (other : HeadPair) → slice_get ps k ≡ Some other → ¬ NamesNoPair teams other
AllTold teams i ps (Err fault) = FirstBad teams i ps fault

one_more : (teams : List Team) (i : ℕ) (p : HeadPair) (ps : List HeadPair) (r : Result Pair FileFault) (s : Result (List Pair) FileFault)
    → OneTold (team_named teams p.first) (team_named teams p.second) i r → AllTold teams (i + 1) ps s
    → AllTold teams i (p ∷ ps) (after r (λ pair. after s (λ pairs. Ok (pair ∷ pairs))))
one_more teams i p ps (Err f) s h rest =
    let none : i + 0 ≡ i = omega arith in
    (zero, h.0 ∙ ap (λ n. FileFault.BadPair n) (sym none), record { bad = (p, refl, h.1); first = λ k other lt at. absurd (omega (arith, lt)) })
one_more teams i p ps (Ok pair) (Err f) h rest =
    let place : i + suc rest.0 ≡ (i + 1) + rest.0 = omega arith in
    (suc rest.0, rest.1 ∙ ap (λ n. FileFault.BadPair n) (sym place), record { bad = rest.2.bad; first = later rest.0 rest.2.first })
  where
    later : (n : ℕ) → ((k : ℕ) (other : HeadPair) → k < n → slice_get ps k ≡ Some other → ¬ NamesNoPair teams other)
        → (k : ℕ) (other : HeadPair) → k < suc n → slice_get (p ∷ ps) k ≡ Some other → ¬ NamesNoPair teams other
    later n first zero other lt at = let same : p ≡ other = cc in rw (← same) h
    later n first (suc k) other lt at = first k other (omega arith) at
one_more teams i p ps (Ok pair) (Ok pairs) h rest = later
  where
    later : (k : ℕ) (other : HeadPair) → slice_get (p ∷ ps) k ≡ Some other → ¬ NamesNoPair teams other
    later zero other at = let same : p ≡ other = cc in rw (← same) h
    later (suc k) other at = rest k other at

all_told : (teams : List Team) (i : ℕ) (ps : List HeadPair) → AllTold teams i ps (pairs_from teams i ps)
all_told teams i [] = λ k other at. cc
all_told teams i (p ∷ ps) =
    one_more teams i p ps (pair_of teams i p) (pairs_from teams (i + 1) ps) (one_told i (team_named teams p.first) (team_named teams p.second)) (all_told teams (i + 1) ps)

one_first : (teams : List Team) (ps : List HeadPair) (i j : ℕ) → IsFirstBadPair teams ps i → IsFirstBadPair teams ps j → i ≡ j
one_first teams ps i j a b = go (cases_order i j)
  where
    go : (i ≡ j) ⊎ ((i < j) ⊎ (j < i)) → i ≡ j
    go (inl same) = same
    go (inr (inl less)) = absurd (b.first i a.bad.0 less a.bad.1 a.bad.2)
    go (inr (inr more)) = absurd (a.first j b.bad.0 more b.bad.1 b.bad.2)

-- looking up the pairs refuses exactly the first bad one
pub tells_first_bad_pair : TellsFirstBadPair
tells_first_bad_pair teams ps fault = ((λ e. told (pairs_from teams 0 ps) (all_told teams 0 ps) e), λ h. back h (pairs_from teams 0 ps) refl (all_told teams 0 ps))
  where
    told : (r : Result (List Pair) FileFault) → AllTold teams 0 ps r → r ≡ Err fault → (place : ℕ) × (fault ≡ FileFault.BadPair place) × IsFirstBadPair teams ps place
    told (Ok pairs) t e = cc
    told (Err f) t e =
        let same : f ≡ fault = cc in
        let none : 0 + t.0 ≡ t.0 = omega arith in
        (t.0, sym same ∙ t.1 ∙ ap (λ n. FileFault.BadPair n) none, t.2)

    back : ((place : ℕ) × (fault ≡ FileFault.BadPair place) × IsFirstBadPair teams ps place) → (r : Result (List Pair) FileFault) → pairs_from teams 0 ps ≡ r → AllTold teams 0 ps r → pairs_from teams 0 ps ≡ Err fault
    back h (Ok pairs) e t = absurd (t h.0 h.2.bad.0 h.2.bad.1 h.2.bad.2)
    back h (Err f) e t =
        let place : t.0 ≡ h.0 = one_first teams ps t.0 h.0 t.2 h.2 in
        let none : 0 + t.0 ≡ h.0 = omega (arith, place) in
        e ∙ ap (λ x. Err x) (t.1 ∙ ap (λ n. FileFault.BadPair n) none ∙ sym h.1)
