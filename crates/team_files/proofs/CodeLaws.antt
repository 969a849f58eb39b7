-- Finding a code, and the first code that stands twice, in the subject's own words.
use Rattle.std.proofs.Common.{◌≡◌, ℕ, zero, suc, ◌+◌, ◌<◌, ◌⊎◌, inl, inr, Bool, true, false, List, [], ◌∷◌, ◌++◌, length, refl, sym, ap, subst, ◌∙◌, append_assoc, Option, Some, None, is_some, arith}
use Rattle.std.specs.Prelude.{if◌then◌else◌, bytes_eq}
use Rattle.std.proofs.lemmas.Bool.{cases_order}
use Rattle.std.proofs.lemmas.Slice.Eq.{bytes_eq-Decides}
use Rattle.std.proofs.lemmas.Option.{slice_get_within}
use Rattle.team_files.specs.declared.fault.FileFault.{FileFault}
use Rattle.team_files.specs.declared.team.Team.{Team}
use Rattle.team_files.specs.declared.team_id.TeamId.{TeamId}
use Rattle.team_files.specs.Teams.{find_from, find, HaveDistinctCodes}
use Rattle.team_files.specs.Heads.{same_code_from, same_code_fault}
use Rattle.team_files.specs.Codes.{codes_of, HasCodeAt, AreDifferent, StandsBefore, IsFirstRepeat, IsOfFirstRepeat, FindsByCode, TellsSameCode}

-- ---- finding a code

-- the place where a code was found, counted from i, has the code
there : (code : List ℕ) (ts : List Team) (i : ℕ) (id : TeamId)
    → find_from code ts i ≡ Some id → (k : ℕ) × (id.0 ≡ i + k) × HasCodeAt (codes_of ts) k code
there code [] i id e = cc
there code (t ∷ ts) i id e = go (bytes_eq t.code code) refl e (λ h. there code ts (i + 1) id h)
  where
    go : (b : Bool) → bytes_eq t.code code ≡ b
        → (if b then Some (record { 0 = i }) else find_from code ts (i + 1)) ≡ Some id
        → (find_from code ts (i + 1) ≡ Some id → (k : ℕ) × (id.0 ≡ (i + 1) + k) × HasCodeAt (codes_of ts) k code)
        → (k : ℕ) × (id.0 ≡ i + k) × HasCodeAt (codes_of (t ∷ ts)) k code
    go true is h rest =
        let at : i ≡ id.0 = cc in
        let same : t.code ≡ code = (bytes_eq-Decides t.code code).0 is in
        (zero, omega arith, ap (λ c. Some c) same)
    go false is h rest = let r = rest h in (suc r.0, omega (arith, r.1), r.2)

-- where none was found, no place has the code
nowhere : (code : List ℕ) (ts : List Team) (i k : ℕ) → find_from code ts i ≡ None → ¬ HasCodeAt (codes_of ts) k code
nowhere code [] i k e = λ h. cc
nowhere code (t ∷ ts) i k e = go (bytes_eq t.code code) refl e k (λ n h. nowhere code ts (i + 1) n h)
  where
    go : (b : Bool) → bytes_eq t.code code ≡ b
        → (if b then Some (record { 0 = i }) else find_from code ts (i + 1)) ≡ None
        → (n : ℕ) → ((m : ℕ) → find_from code ts (i + 1) ≡ None → ¬ HasCodeAt (codes_of ts) m code)
        → ¬ HasCodeAt (codes_of (t ∷ ts)) n code
    go true is h n rest = λ _. cc
    go false is h zero rest = λ at. let same : t.code ≡ code = cc in let yes = (bytes_eq-Decides t.code code).1 same in cc
    go false is h (suc n) rest = rest n h

none_found : (code : List ℕ) (ts : List Team) → ((place : ℕ) → ¬ HasCodeAt (codes_of ts) place code) → find code ts ≡ None
none_found code ts none = go (find code ts) refl
  where
    go : (r : Option TeamId) → find code ts ≡ r → find code ts ≡ None
    go None e = e
    go (Some id) e = let t = there code ts 0 id e in absurd (none t.0 t.2)

one_found : (code : List ℕ) (ts : List Team) (id : TeamId) → AreDifferent (codes_of ts) → HasCodeAt (codes_of ts) id.0 code → find code ts ≡ Some id
one_found code ts id different at = go (find code ts) refl
  where
    go : (r : Option TeamId) → find code ts ≡ r → find code ts ≡ Some id
    go None e = absurd (nowhere code ts 0 id.0 e at)
    go (Some other) e =
        let t = there code ts 0 other e in
        let same : t.0 ≡ id.0 = different t.0 id.0 code t.2 at in
        let place : other.0 ≡ id.0 = omega (arith, t.1, same) in
        e ∙ ap (λ n. Some (record { 0 = n })) place

-- the team that a code finds has it
pub stands : (code : List ℕ) (ts : List Team) (id : TeamId) → find code ts ≡ Some id → HasCodeAt (codes_of ts) id.0 code
stands code ts id e =
    let t = there code ts 0 id e in
    let place : t.0 ≡ id.0 = omega (arith, t.1) in
    subst (λ n. HasCodeAt (codes_of ts) n code) place t.2

-- distinct codes are different
pub to_different : (ts : List Team) → HaveDistinctCodes ts → AreDifferent (codes_of ts)
to_different [] d i j code a b = cc
to_different (t ∷ ts) d zero zero code a b = refl
to_different (t ∷ ts) d zero (suc j) code a b = let same : t.code ≡ code = cc in absurd (nowhere t.code ts 0 j d.0 (rw same b))
to_different (t ∷ ts) d (suc i) zero code a b = let same : t.code ≡ code = cc in absurd (nowhere t.code ts 0 i d.0 (rw same a))
to_different (t ∷ ts) d (suc i) (suc j) code a b = ap (λ n. suc n) (to_different ts d.1 i j code a b)

-- different codes are distinct
pub from_different : (ts : List Team) → AreDifferent (codes_of ts) → HaveDistinctCodes ts
from_different [] d = tt
from_different (t ∷ ts) d = (
  none_found t.code ts (λ place at. let e = d zero (suc place) t.code refl at in cc),
  from_different ts (λ i j code a b. let e = d (suc i) (suc j) code a b in omega (arith, e)),
)

-- finding by codes, in the subject's own words
pub finds_by_code : FindsByCode
finds_by_code = record {
  found = λ teams code id different. ((λ e. stands code teams id e), λ at. one_found code teams id different at);
  missing = λ teams code. ((λ e place at. nowhere code teams 0 place e at), λ none. none_found code teams none);
  distinct = λ teams. ((λ d. to_different teams d), λ d. from_different teams d);
}

-- ---- a code that stands twice

-- no place below n has a code that stands before it
abbrev pub NoneBelow : List (List ℕ) → ℕ → Type 0
NoneBelow codes n = (k : ℕ) (other : List ℕ) → k < n → HasCodeAt codes k other → ¬ StandsBefore codes k other

at_front : (xs : List Team) (t : Team) (ys : List Team) → HasCodeAt (codes_of (xs ++ t ∷ ys)) (length xs) t.code
at_front [] t ys = refl
at_front (x ∷ xs) t ys = at_front xs t ys

in_front : (xs ys : List Team) (k : ℕ) (code : List ℕ) → HasCodeAt (codes_of xs) k code → (k < length xs) × HasCodeAt (codes_of (xs ++ ys)) k code
in_front [] ys k code h = cc
in_front (x ∷ xs) ys zero code h = (omega arith, h)
in_front (x ∷ xs) ys (suc k) code h = let r = in_front xs ys k code h in (omega (arith, r.0), r.1)

back : (xs ys : List Team) (k : ℕ) (code : List ℕ) → k < length xs → HasCodeAt (codes_of (xs ++ ys)) k code → HasCodeAt (codes_of xs) k code
back [] ys k code lt h = absurd (omega arith)
back (x ∷ xs) ys zero code lt h = h
back (x ∷ xs) ys (suc k) code lt h = back xs ys k code (omega arith) h

one_more : (xs : List Team) (t : Team) → length (xs ++ t ∷ []) ≡ length xs + 1
one_more [] t = refl
one_more (x ∷ xs) t = let r = one_more xs t in omega (arith, r)

-- a team whose code no earlier one has
step : (earlier : List Team) (t : Team) (ts : List Team) → find t.code earlier ≡ None
    → NoneBelow (codes_of (earlier ++ t ∷ ts)) (length earlier) → NoneBelow (codes_of (earlier ++ t ∷ ts)) (length (earlier ++ t ∷ []))
step earlier t ts fresh none k other lt at before = go (cases_order k (length earlier))
  where
    go : (k ≡ length earlier) ⊎ ((k < length earlier) ⊎ (length earlier < k)) → ⊥
    go (inl last) =
        let here : HasCodeAt (codes_of (earlier ++ t ∷ ts)) (length earlier) other = rw last at at in
        let own = at_front earlier t ts in
        let same : other ≡ t.code = cc in
        let below : before.0 < length earlier = omega (arith, before.1, last) in
        nowhere t.code earlier 0 before.0 fresh (back earlier (t ∷ ts) before.0 t.code below (rw same at before.2))
    go (inr (inl less)) = none k other less at before
    go (inr (inr more)) = let n = one_more earlier t in absurd (omega (arith, n, more, lt))

-- the fault is of the first team whose code an earlier one has
abbrev pub FirstRepeatTold : List Team → FileFault → Type 0
FirstRepeatTold teams fault = IsOfFirstRepeat (codes_of teams) fault

-- the whole list, and what stands behind its first part
told : (earlier ts whole : List Team) (fault : FileFault) → earlier ++ ts ≡ whole → NoneBelow (codes_of whole) (length earlier)
    → same_code_from earlier ts ≡ Some fault → FirstRepeatTold whole fault
told earlier [] whole fault is none e = cc
told earlier (t ∷ ts) whole fault is none e =
    go (find t.code earlier) refl e (λ n h. told (earlier ++ t ∷ []) ts whole fault (append_assoc earlier (t ∷ []) ts ∙ is) n h)
  where
    go : (r : Option TeamId) → find t.code earlier ≡ r
        → (if is_some r then Some (FileFault.SameCode t.code) else same_code_from (earlier ++ t ∷ []) ts) ≡ Some fault
        → (NoneBelow (codes_of whole) (length (earlier ++ t ∷ [])) → same_code_from (earlier ++ t ∷ []) ts ≡ Some fault → FirstRepeatTold whole fault)
        → FirstRepeatTold whole fault
    go None f h rest = rest (subst (λ w. NoneBelow (codes_of w) (length (earlier ++ t ∷ []))) is (step earlier t ts f (rw (← is) at none))) h
    go (Some id) f h rest =
        let old = in_front earlier (t ∷ ts) id.0 t.code (stands t.code earlier id f) in (
          length earlier,
          t.code,
          cc,
          record {
            has = rw (← is) (at_front earlier t ts);
            before = (id.0, old.0, rw (← is) old.1);
            first = none;
          },
        )

silent : (earlier ts whole : List Team) → earlier ++ ts ≡ whole → NoneBelow (codes_of whole) (length earlier)
    → same_code_from earlier ts ≡ None → NoneBelow (codes_of whole) (length whole)
silent earlier [] whole is none e = let same : earlier ≡ whole = sym (ends earlier) ∙ is in rw same at none
  where
    ends : (xs : List Team) → xs ++ [] ≡ xs
    ends [] = refl
    ends (x ∷ xs) = ap (λ l. x ∷ l) (ends xs)
silent earlier (t ∷ ts) whole is none e =
    go (find t.code earlier) refl e (λ n h. silent (earlier ++ t ∷ []) ts whole (append_assoc earlier (t ∷ []) ts ∙ is) n h)
  where
    go : (r : Option TeamId) → find t.code earlier ≡ r
        → (if is_some r then Some (FileFault.SameCode t.code) else same_code_from (earlier ++ t ∷ []) ts) ≡ None
        → (NoneBelow (codes_of whole) (length (earlier ++ t ∷ [])) → same_code_from (earlier ++ t ∷ []) ts ≡ None → NoneBelow (codes_of whole) (length whole))
        → NoneBelow (codes_of whole) (length whole)
    go None f h rest = rest (subst (λ w. NoneBelow (codes_of w) (length (earlier ++ t ∷ []))) is (step earlier t ts f (rw (← is) at none))) h
    go (Some id) f h rest = cc

-- the fault that is told is of the first code that stands before itself
pub first_told : (teams : List Team) (fault : FileFault) → same_code_fault teams ≡ Some fault → FirstRepeatTold teams fault
first_told teams fault e = told [] teams teams fault refl (λ k other lt at before. omega (arith, lt)) e

none_told : (teams : List Team) → same_code_fault teams ≡ None → NoneBelow (codes_of teams) (length teams)
none_told teams e = silent [] teams teams refl (λ k other lt at before. omega (arith, lt)) e

-- there is one first place at most
pub one_first : (codes : List (List ℕ)) (i j : ℕ) (a b : List ℕ) → IsFirstRepeat codes i a → IsFirstRepeat codes j b → a ≡ b
one_first codes i j a b p q = go (cases_order i j)
  where
    go : (i ≡ j) ⊎ ((i < j) ⊎ (j < i)) → a ≡ b
    go (inl same) = let here : HasCodeAt codes j a = rw same at p.has in let there = q.has in cc
    go (inr (inl less)) = absurd (q.first i a less p.has p.before)
    go (inr (inr more)) = absurd (p.first j b more q.has q.before)

-- the first code that stands before itself is told
pub told_back : (teams : List Team) (fault : FileFault) → FirstRepeatTold teams fault → same_code_fault teams ≡ Some fault
told_back teams fault h = go (same_code_fault teams) refl
  where
    go : (r : Option FileFault) → same_code_fault teams ≡ r → same_code_fault teams ≡ Some fault
    go None e =
        let within = slice_get_within (codes_of teams) h.0 h.1 h.3.has in
        absurd (none_told teams e h.0 h.1 (shorter teams h.0 within) h.3.has h.3.before)
      where
        shorter : (ts : List Team) (k : ℕ) → k < length (codes_of ts) → k < length ts
        shorter [] k lt = lt
        shorter (t ∷ ts) zero lt = omega arith
        shorter (t ∷ ts) (suc k) lt = let r = shorter ts k (omega arith) in omega (arith, r)
    go (Some other) e =
        let t = first_told teams other e in
        let same = one_first (codes_of teams) t.0 h.0 t.1 h.1 t.3 h.3 in
        e ∙ ap (λ f. Some f) (t.2 ∙ ap (λ c. FileFault.SameCode c) same ∙ sym h.2)

none_back : (teams : List Team) → AreDifferent (codes_of teams) → same_code_fault teams ≡ None
none_back teams d = go (same_code_fault teams) refl
  where
    go : (r : Option FileFault) → same_code_fault teams ≡ r → same_code_fault teams ≡ None
    go None e = e
    go (Some fault) e =
        let t = first_told teams fault e in
        let b = t.3.before in
        let same = d b.0 t.0 t.1 b.2 t.3.has in
        absurd (omega (arith, same, b.1))

-- where no code is told, codes are distinct
pub distinct : (teams : List Team) → same_code_fault teams ≡ None → HaveDistinctCodes teams
distinct teams e = from_different teams different
  where
    shorter : (ts : List Team) (k : ℕ) → k < length (codes_of ts) → k < length ts
    shorter [] k lt = lt
    shorter (t ∷ ts) zero lt = omega arith
    shorter (t ∷ ts) (suc k) lt = let r = shorter ts k (omega arith) in omega (arith, r)

    within : (k : ℕ) (code : List ℕ) → HasCodeAt (codes_of teams) k code → k < length teams
    within k code at = shorter teams k (slice_get_within (codes_of teams) k code at)

    different : AreDifferent (codes_of teams)
    different i j code a b = go (cases_order i j)
      where
        go : (i ≡ j) ⊎ ((i < j) ⊎ (j < i)) → i ≡ j
        go (inl same) = same
        go (inr (inl less)) = absurd (none_told teams e j code (within j code b) b (i, less, a))
        go (inr (inr more)) = absurd (none_told teams e i code (within i code a) a (j, more, b))

-- where codes are distinct, none is told
pub not_repeated : (teams : List Team) → HaveDistinctCodes teams → same_code_fault teams ≡ None
not_repeated teams d = none_back teams (to_different teams d)

-- the fault of a code that stands twice, in the subject's own words
pub tells_same_code : TellsSameCode
tells_same_code = record {
  some = λ teams fault. ((λ e. first_told teams fault e), λ h. told_back teams fault h);
  none = λ teams. ((λ e. to_different teams (distinct teams e)), λ d. none_back teams d);
}
