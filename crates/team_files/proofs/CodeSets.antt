-- The set of the teams' codes, in file order, finds the first team with a code.
use Rattle.std.proofs.Common.{◌≡◌, ℕ, suc, ◌+◌, ◌<◌, Bool, true, false, not, cond, List, [], ◌∷◌, ◌++◌, length, take, drop, get_or, refl, sym, ◌∙◌, Option, Some, None, is_some, arith}
use Rattle.std.specs.Prelude.{if◌then◌else◌, bytes_eq, nat_lt, position, option_map, ◌||◌}
use Rattle.std.specs.List.{list_any, position_or_len}
use Rattle.std.specs.Bool.{one_answer}
use Rattle.std.proofs.lemmas.Bool.Decides.{nat_tests}
use Rattle.std.proofs.lemmas.List.{take_more, drop_more, map-append}
use Rattle.std.proofs.lemmas.Slice.Eq.{bytes_eq-Decides}
use Rattle.indexmap.specs.IndexSet.{insert_key}
use Rattle.team_files.specs.contracts.code.CodePartialEq.TheImpl.{eq-value}
use Rattle.team_files.specs.declared.fault.FileFault.{FileFault}
use Rattle.team_files.specs.declared.team.Team.{Team}
use Rattle.team_files.specs.declared.team_id.TeamId.{TeamId}
use Rattle.team_files.specs.Codes.{codes_of}
use Rattle.team_files.specs.Teams.{find_from, find}
use Rattle.team_files.specs.Heads.{same_code_from}

-- two codes are compared by their bytes, and either may stand first
same : (x y : List ℕ) → eq-value.it x y ≡ bytes_eq y x
same x y =
    let d = bytes_eq-Decides x y in
    let e = bytes_eq-Decides y x in
    one_answer (bytes_eq x y) (bytes_eq y x) d ((λ h. sym (e.0 h)), λ h. e.1 (sym h))

-- ---- the place of a code

-- the place where the test says that there is one
abbrev told_place : Bool → ℕ → Option TeamId
told_place there place = cond there (Some (record { 0 = place })) None

one_on : (n l i : ℕ) → told_place (nat_lt n l) ((i + 1) + n) ≡ told_place (nat_lt (1 + n) (suc l)) (i + (1 + n))
one_on n l i =
    let same_test : nat_lt (1 + n) (suc l) ≡ nat_lt n l = grind (arith, nat_tests) in
    let same_place : i + (1 + n) ≡ (i + 1) + n = omega arith in
    rw same_test (rw same_place refl)

at_first : (n l i : ℕ) → Some (record { 0 = i }) ≡ told_place (nat_lt 0 (suc l)) (i + 0)
at_first n l i =
    let is : nat_lt 0 (suc l) ≡ true = grind (arith, nat_tests) in
    let same_place : i + 0 ≡ i = omega arith in
    rw is (rw same_place refl)

place_step : (b : Bool) (n l i : ℕ) (rest : Option TeamId) → rest ≡ told_place (nat_lt n l) ((i + 1) + n)
    → (if b then Some (record { 0 = i }) else rest) ≡ told_place (nat_lt (cond (not b) (1 + n) 0) (suc l)) (i + cond (not b) (1 + n) 0)
place_step true n l i rest h = at_first n l i
place_step false n l i rest h = h ∙ one_on n l i

place_from : (code : List ℕ) (ts : List Team) (i : ℕ)
    → find_from code ts i ≡ told_place (nat_lt (position_or_len (eq-value.it code) (codes_of ts)) (length (codes_of ts))) (i + position_or_len (eq-value.it code) (codes_of ts))
place_from code [] i = refl
place_from code (t ∷ ts) i =
    rw (same code t.code) (place_step (bytes_eq t.code code) (position_or_len (eq-value.it code) (codes_of ts)) (length (codes_of ts)) i (find_from code ts (i + 1)) (place_from code ts (i + 1)))

-- the place of the code in the set is that of the first team with it
pub found : (code : List ℕ) (keys : List (List ℕ)) (ts : List Team) (place : Option ℕ)
    → keys ≡ codes_of ts → place ≡ position (eq-value.it code) keys → option_map (λ k. record { 0 = k }) place ≡ find code ts
found code keys ts place e p = rw p (rw e (go (nat_lt (position_or_len (eq-value.it code) (codes_of ts)) (length (codes_of ts))) (position_or_len (eq-value.it code) (codes_of ts)) (place_from code ts 0)))
  where
    go : (b : Bool) (n : ℕ) → find_from code ts 0 ≡ told_place b (0 + n) → option_map (λ k. record { 0 = k }) (cond b (Some n) None) ≡ find_from code ts 0
    go true n h = let none : 0 + n ≡ n = omega arith in sym (rw none at h)
    go false n h = sym h

-- ---- the codes so far, and the next one

any_step : (b c : Bool) (i : ℕ) (rest : Option TeamId) → c ≡ is_some rest → (b || c) ≡ is_some (if b then Some (record { 0 = i }) else rest)
any_step true c i rest h = refl
any_step false c i rest h = h

-- the set has the code exactly where some team has it
pub any_from : (code : List ℕ) (ts : List Team) (i : ℕ) → list_any (eq-value.it code) (codes_of ts) ≡ is_some (find_from code ts i)
any_from code [] i = refl
any_from code (t ∷ ts) i = rw (same code t.code) (any_step (bytes_eq t.code code) (list_any (eq-value.it code) (codes_of ts)) i (find_from code ts (i + 1)) (any_from code ts (i + 1)))

module _ (ts : List Team) (i : ℕ) (t : Team) (keys : List (List ℕ)) (is_new : Bool)
    (within : i < length ts) (at : t ≡ get_or ts i t) (so_far : keys ≡ codes_of (take i ts))
    (told : is_new ≡ not (list_any (eq-value.it t.code) keys)) where
  has : list_any (eq-value.it t.code) keys ≡ is_some (find_from t.code (take i ts) 0)
  has = rw so_far (any_from t.code (take i ts) 0)

  unfolded : same_code_from (take i ts) (drop i ts) ≡ (if is_some (find_from t.code (take i ts) 0) then Some (FileFault.SameCode t.code) else same_code_from (take i ts ++ t ∷ []) (drop (i + 1) ts))
  unfolded = rw (drop_more ts i t within) (rw (← at) refl)

  -- the code is an earlier team's
  pub repeated : is_new ≡ false → same_code_from (take i ts) (drop i ts) ≡ Some (FileFault.SameCode t.code)
  repeated old = unfolded ∙ go (list_any (eq-value.it t.code) keys) has (sym told ∙ old)
    where
      go : (b : Bool) → b ≡ is_some (find_from t.code (take i ts) 0) → not b ≡ false
          → (if is_some (find_from t.code (take i ts) 0) then Some (FileFault.SameCode t.code) else same_code_from (take i ts ++ t ∷ []) (drop (i + 1) ts)) ≡ Some (FileFault.SameCode t.code)
      go true e n = rw (← e) refl
      go false e n = cc

  -- the code is new
  pub added : is_new ≡ true → insert_key eq-value.it keys t.code ≡ codes_of (take (i + 1) ts)
  added new = go (list_any (eq-value.it t.code) keys) (sym told ∙ new)
    where
      go : (b : Bool) → not b ≡ true → (if b then keys else keys ++ t.code ∷ []) ≡ codes_of (take (i + 1) ts)
      go true n = cc
      go false n = rw (take_more ts i t within) (rw (← at) (rw (map-append (λ u. u.code) (take i ts) (t ∷ [])) (rw so_far refl)))

  -- so no fault is told of this team
  pub goes_on : is_new ≡ true → same_code_from (take (i + 1) ts) (drop (i + 1) ts) ≡ same_code_from (take i ts) (drop i ts)
  goes_on new = sym (unfolded ∙ go (list_any (eq-value.it t.code) keys) has (sym told ∙ new))
    where
      go : (b : Bool) → b ≡ is_some (find_from t.code (take i ts) 0) → not b ≡ true
          → (if is_some (find_from t.code (take i ts) 0) then Some (FileFault.SameCode t.code) else same_code_from (take i ts ++ t ∷ []) (drop (i + 1) ts)) ≡ same_code_from (take (i + 1) ts) (drop (i + 1) ts)
      go true e n = cc
      go false e n = rw (take_more ts i t within) (rw (← at) (rw (← e) refl))
