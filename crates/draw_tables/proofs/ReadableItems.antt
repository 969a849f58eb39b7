-- Codes of teams and places are items of one width.
use Rattle.std.proofs.Common.{◌≡◌, ℕ, zero, suc, ◌+◌, ◌-◌, ◌<◌, ◌≤◌, Bool, true, false, List, [], ◌∷◌, ◌++◌, length, take, drop, Some, None, slice_get, arith, refl, ap, ◌∙◌}
use Rattle.std.specs.Prelude.{◌==◌, ◌&&◌, nat_le, nat_lt, if◌then◌else◌}
use Rattle.std.specs.List.{All, list_all}
use Rattle.std.proofs.lemmas.Bool.{and_parts, eqb-true, and_from, leb-true, ltb-true, le-leb, lt-ltb}
use Rattle.team_files.specs.declared.team.Team.{Team}
use Rattle.team_files.specs.declared.team_id.TeamId.{TeamId}
use Rattle.team_files.specs.Characters.{is_code, is_code_character}
use Rattle.team_files.specs.Codes.{codes_of, HasCodeAt}
use Rattle.team_files.specs.Teams.{find, HaveDistinctCodes}
use Rattle.team_files.proofs.CodeLaws.{stands, to_different, finds_by_code}
use Rattle.rule_sets.specs.Forms.{HasCode}
use Rattle.draw_tables.specs.declared.group_place.GroupPlace.{GroupPlace}
use Rattle.draw_tables.specs.Reading.{front_team, is_place, front_place}
use Rattle.draw_tables.specs.TableTexts.{code_in, code_of, place_text}
use Rattle.draw_tables.proofs.Lists.{same_item, item_at, map_at, all_at}
use Rattle.draw_tables.proofs.TextReading.{AreReadable}

-- ---- codes

three : (code : List ℕ) → is_code code ≡ true → length code ≡ 3
three code e = eqb-true (length code) 3 (and_parts (length code == 3) (list_all is_code_character code) e).0

front_of : (n : ℕ) (code rest : List ℕ) → length code ≡ n → (take n (code ++ rest) ≡ code) × (drop n (code ++ rest) ≡ rest)
front_of zero [] rest e = (refl, refl)
front_of zero (b ∷ code) rest e = absurd (omega arith)
front_of (suc n) [] rest e = absurd (omega arith)
front_of (suc n) (b ∷ code) rest e = let h = front_of n code rest (omega arith) in (ap (λ xs. b ∷ xs) h.0, h.1)

front_and_rest : (n : ℕ) (bytes : List ℕ) → take n bytes ++ drop n bytes ≡ bytes
front_and_rest zero bytes = refl
front_and_rest (suc n) [] = refl
front_and_rest (suc n) (b ∷ bytes) = ap (λ xs. b ∷ xs) (front_and_rest n bytes)

-- the code at a place of the teams' codes is that of the team there
code_there : (code : List ℕ) (ts : List Team) (k : ℕ) → HasCodeAt (codes_of ts) k code → (k < length ts) × (code_in (slice_get ts k) ≡ code)
code_there code [] k e = cc
code_there code (t ∷ ts) zero e = let same : t.code ≡ code = cc in (omega arith, same)
code_there code (t ∷ ts) (suc k) e = let rest = code_there code ts k e in (omega (arith, rest.0), rest.1)

-- a team of the list
abbrev pub IsWithin : List Team → TeamId → Type 0
IsWithin teams t = t.0 < length teams

code_gives : (teams : List Team) (bytes : List ℕ) (t : TeamId) → front_team teams bytes ≡ Some t → IsWithin teams t × (code_of teams t ++ drop 3 bytes ≡ bytes)
code_gives teams bytes t e = go (is_code (take 3 bytes)) e
  where
    go : (b : Bool) → (if b then find (take 3 bytes) teams else None) ≡ Some t → IsWithin teams t × (code_of teams t ++ drop 3 bytes ≡ bytes)
    go true h =
        let there = code_there (take 3 bytes) teams t.0 (stands (take 3 bytes) teams t h) in
        (there.0, ap (λ xs. xs ++ drop 3 bytes) there.1 ∙ front_and_rest 3 bytes)
    go false h = cc

-- codes of different teams are readable
pub codes_readable : (teams : List Team) → All HasCode teams → HaveDistinctCodes teams → AreReadable (front_team teams) 3 (code_of teams) (IsWithin teams)
codes_readable teams coded distinct = record { gives = code_gives teams; is_read = is_read }
  where
    is_read : (t : TeamId) (rest : List ℕ) → t.0 < length teams → (front_team teams (code_of teams t ++ rest) ≡ Some t) × (drop 3 (code_of teams t ++ rest) ≡ rest)
    is_read t rest lt =
        let team = item_at teams t.0 lt in
        let is : code_of teams t ≡ team.0.code = ap code_in team.1 in
        let form = all_at HasCode teams coded t.0 team.0 team.1 in
        let front = front_of 3 team.0.code rest (three team.0.code form) in
        let found = (finds_by_code.found teams team.0.code t (to_different teams distinct)).1 (map_at (λ u. u.code) teams t.0 team.0 team.1) in
        (rw (is, front.0, form) found, rw is front.1)

-- ---- places

-- a place within so many groups and positions
abbrev pub IsPlaceWithin : ℕ → ℕ → GroupPlace → Type 0
IsPlaceWithin groups positions place = (place.group < groups) × ((1 ≤ place.position) × (place.position ≤ positions))

-- a letter and a digit of a place
record AreOfPlace (groups positions letter digit : ℕ) : Type 0 where
  least : 65 ≤ letter
  most : letter < 65 + groups
  first : 48 < digit
  last : digit ≤ 48 + positions

of_place : (groups positions letter digit : ℕ) → is_place groups positions letter digit ≡ true → AreOfPlace groups positions letter digit
of_place groups positions letter digit e =
    let sides = and_parts (nat_le 65 letter && nat_lt letter (65 + groups)) (nat_lt 48 digit && nat_le digit (48 + positions)) e in
    let letters = and_parts (nat_le 65 letter) (nat_lt letter (65 + groups)) sides.0 in
    let digits = and_parts (nat_lt 48 digit) (nat_le digit (48 + positions)) sides.1 in
    record {
      least = leb-true 65 letter letters.0;
      most = ltb-true letter (65 + groups) letters.1;
      first = ltb-true 48 digit digits.0;
      last = leb-true digit (48 + positions) digits.1;
    }

is_of_place : (groups positions letter digit : ℕ) → AreOfPlace groups positions letter digit → is_place groups positions letter digit ≡ true
is_of_place groups positions letter digit h =
    and_from _ _ (and_from _ _ (le-leb 65 letter h.least) (lt-ltb letter (65 + groups) h.most)) (and_from _ _ (lt-ltb 48 digit h.first) (le-leb digit (48 + positions) h.last))

place_gives : (groups positions : ℕ) (bytes : List ℕ) (x : GroupPlace) → front_place groups positions bytes ≡ Some x → IsPlaceWithin groups positions x × (place_text x ++ drop 2 bytes ≡ bytes)
place_gives groups positions [] x e = cc
place_gives groups positions (a ∷ []) x e = cc
place_gives groups positions (a ∷ b ∷ rest) x e = go (is_place groups positions a b) refl e
  where
    go : (t : Bool) → is_place groups positions a b ≡ t → (if t then Some (record { group = a - 65; position = b - 48 }) else None) ≡ Some x
        → IsPlaceWithin groups positions x × (place_text x ++ drop 2 (a ∷ b ∷ rest) ≡ a ∷ b ∷ rest)
    go true is h =
        let of = of_place groups positions a b is in
        let low = of.least in
        let high = of.most in
        let first = of.first in
        let last = of.last in
        let same : record { group = a - 65; position = b - 48 } ≡ x = same_item (record { group = a - 65; position = b - 48 }) x h in
        let one : 65 + (a - 65) ≡ a = omega arith in
        let two : 48 + (b - 48) ≡ b = omega arith in
        rw (← same) ((omega arith, (omega arith, omega arith)), ap (λ c. c ∷ (48 + (b - 48)) ∷ rest) one ∙ ap (λ c. a ∷ c ∷ rest) two)
    go false is h = cc

-- places are readable
pub places_readable : (groups positions : ℕ) → AreReadable (front_place groups positions) 2 place_text (IsPlaceWithin groups positions)
places_readable groups positions = record { gives = place_gives groups positions; is_read = is_read }
  where
    is_read : (x : GroupPlace) (rest : List ℕ) → IsPlaceWithin groups positions x → (front_place groups positions (place_text x ++ rest) ≡ Some x) × (drop 2 (place_text x ++ rest) ≡ rest)
    is_read x rest h =
        let group = h.0 in
        let low = h.1.0 in
        let high = h.1.1 in
        let is = is_of_place groups positions (65 + x.group) (48 + x.position) (record { least = omega arith; most = omega arith; first = omega arith; last = omega arith }) in
        let one : 65 + x.group - 65 ≡ x.group = omega arith in
        let two : 48 + x.position - 48 ≡ x.position = omega arith in
        let same : record { group = 65 + x.group - 65; position = 48 + x.position - 48 } ≡ x = ap (λ g. record { group = g; position = 48 + x.position - 48 }) one ∙ ap (λ p. record { group = x.group; position = p }) two in
        (ap (λ b. if b then Some (record { group = 65 + x.group - 65; position = 48 + x.position - 48 }) else None) is ∙ ap Some same, refl)
