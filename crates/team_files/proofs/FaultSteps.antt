-- What each step of reading a head says of the value: its part of the head, or that the fault of its number holds.
use Rattle.std.proofs.Common.{◌≡◌, ℕ, suc, ◌+◌, Bool, true, false, not, cond, List, [], ◌∷◌, ◌++◌, length, length-append, map, refl, ap, ◌∙◌, Option, Some, None, Result, Ok, Err, arith}
use Rattle.std.specs.Prelude.{◌==◌, nat_lt, codes, if◌then◌else◌, position, count_by, is_none, unwrap_or, option_map, option_and_then}
use Rattle.std.specs.List.{list_all, position_or_len, fold}
use Rattle.std.specs.Option.{option_or}
use Rattle.std.specs.Result.{result_err}
use Rattle.std.proofs.lemmas.Bool.Decides.{nat_tests}
use Rattle.serde_json.specs.Data.{Data}
use Rattle.serde_json.specs.Find.{get}
use Rattle.team_files.specs.declared.fault.Field.{Field}
use Rattle.team_files.specs.declared.fault.FileFault.{FileFault}
use Rattle.team_files.specs.declared.fields.TeamFields.{TeamFields}
use Rattle.team_files.specs.declared.fields.HeadFields.{HeadFields}
use Rattle.team_files.specs.declared.kind.Kind.{Kind}
use Rattle.team_files.specs.declared.head_limit.HeadLimit.{HeadLimit}
use Rattle.team_files.specs.declared.head_pair.HeadPair.{HeadPair}
use Rattle.team_files.specs.declared.head_place.HeadPlace.{HeadPlace}
use Rattle.team_files.specs.declared.team.Team.{Team}
use Rattle.team_files.specs.Characters.{is_code}
use Rattle.team_files.specs.Answers.{after}
use Rattle.team_files.specs.Members.{is_object, list_of, text_in, list_in, tags_in, where_true}
use Rattle.team_files.specs.Heads.{or_wrong, name_in, pot_in, letter_in, team_fields, all_team_fields, groups_in, pots_in, objects_in, limit_fields, limits_in, pair_of_texts, pairs_of_texts, pairs_in, place_fields, places_in, read_behind, head_fields, name_of, teams_from, pot_size}
use Rattle.team_files.specs.Codes.{codes_of}
use Rattle.team_files.specs.Faults.{kind_at, groups_at, pots_at, team_values, limit_values_by, limit_values, pair_values, place_values_by, place_values, code_at, pot_at, tags_at, codes_in, team_pots, team_tags, wrong_if, wrong_in_team, wrong_in_teams, wrong_fault}
use Rattle.team_files.proofs.HeadLaws.{gave}

-- ---- the fields of a team

-- what reading one team says of its value
abbrev pub TeamTold : Result TeamFields FileFault → Option FileFault → Option (List ℕ) → Option ℕ → Option (List (List ℕ)) → Type 0
TeamTold (Ok f) wrong code pot tags = (wrong ≡ None) × (code ≡ Some f.code) × (pot ≡ Some f.pot) × (tags ≡ Some f.tags)
TeamTold (Err g) wrong code pot tags = wrong ≡ Some g

team_parts : (code : Option (List ℕ)) (name : Option (Option (List ℕ))) (pot : Option ℕ) (tags : Option (List (List ℕ))) (letter : Option (Option ℕ))
    → TeamTold (after (or_wrong code Field.Code) (λ c. after (or_wrong name Field.Name) (λ n. after (or_wrong pot Field.Pot) (λ p. after (or_wrong tags Field.Tags) (λ t. after (or_wrong letter Field.Group) (λ l.
    Ok (record { code = c; name = n; pot = p; tags = t; group_letter = l })))))))
    (option_or (wrong_if (is_none code) Field.Code) (option_or (wrong_if (is_none name) Field.Name) (option_or (wrong_if (is_none pot) Field.Pot) (option_or (wrong_if (is_none tags) Field.Tags) (wrong_if (is_none letter) Field.Group)))))
    code pot tags
team_parts None name pot tags letter = refl
team_parts (Some c) None pot tags letter = refl
team_parts (Some c) (Some n) None tags letter = refl
team_parts (Some c) (Some n) (Some p) None letter = refl
team_parts (Some c) (Some n) (Some p) (Some t) None = refl
team_parts (Some c) (Some n) (Some p) (Some t) (Some l) = (refl, refl, refl, refl)

team_told : (kind : Kind) (pots : ℕ) (d : Data) → TeamTold (team_fields kind pots d) (wrong_in_team kind pots d) (text_in (codes "code") d) (pot_in pots d) (tags_in (codes "tags") d)
team_told kind pots d = team_parts (text_in (codes "code") d) (name_in d) (pot_in pots d) (tags_in (codes "tags") d) (letter_in kind d)

-- what reading the teams says of their values
abbrev pub TeamsTold : ℕ → Result (List TeamFields) FileFault → Option FileFault → List Data → Type 0
TeamsTold pots (Ok fs) wrong ds =
    (wrong ≡ None) × (length fs ≡ length ds) × (map (λ f. f.code) fs ≡ map code_at ds) × (map (λ f. f.pot) fs ≡ map (pot_at pots) ds) × (map (λ f. f.tags) fs ≡ map tags_at ds)
TeamsTold pots (Err g) wrong ds = wrong ≡ Some g

one_more : (pots : ℕ) (r : Result TeamFields FileFault) (w : Option FileFault) (s : Result (List TeamFields) FileFault) (ws : Option FileFault) (d : Data) (ds : List Data)
    → TeamTold r w (text_in (codes "code") d) (pot_in pots d) (tags_in (codes "tags") d) → TeamsTold pots s ws ds
    → TeamsTold pots (after r (λ team. after s (λ teams. Ok (team ∷ teams)))) (option_or w ws) (d ∷ ds)
one_more pots (Err g) w s ws d ds h k = rw h refl
one_more pots (Ok f) w (Err g) ws d ds h k = rw h.0 k
one_more pots (Ok f) w (Ok fs) ws d ds h k = (
  rw h.0 k.0,
  ap (λ n. suc n) k.1,
  rw h.1 (ap (λ l. f.code ∷ l) k.2),
  rw h.2 (ap (λ l. f.pot ∷ l) k.3),
  rw h.3 (ap (λ l. f.tags ∷ l) k.4),
)

teams_told : (kind : Kind) (pots : ℕ) (ds : List Data) → TeamsTold pots (all_team_fields kind pots ds) (wrong_in_teams kind pots ds) ds
teams_told kind pots [] = (refl, refl, refl, refl, refl)
teams_told kind pots (d ∷ ds) =
    one_more pots (team_fields kind pots d) (wrong_in_team kind pots d) (all_team_fields kind pots ds) (wrong_in_teams kind pots ds) d ds (team_told kind pots d) (teams_told kind pots ds)

-- ---- the fields of the head

objects_are : (m : Option (List Data)) (os : List Data) → option_and_then (λ ds. where_true (list_all is_object ds) ds) m ≡ Some os → unwrap_or m [] ≡ os
objects_are None os e = cc
objects_are (Some ds) os e = go (list_all is_object ds) e
  where
    go : (b : Bool) → where_true b ds ≡ Some os → ds ≡ os
    go true h = cc
    go false h = cc

one_pair : (p : Option HeadPair) (r : Option (List HeadPair)) (ps : List HeadPair) (n : ℕ)
    → option_and_then (λ pair. option_map (λ pairs. pair ∷ pairs) r) p ≡ Some ps → ((qs : List HeadPair) → r ≡ Some qs → length qs ≡ n) → length ps ≡ suc n
one_pair None r ps n e rest = cc
one_pair (Some p) None ps n e rest = cc
one_pair (Some p) (Some qs) ps n e rest = let is : p ∷ qs ≡ ps = cc in rw (← is) (ap (λ k. suc k) (rest qs refl))

texts_length : (ds : List Data) (ps : List HeadPair) → pairs_of_texts ds ≡ Some ps → length ps ≡ length ds
texts_length [] ps e = let none : ps ≡ [] = cc in rw none refl
texts_length (d ∷ ds) ps e = one_pair (option_and_then pair_of_texts (list_of d)) (pairs_of_texts ds) ps (length ds) e (λ qs h. texts_length ds qs h)

pairs_length : (m : Option Data) (ps : List HeadPair)
    → (if is_none m then Some [] else option_and_then pairs_of_texts (option_and_then list_of m)) ≡ Some ps
    → length ps ≡ length (unwrap_or (option_and_then list_of m) [])
pairs_length None ps e = let none : ps ≡ [] = cc in rw none refl
pairs_length (Some v) ps e = go (list_of v) e
  where
    go : (l : Option (List Data)) → option_and_then pairs_of_texts l ≡ Some ps → length ps ≡ length (unwrap_or l [])
    go None h = cc
    go (Some ds) h = texts_length ds ps h

-- a list that was read has as many items all values
behind_length : {A : Type 0} (read : List A → Data → Result A FileFault) (earlier : List A) (ds : List Data) (all : List A)
    → read_behind read earlier ds ≡ Ok all → length all ≡ length earlier + length ds
behind_length read earlier [] all e = let same : earlier ≡ all = cc in rw (← same) (omega arith)
behind_length read earlier (d ∷ ds) all e =
    let one = gave (read earlier d) _ all e in
    let rest = behind_length read (earlier ++ one.0 ∷ []) ds all one.2 in
    let more : length (earlier ++ one.0 ∷ []) ≡ length earlier + 1 = length-append earlier (one.0 ∷ []) in
    omega (arith, rest, more)

list_length : {A : Type 0} (field : Field) (read : List A → Data → Result A FileFault) (m : Option Data) (all : List A)
    → (if is_none m then Ok [] else after (or_wrong (option_and_then (λ ds. where_true (list_all is_object ds) ds) (option_and_then list_of m)) field) (read_behind read [])) ≡ Ok all
    → length all ≡ length (unwrap_or (option_and_then list_of m) [])
list_length field read None all e = let none : all ≡ [] = cc in rw none refl
list_length field read (Some v) all e = go (list_of v) e
  where
    go : (l : Option (List Data)) → after (or_wrong (option_and_then (λ ds. where_true (list_all is_object ds) ds) l) field) (read_behind read []) ≡ Ok all → length all ≡ length (unwrap_or l [])
    go None h = cc
    go (Some ds) h = by (list_all is_object ds) h
      where
        by : (b : Bool) → after (or_wrong (where_true b ds) field) (read_behind read []) ≡ Ok all → length all ≡ length ds
        by true k =
            let same : length all ≡ 0 + length ds = behind_length read [] ds all k in
            let none : 0 + length ds ≡ length ds = omega arith in
            same ∙ none
        by false k = cc

limits_length : (kind : Kind) (d : Data) (ls : List HeadLimit) → limits_in kind d ≡ Ok ls → length ls ≡ length (limit_values_by kind d)
limits_length Kind.Group d ls e = list_length Field.Limits limit_fields (get (codes "limits") d) ls e
limits_length Kind.Pairing d ls e = let none : ls ≡ [] = cc in rw none refl

places_length : (kind : Kind) (d : Data) (qs : List HeadPlace) → places_in kind d ≡ Ok qs → length qs ≡ length (place_values_by kind d)
places_length Kind.Group d qs e = list_length Field.Places place_fields (get (codes "places") d) qs e
places_length Kind.Pairing d qs e = let none : qs ≡ [] = cc in rw none refl

-- What reading the members of a head says of its value.
pub record MembersTold (d : Data) (fields : HeadFields) : Type 0 where
  pub groups : fields.groups ≡ groups_at d
  pub pots : fields.pots ≡ pots_at d
  pub teams : length fields.teams ≡ length (team_values d)
  pub codes : map (λ f. f.code) fields.teams ≡ codes_in d
  pub team_pots : map (λ f. f.pot) fields.teams ≡ team_pots d
  pub team_tags : map (λ f. f.tags) fields.teams ≡ team_tags d
  pub limits : length fields.limits ≡ length (limit_values d)
  pub pairs : length fields.pairs ≡ length (pair_values d)
  pub places : length fields.places ≡ length (place_values d)

abbrev pub FieldsTold : Result HeadFields FileFault → Option FileFault → Data → Type 0
FieldsTold (Ok fields) wrong d = (wrong ≡ None) × MembersTold d fields
FieldsTold (Err g) wrong d = wrong ≡ Some g

-- the teams, and the members behind them
behind_teams : (d : Data) (os : List Data) (r : Result (List TeamFields) FileFault) (wrong : Option FileFault)
    (limits : Result (List HeadLimit) FileFault) (p : Option (List HeadPair)) (places : Result (List HeadPlace) FileFault)
    → team_values d ≡ os → TeamsTold (pots_at d) r wrong os → limits_in (kind_at d) d ≡ limits → pairs_in d ≡ p → places_in (kind_at d) d ≡ places
    → FieldsTold
    (after r (λ ts. after limits (λ ls. after (or_wrong p Field.Pairs) (λ ps. after places (λ qs.
    Ok (record { groups = groups_at d; pots = pots_at d; teams = ts; limits = ls; pairs = ps; places = qs }))))))
    (option_or wrong (option_or (result_err limits) (option_or (wrong_if (is_none p) Field.Pairs) (result_err places)))) d
behind_teams d os (Err g) wrong limits p places vals h l e q = rw h refl
behind_teams d os (Ok fs) wrong (Err g) p places vals h l e q = rw h.0 refl
behind_teams d os (Ok fs) wrong (Ok ls) None places vals h l e q = rw h.0 refl
behind_teams d os (Ok fs) wrong (Ok ls) (Some ps) (Err g) vals h l e q = rw h.0 refl
behind_teams d os (Ok fs) wrong (Ok ls) (Some ps) (Ok qs) vals h l e q = (
  rw h.0 refl,
  record {
    groups = refl;
    pots = refl;
    teams = rw vals h.1;
    codes = rw vals h.2;
    team_pots = rw vals h.3;
    team_tags = rw vals h.4;
    limits = limits_length (kind_at d) d ls l;
    pairs = pairs_length (get (codes "pairs") d) ps e;
    places = places_length (kind_at d) d qs q;
  },
)

-- the members of the head as its kind has them
fields_of_kind : (d : Data) (groups pots : Option ℕ) (objects : Option (List Data))
    → groups_in (kind_at d) d ≡ groups → pots_in (kind_at d) d ≡ pots → objects_in (codes "teams") d ≡ objects
    → FieldsTold
    (after (or_wrong groups Field.Groups) (λ gs. after (or_wrong pots Field.Pots) (λ n. after (or_wrong objects Field.Teams) (λ os. after (all_team_fields (kind_at d) n os) (λ ts.
    after (limits_in (kind_at d) d) (λ ls. after (or_wrong (pairs_in d) Field.Pairs) (λ ps. after (places_in (kind_at d) d) (λ qs.
    Ok (record { groups = gs; pots = n; teams = ts; limits = ls; pairs = ps; places = qs })))))))))
    (option_or (wrong_if (is_none groups) Field.Groups) (option_or (wrong_if (is_none pots) Field.Pots) (option_or (wrong_if (is_none objects) Field.Teams)
    (option_or (wrong_in_teams (kind_at d) (pots_at d) (team_values d)) (option_or (result_err (limits_in (kind_at d) d)) (option_or (wrong_if (is_none (pairs_in d)) Field.Pairs) (result_err (places_in (kind_at d) d)))))))) d
fields_of_kind d None pots objects g n e = refl
fields_of_kind d (Some gs) None objects g n e = refl
fields_of_kind d (Some gs) (Some pots) None g n e = refl
fields_of_kind d (Some gs) (Some pots) (Some os) g n e =
    let vals = objects_are (list_in (codes "teams") d) os e in
    let groups_are : groups_at d ≡ gs = ap (λ o. unwrap_or o 0) g in
    let pots_are : pots_at d ≡ pots = ap (λ o. unwrap_or o 0) n in
    rw (← groups_are) (rw (← pots_are) (rw vals (behind_teams d os (all_team_fields (kind_at d) (pots_at d) os) (wrong_in_teams (kind_at d) (pots_at d) os) (limits_in (kind_at d) d) (pairs_in d) (places_in (kind_at d) d) vals (teams_told (kind_at d) (pots_at d) os) refl refl refl)))

-- the members of a head are those of its value, or the first wrong one is told
pub fields_told : (d : Data) → FieldsTold (head_fields (kind_at d) d) (wrong_fault (kind_at d) d) d
fields_told d = fields_of_kind d (groups_in (kind_at d) d) (pots_in (kind_at d) d) (objects_in (codes "teams") d) refl refl refl

-- ---- the codes

-- the first place with no code, counted from i
abbrev bad_from : ℕ → List (List ℕ) → Option FileFault
bad_from i [] = None
bad_from i (c ∷ cs) = if is_code c then bad_from (i + 1) cs else Some (FileFault.BadCode i)

-- what reading the codes says of the members of the teams
abbrev pub CodesTold : Result (List Team) FileFault → Option FileFault → List TeamFields → Type 0
CodesTold (Ok ts) bad fs =
    (bad ≡ None) × (codes_of ts ≡ map (λ f. f.code) fs) × (map (λ t. t.pot) ts ≡ map (λ f. f.pot) fs) × (map (λ t. t.tags) ts ≡ map (λ f. f.tags) fs)
CodesTold (Err g) bad fs = bad ≡ Some g

one_code : (b : Bool) (i : ℕ) (f : TeamFields) (s : Result (List Team) FileFault) (bad : Option FileFault) (fs : List TeamFields) → CodesTold s bad fs
    → CodesTold
    (after (if b then Ok (record { code = f.code; name = name_of f.code f.name; pot = f.pot; tags = f.tags; group_letter = f.group_letter }) else Err (FileFault.BadCode i)) (λ team. after s (λ teams. Ok (team ∷ teams))))
    (if b then bad else Some (FileFault.BadCode i)) (f ∷ fs)
one_code false i f s bad fs h = refl
one_code true i f (Err g) bad fs h = h
one_code true i f (Ok ts) bad fs h = (h.0, ap (λ l. f.code ∷ l) h.1, ap (λ l. f.pot ∷ l) h.2, ap (λ l. f.tags ∷ l) h.3)

codes_from : (i : ℕ) (fs : List TeamFields) → CodesTold (teams_from i fs) (bad_from i (map (λ f. f.code) fs)) fs
codes_from i [] = (refl, refl, refl, refl)
codes_from i (f ∷ fs) = one_code (is_code f.code) i f (teams_from (i + 1) fs) (bad_from (i + 1) (map (λ x. x.code) fs)) fs (codes_from (i + 1) fs)

abbrev bad_place : Bool → ℕ → Option FileFault
bad_place there place = cond there (Some (FileFault.BadCode place)) None

abbrev first_bad : List (List ℕ) → ℕ
first_bad cs = position_or_len (λ c. not (is_code c)) cs

one_place : (b : Bool) (n l i : ℕ) (rest : Option FileFault) → rest ≡ bad_place (nat_lt n l) ((i + 1) + n)
    → (if b then rest else Some (FileFault.BadCode i)) ≡ bad_place (nat_lt (cond (not (not b)) (1 + n) 0) (suc l)) (i + cond (not (not b)) (1 + n) 0)
one_place false n l i rest h =
    let is : nat_lt 0 (suc l) ≡ true = grind (arith, nat_tests) in
    let same : i + 0 ≡ i = omega arith in
    rw is (rw same refl)
one_place true n l i rest h =
    let is : nat_lt (1 + n) (suc l) ≡ nat_lt n l = grind (arith, nat_tests) in
    let same : i + (1 + n) ≡ (i + 1) + n = omega arith in
    h ∙ rw is (rw same refl)

bad_is : (i : ℕ) (cs : List (List ℕ)) → bad_from i cs ≡ bad_place (nat_lt (first_bad cs) (length cs)) (i + first_bad cs)
bad_is i [] = refl
bad_is i (c ∷ cs) = one_place (is_code c) (first_bad cs) (length cs) i (bad_from (i + 1) cs) (bad_is (i + 1) cs)

bad_position : (cs : List (List ℕ)) → bad_from 0 cs ≡ option_map (λ place. FileFault.BadCode place) (position (λ c. not (is_code c)) cs)
bad_position cs = bad_is 0 cs ∙ go (nat_lt (first_bad cs) (length cs)) (first_bad cs)
  where
    go : (b : Bool) (n : ℕ) → bad_place b (0 + n) ≡ option_map (λ place. FileFault.BadCode place) (cond b (Some n) None)
    go true n = let same : 0 + n ≡ n = omega arith in rw same refl
    go false n = refl

-- the teams have the codes and pots of their members, or the first one without a code is told
pub codes_told : (fs : List TeamFields) → CodesTold (teams_from 0 fs) (option_map (λ place. FileFault.BadCode place) (position (λ c. not (is_code c)) (map (λ f. f.code) fs))) fs
codes_told fs = rw (← bad_position (map (λ f. f.code) fs)) (codes_from 0 fs)

-- ---- the sizes of the pots

counted_from : (pot a : ℕ) (ts : List Team)
    → fold (λ n t. n + cond (t.pot == pot) 1 0) a ts ≡ fold (λ n p. n + cond (p == pot) 1 0) a (map (λ t. t.pot) ts)
counted_from pot a [] = refl
counted_from pot a (t ∷ ts) = counted_from pot (a + cond (t.pot == pot) 1 0) ts

-- a pot's size counted over the teams is that over their pots
pub counted : (pot : ℕ) (ts : List Team) → pot_size pot ts ≡ count_by (λ p. p == pot) (map (λ t. t.pot) ts)
counted pot ts = counted_from pot 0 ts
