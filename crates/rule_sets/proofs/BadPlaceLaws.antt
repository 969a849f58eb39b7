-- The place that is refused is the first one that is not right.
use Rattle.std.proofs.Common.{◌≡◌, ℕ, zero, suc, ◌+◌, ◌<◌, ◌≤◌, ◌⊎◌, inl, inr, Bool, true, false, not, List, [], ◌∷◌, ◌++◌, map, length, length-append, append_assoc, append-nil, slice_get, refl, sym, ap, ◌∙◌, subst, Option, Some, None, Result, Ok, Err, arith}
use Rattle.std.specs.Prelude.{◌↔◌, ◌==◌, ◌&&◌, ◌||◌, nat_le, nat_lt, if◌then◌else◌, ok_or, option_map, option_and_then}
use Rattle.std.proofs.lemmas.Bool.{cases_order, cases_lt, and_parts, eqb-true, eqb-false, eq-eqb}
use Rattle.std.proofs.lemmas.Bool.Decides.{nat_tests}
use Rattle.std.proofs.lemmas.Option.{slice_get_within}
use Rattle.team_files.specs.declared.fault.FileFault.{FileFault}
use Rattle.team_files.specs.declared.head_place.HeadPlace.{HeadPlace}
use Rattle.team_files.specs.declared.team.Team.{Team}
use Rattle.team_files.specs.declared.team_id.TeamId.{TeamId}
use Rattle.team_files.specs.Characters.{is_code}
use Rattle.team_files.specs.Answers.{after}
use Rattle.team_files.specs.Members.{where_true}
use Rattle.team_files.specs.Codes.{codes_of, HasCodeAt}
use Rattle.team_files.specs.Heads.{Head}
use Rattle.team_files.proofs.CodeLaws.{finds_by_code}
use Rattle.rule_sets.specs.declared.place.Place.{Place}
use Rattle.rule_sets.specs.Files.{team_named, group_of_letter, pot_of, is_position_for, is_taken, can_take, place_of, places_behind}
use Rattle.rule_sets.specs.BadPlaces.{IsSamePlace, IsRightPlace, IsFirstWrongPlace, setting_of}
use Rattle.rule_sets.proofs.CodedTeams.{AreCoded, code_there, named_has}

-- ---- the team of a place, and its position

-- the pot of the team that has a code at a place
pot_there : (teams : List Team) (t : ℕ) (code : List ℕ) → HasCodeAt (codes_of teams) t code
    → slice_get (map (λ x. x.pot) teams) t ≡ Some (pot_of teams (record { 0 = t }))
pot_there [] t code at = cc
pot_there (x ∷ xs) zero code at = refl
pot_there (x ∷ xs) (suc t) code at = pot_there xs t code at

position_suits : (pot position : ℕ) → is_position_for pot position ≡ true → (pot ≡ 1) ↔ (position ≡ 1)
position_suits pot position e = go (pot == 1) (position == 1) refl refl e
  where
    go : (a b : Bool) → (pot == 1) ≡ a → (position == 1) ≡ b → (if a then b else not b) ≡ true → (pot ≡ 1) ↔ (position ≡ 1)
    go true true p q h = ((λ _. eqb-true position 1 q), λ _. eqb-true pot 1 p)
    go true false p q h = cc
    go false true p q h = cc
    go false false p q h = ((λ is. absurd (eqb-false pot 1 p is)), λ is. absurd (eqb-false position 1 q is))

suits_position : (pot position : ℕ) → (pot ≡ 1) ↔ (position ≡ 1) → is_position_for pot position ≡ true
suits_position pot position h = go (pot == 1) (position == 1) refl refl
  where
    go : (a b : Bool) → (pot == 1) ≡ a → (position == 1) ≡ b → (if a then b else not b) ≡ true
    go true true p q = refl
    go true false p q = absurd (eqb-false position 1 q (h.0 (eqb-true pot 1 p)))
    go false true p q = absurd (eqb-false pot 1 p (h.1 (eqb-true position 1 q)))
    go false false p q = refl

-- ---- what was looked up before

-- the place is that of the named one
pub record IsLookedUp (teams : List Team) (named : HeadPlace) (place : Place) : Type 0 where
  pub team : team_named teams named.code ≡ Some place.team
  pub group : place.group ≡ group_of_letter named.group
  pub position : place.position ≡ named.position

abbrev pub AreLookedUp : List Team → List HeadPlace → List Place → Type 0
AreLookedUp teams [] [] = Unit {0}
AreLookedUp teams [] (p ∷ ps) = ⊥
AreLookedUp teams (n ∷ ns) [] = ⊥
AreLookedUp teams (n ∷ ns) (p ∷ ps) = IsLookedUp teams n p × AreLookedUp teams ns ps

pub looked_size : (teams : List Team) (ns : List HeadPlace) (ps : List Place) → AreLookedUp teams ns ps → length ps ≡ length ns
looked_size teams [] [] h = refl
looked_size teams [] (p ∷ ps) h = absurd h
looked_size teams (n ∷ ns) [] h = absurd h
looked_size teams (n ∷ ns) (p ∷ ps) h = ap (λ k. suc k) (looked_size teams ns ps h.1)

looked_more : (teams : List Team) (ns : List HeadPlace) (ps : List Place) (n : HeadPlace) (p : Place)
    → AreLookedUp teams ns ps → IsLookedUp teams n p → AreLookedUp teams (ns ++ n ∷ []) (ps ++ p ∷ [])
looked_more teams [] [] n p h one = (one, tt)
looked_more teams [] (q ∷ ps) n p h one = absurd h
looked_more teams (m ∷ ns) [] n p h one = absurd h
looked_more teams (m ∷ ns) (q ∷ ps) n p h one = (h.0, looked_more teams ns ps n p h.1 one)

-- a place that was looked up has a named one
pub looked_at : (teams : List Team) (ns : List HeadPlace) (ps : List Place) (k : ℕ) (p : Place) → AreLookedUp teams ns ps → slice_get ps k ≡ Some p
    → (n : HeadPlace) × (slice_get ns k ≡ Some n) × IsLookedUp teams n p
looked_at teams [] [] k p h at = cc
looked_at teams [] (q ∷ ps) k p h at = absurd h
looked_at teams (n ∷ ns) [] k p h at = absurd h
looked_at teams (n ∷ ns) (q ∷ ps) zero p h at = let same : q ≡ p = cc in (n, refl, subst (IsLookedUp teams n) same h.0)
looked_at teams (n ∷ ns) (q ∷ ps) (suc k) p h at = looked_at teams ns ps k p h.1 at

-- the test that two places are one
abbrev is_same : Place → Place → Bool
is_same p place = (p.team.0 == place.team.0) || ((p.group == place.group) && (p.position == place.position))

-- the two named places are of one team or one place
abbrev AreSame : HeadPlace → HeadPlace → Type 0
AreSame one other = (one.code ≡ other.code) ⊎ IsSamePlace one other

module _ (teams : List Team) (named : HeadPlace) (place : Place) (is : IsLookedUp teams named place) where
  same_told : (n : HeadPlace) (p : Place) → IsLookedUp teams n p → is_same p place ≡ true → AreSame n named
  same_told n p h e = go (p.team.0 == place.team.0) (p.group == place.group) (p.position == place.position) refl refl refl e
    where
      go : (a b c : Bool) → (p.team.0 == place.team.0) ≡ a → (p.group == place.group) ≡ b → (p.position == place.position) ≡ c → (a || (b && c)) ≡ true → AreSame n named
      go true b c x y z f =
          let there = named_has teams n.code p.team h.team in
          let here = named_has teams named.code place.team is.team in
          let one : p.team.0 ≡ place.team.0 = eqb-true p.team.0 place.team.0 x in
          let there' : HasCodeAt (codes_of teams) place.team.0 n.code = subst (λ t. HasCodeAt (codes_of teams) t n.code) one there in
          let both : Some n.code ≡ Some named.code = sym there' ∙ here in
          let same : n.code ≡ named.code = cc in
          inl same
      go false true true x y z f = inr (record {
        group = sym h.group ∙ eqb-true p.group place.group y ∙ is.group;
        position = sym h.position ∙ eqb-true p.position place.position z ∙ is.position;
      })
      go false true false x y z f = cc
      go false false c x y z f = cc

  same_back : (n : HeadPlace) (p : Place) → IsLookedUp teams n p → AreSame n named → is_same p place ≡ true
  same_back n p h (inl code) =
      let both : Some p.team ≡ Some place.team = sym h.team ∙ ap (λ c. team_named teams c) code ∙ is.team in
      let one : p.team ≡ place.team = cc in
      rw (eq-eqb p.team.0 place.team.0 (ap (λ t. t.0) one)) refl
  same_back n p h (inr place_is) =
      let group : p.group ≡ place.group = h.group ∙ place_is.group ∙ sym is.group in
      let position : p.position ≡ place.position = h.position ∙ place_is.position ∙ sym is.position in
      go (p.team.0 == place.team.0) (eq-eqb p.group place.group group) (eq-eqb p.position place.position position)
    where
      go : (a : Bool) → (p.group == place.group) ≡ true → (p.position == place.position) ≡ true → (a || ((p.group == place.group) && (p.position == place.position))) ≡ true
      go true y z = refl
      go false y z = rw y (rw z refl)

  -- no earlier place is the same
  not_taken : (ns : List HeadPlace) (ps : List Place) → AreLookedUp teams ns ps → is_taken ps place ≡ false → (i : ℕ) (n : HeadPlace) → slice_get ns i ≡ Some n → ¬ AreSame n named
  not_taken [] ps h e i n at = cc
  not_taken (m ∷ ns) [] h e i n at = absurd h
  not_taken (m ∷ ns) (p ∷ ps) h e i n at = go (is_same p place) refl (λ f j here. not_taken ns ps h.1 f j n here) e i at
    where
      go : (b : Bool) → is_same p place ≡ b → (is_taken ps place ≡ false → (j : ℕ) → slice_get ns j ≡ Some n → ¬ AreSame n named) → (b || is_taken ps place) ≡ false → (i : ℕ) → slice_get (m ∷ ns) i ≡ Some n → ¬ AreSame n named
      go true x rest f i at = cc
      go false x rest f zero at = λ same. let one : m ≡ n = cc in let clash = sym (same_back m p h.0 (subst (λ y. AreSame y named) (sym one) same)) ∙ x in cc
      go false x rest f (suc i) at = rest f i at

  -- or some earlier place is
  taken : (ns : List HeadPlace) (ps : List Place) → AreLookedUp teams ns ps → is_taken ps place ≡ true → (i : ℕ) × (n : HeadPlace) × (slice_get ns i ≡ Some n) × AreSame n named
  taken [] [] h e = cc
  taken [] (p ∷ ps) h e = absurd h
  taken (m ∷ ns) [] h e = absurd h
  taken (m ∷ ns) (p ∷ ps) h e = go (is_same p place) refl (λ f. taken ns ps h.1 f) e
    where
      go : (b : Bool) → is_same p place ≡ b → (is_taken ps place ≡ true → (i : ℕ) × (n : HeadPlace) × (slice_get ns i ≡ Some n) × AreSame n named) → (b || is_taken ps place) ≡ true → (i : ℕ) × (n : HeadPlace) × (slice_get (m ∷ ns) i ≡ Some n) × AreSame n named
      go true x rest f = (zero, m, refl, same_told m p h.0 x)
      go false x rest f = let r = rest f in (suc r.0, r.1, r.2, r.3)

-- ---- one place

-- the items before a place are those of the front
front_at : {A : Type 0} (front rest : List A) (i : ℕ) → i < length front → slice_get (front ++ rest) i ≡ slice_get front i
front_at [] rest i lt = absurd (omega (arith, lt))
front_at (x ∷ front) rest zero lt = refl
front_at (x ∷ front) rest (suc i) lt = front_at front rest i (omega (arith, lt))

here_at : {A : Type 0} (front rest : List A) (x : A) → slice_get (front ++ x ∷ rest) (length front) ≡ Some x
here_at [] rest x = refl
here_at (y ∷ front) rest x = here_at front rest x

module _ (head : Head) (coded : AreCoded head.teams) (front : List HeadPlace) (earlier : List Place) (up : AreLookedUp head.teams front earlier) (named : HeadPlace) (rest : List HeadPlace) where
  abbrev whole : List HeadPlace
  whole = front ++ named ∷ rest

  abbrev the_place : TeamId → Place
  the_place team = record { team = team; group = group_of_letter named.group; position = named.position }

  -- the tests of a place whose team is known
  right : (team : TeamId) → team_named head.teams named.code ≡ Some team → can_take head earlier (the_place team) ≡ true → IsRightPlace (setting_of head) whole (length front) named
  right team is e =
      let within = and_parts (nat_lt (group_of_letter named.group) head.groups && nat_le named.position head.pots) _ e in
      let numbers = and_parts (nat_lt (group_of_letter named.group) head.groups) (nat_le named.position head.pots) within.0 in
      let tests = and_parts (is_position_for (pot_of head.teams team) named.position) (not (is_taken earlier (the_place team))) within.1 in
      let code = named_has head.teams named.code team is in
      let free : is_taken earlier (the_place team) ≡ false = negated (is_taken earlier (the_place team)) tests.1 in
      let apart : (i : ℕ) (n : HeadPlace) → slice_get front i ≡ Some n → ¬ AreSame n named = not_taken head.teams named (the_place team) (record { team = is; group = refl; position = refl }) front earlier up free in
      record {
        team = (team.0, pot_of head.teams team, code, pot_there head.teams team.0 named.code code, position_suits (pot_of head.teams team) named.position tests.0);
        group = lt_of (group_of_letter named.group) head.groups numbers.0;
        position = le_of named.position head.pots numbers.1;
        new_team = λ i n lt at same. apart i n (sym (front_at front (named ∷ rest) i lt) ∙ at) (inl same);
        new_place = λ i n lt at same. apart i n (sym (front_at front (named ∷ rest) i lt) ∙ at) (inr same);
      }
    where
      negated : (b : Bool) → not b ≡ true → b ≡ false
      negated true h = cc
      negated false h = refl

      lt_of : (a b : ℕ) → nat_lt a b ≡ true → a < b
      lt_of a b h = grind (arith, nat_tests)

      le_of : (a b : ℕ) → nat_le a b ≡ true → a ≤ b
      le_of a b h = grind (arith, nat_tests)

  -- a right place passes the tests
  passes : (team : TeamId) → team_named head.teams named.code ≡ Some team → IsRightPlace (setting_of head) whole (length front) named → can_take head earlier (the_place team) ≡ true
  passes team is r =
      let code = named_has head.teams named.code team is in
      let one : r.team.0 ≡ team.0 = coded.1 r.team.0 team.0 named.code r.team.2 code in
      let pots : Some r.team.1 ≡ Some (pot_of head.teams team) = sym r.team.3 ∙ ap (λ t. slice_get (map (λ x. x.pot) head.teams) t) one ∙ pot_there head.teams team.0 named.code code in
      let pot : r.team.1 ≡ pot_of head.teams team = cc in
      let suits = suits_position (pot_of head.teams team) named.position (subst (λ p. (p ≡ 1) ↔ (named.position ≡ 1)) pot r.team.4) in
      let free : is_taken earlier (the_place team) ≡ false = go (is_taken earlier (the_place team)) refl in
      rw (lt_to (group_of_letter named.group) head.groups r.group) (rw (le_to named.position head.pots r.position) (rw suits (rw free refl)))
    where
      lt_to : (a b : ℕ) → a < b → nat_lt a b ≡ true
      lt_to a b h = grind (arith, nat_tests)

      le_to : (a b : ℕ) → a ≤ b → nat_le a b ≡ true
      le_to a b h = grind (arith, nat_tests)

      fits : (i : ℕ) (n : HeadPlace) → slice_get front i ≡ Some n → ¬ AreSame n named
      fits i n at (inl code) = r.new_team i n (slice_get_within front i n at) (front_at front (named ∷ rest) i (slice_get_within front i n at) ∙ at) code
      fits i n at (inr place) = r.new_place i n (slice_get_within front i n at) (front_at front (named ∷ rest) i (slice_get_within front i n at) ∙ at) place

      go : (b : Bool) → is_taken earlier (the_place team) ≡ b → is_taken earlier (the_place team) ≡ false
      go false e = e
      go true e =
          let t = taken head.teams named (the_place team) (record { team = is; group = refl; position = refl }) front earlier up e in
          absurd (fits t.0 t.1 t.2 t.3)

  -- a right place has a team
  has_team : IsRightPlace (setting_of head) whole (length front) named → (team : TeamId) × (team_named head.teams named.code ≡ Some team)
  has_team r =
      let code : is_code named.code ≡ true = code_there head.teams r.team.0 named.code coded.0 r.team.2 in
      let found = (finds_by_code.found head.teams named.code (record { 0 = r.team.0 }) coded.1).1 r.team.2 in
      (record { 0 = r.team.0 }, rw code found)

  -- What looking up one place says.
  abbrev OneTold : Option Place → Type 0
  OneTold (Some p) = IsLookedUp head.teams named p × IsRightPlace (setting_of head) whole (length front) named
  OneTold None = ¬ IsRightPlace (setting_of head) whole (length front) named

  one_told : OneTold (place_of head earlier named)
  one_told = go (team_named head.teams named.code) refl
    where
      tested : (team : TeamId) (b : Bool) → team_named head.teams named.code ≡ Some team → can_take head earlier (the_place team) ≡ b → OneTold (where_true b (the_place team))
      tested team true is e = (record { team = is; group = refl; position = refl }, right team is e)
      tested team false is e = λ r. let clash = sym (passes team is r) ∙ e in cc

      go : (o : Option TeamId) → team_named head.teams named.code ≡ o
          → OneTold (option_and_then (λ place. where_true (can_take head earlier place) place) (option_map the_place o))
      go None is = λ r. let t = has_team r in let clash = sym t.1 ∙ is in cc
      go (Some team) is = tested team (can_take head earlier (the_place team)) is refl

-- ---- all places

module _ (head : Head) (coded : AreCoded head.teams) where
  -- each place of the front is right in the whole list
  abbrev pub AreRight : List HeadPlace → ℕ → Type 0
  AreRight places n = (k : ℕ) (named : HeadPlace) → k < n → slice_get places k ≡ Some named → IsRightPlace (setting_of head) places k named

  one_more : (places : List HeadPlace) (n : ℕ) (named : HeadPlace) → slice_get places n ≡ Some named → AreRight places n → IsRightPlace (setting_of head) places n named → AreRight places (n + 1)
  one_more places n named here all one = λ k other lt at. go k other lt at (cases_lt k n)
    where
      go : (k : ℕ) (other : HeadPlace) → k < n + 1 → slice_get places k ≡ Some other → (k < n) ⊎ (n ≤ k) → IsRightPlace (setting_of head) places k other
      go k other lt at (inl less) = all k other less at
      go k other lt at (inr more) =
          let same : k ≡ n = omega (arith, lt, more) in
          let both : Some named ≡ Some other = sym here ∙ ap (λ i. slice_get places i) (sym same) ∙ at in
          let is : named ≡ other = cc in
          subst (λ i. IsRightPlace (setting_of head) places i other) (sym same) (subst (λ x. IsRightPlace (setting_of head) places n x) is one)

  -- What looking up all places says.
  abbrev pub AllTold : List HeadPlace → Result (List Place) FileFault → Type 0
  AllTold places (Ok ps) = AreRight places (length places) × AreLookedUp head.teams places ps
  AllTold places (Err fault) = (place : ℕ) × (fault ≡ FileFault.BadPlace place) × IsFirstWrongPlace (setting_of head) places place

  all_told : (front : List HeadPlace) (earlier : List Place) (rest : List HeadPlace) → AreLookedUp head.teams front earlier → AreRight (front ++ rest) (length front)
      → AllTold (front ++ rest) (places_behind head earlier rest)
  all_told front earlier [] up right =
      let same : front ++ [] ≡ front = append-nil front in
      (subst (λ (l : List HeadPlace). AreRight (front ++ []) (length l)) (sym same) right, subst (λ l. AreLookedUp head.teams l earlier) (sym same) up)
  all_told front earlier (named ∷ rest) up right =
      go (place_of head earlier named) (one_told head coded front earlier up named rest) (λ p looked all. all_told (front ++ named ∷ []) (earlier ++ p ∷ []) rest looked all)
    where
      here : slice_get (front ++ named ∷ rest) (length front) ≡ Some named
      here = here_at front rest named

      size : length earlier ≡ length front
      size = looked_size head.teams front earlier up

      shifted : (front ++ named ∷ []) ++ rest ≡ front ++ named ∷ rest
      shifted = append_assoc front (named ∷ []) rest

      longer : length (front ++ named ∷ []) ≡ length front + 1
      longer = length-append front (named ∷ [])

      go : (o : Option Place) → OneTold head coded front earlier up named rest o
          → ((p : Place) → AreLookedUp head.teams (front ++ named ∷ []) (earlier ++ p ∷ []) → AreRight ((front ++ named ∷ []) ++ rest) (length (front ++ named ∷ []))
          → AllTold ((front ++ named ∷ []) ++ rest) (places_behind head (earlier ++ p ∷ []) rest))
          → AllTold (front ++ named ∷ rest) (after (ok_or o (FileFault.BadPlace (length earlier))) (λ place. places_behind head (earlier ++ place ∷ []) rest))
      go None wrong later = (length front, ap (λ n. FileFault.BadPlace n) size, record { wrong = (named, here, wrong); first = right })
      go (Some p) told later =
          let more = one_more (front ++ named ∷ rest) (length front) named here right told.1 in
          let more' : AreRight ((front ++ named ∷ []) ++ rest) (length (front ++ named ∷ [])) =
          subst (λ l. AreRight l (length (front ++ named ∷ []))) (sym shifted) (subst (λ n. AreRight (front ++ named ∷ rest) n) (sym longer) more) in
          subst (λ l. AllTold l (places_behind head (earlier ++ p ∷ []) rest)) shifted (later p (looked_more head.teams front earlier named p up told.0) more')

  one_first : (places : List HeadPlace) (i j : ℕ) → IsFirstWrongPlace (setting_of head) places i → IsFirstWrongPlace (setting_of head) places j → i ≡ j
  one_first places i j a b = go (cases_order i j)
    where
      go : (i ≡ j) ⊎ ((i < j) ⊎ (j < i)) → i ≡ j
      go (inl same) = same
      go (inr (inl less)) = absurd (a.wrong.2 (b.first i a.wrong.0 less a.wrong.1))
      go (inr (inr more)) = absurd (b.wrong.2 (a.first j b.wrong.0 more b.wrong.1))

  pub places_told : (r : Result (List Place) FileFault) → places_behind head [] head.places ≡ r → AllTold head.places r
  places_told r e = subst (AllTold head.places) e (all_told [] [] head.places tt (λ k named lt at. absurd (omega (arith, lt))))

  -- looking up the places refuses exactly the first wrong one
  pub first_bad_place : (fault : FileFault) → (places_behind head [] head.places ≡ Err fault) ↔ ((place : ℕ) × (fault ≡ FileFault.BadPlace place) × IsFirstWrongPlace (setting_of head) head.places place)
  first_bad_place fault = ((λ e. places_told (Err fault) e), λ h. back h (places_behind head [] head.places) refl)
    where
      back : ((place : ℕ) × (fault ≡ FileFault.BadPlace place) × IsFirstWrongPlace (setting_of head) head.places place)
          → (r : Result (List Place) FileFault) → places_behind head [] head.places ≡ r → places_behind head [] head.places ≡ Err fault
      back h (Ok ps) e =
          let all = (places_told (Ok ps) e).0 in
          absurd (h.2.wrong.2 (all h.0 h.2.wrong.0 (slice_get_within head.places h.0 h.2.wrong.0 h.2.wrong.1) h.2.wrong.1))
      back h (Err f) e =
          let t = places_told (Err f) e in
          let place : t.0 ≡ h.0 = one_first head.places t.0 h.0 t.2 h.2 in
          e ∙ ap (λ x. Err x) (t.1 ∙ ap (λ n. FileFault.BadPlace n) place ∙ sym h.1)
