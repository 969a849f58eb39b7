-- What bytes are refused for is their first fault.
use Rattle.std.proofs.Common.{◌≡◌, ℕ, ◌<◌, ◌≤◌, ◌⊎◌, inl, inr, Bool, true, false, List, map, refl, sym, ap, subst, ◌∙◌, Option, Some, None, Result, Ok, Err, arith}
use Rattle.std.specs.Prelude.{◌↔◌, option_and_then}
use Rattle.std.specs.List.{All}
use Rattle.std.specs.Str.{is_utf8}
use Rattle.std.proofs.lemmas.Str.{IsUtf8-from_is_utf8, is_utf8-from_IsUtf8}
use Rattle.serde_json.specs.Data.{Data}
use Rattle.serde_json.specs.Read.{read}
use Rattle.team_files.specs.declared.kind.Kind.{Kind}
use Rattle.team_files.specs.declared.fault.FileFault.{FileFault}
use Rattle.team_files.specs.declared.fault.Field.{Field}
use Rattle.team_files.specs.declared.fields.TeamFields.{TeamFields}
use Rattle.team_files.specs.declared.fields.HeadFields.{HeadFields}
use Rattle.team_files.specs.declared.team.Team.{Team}
use Rattle.team_files.specs.declared.team_id.TeamId.{TeamId}
use Rattle.team_files.specs.declared.head_pair.HeadPair.{HeadPair}
use Rattle.team_files.specs.Characters.{is_code}
use Rattle.team_files.specs.Answers.{after, unless}
use Rattle.team_files.specs.Members.{where_true}
use Rattle.team_files.specs.Teams.{find}
use Rattle.team_files.specs.Codes.{codes_of}
use Rattle.team_files.specs.Heads.{IsJson, IsNotJson, Head, limits_in, pairs_in, places_in, head_fields, teams_from, head_of}
use Rattle.team_files.specs.Faults.{codes_in, team_pots, team_tags, kind_at, Holds, order_of, IsFirstFault}
use Rattle.team_files.proofs.CodeLaws.{finds_by_code}
use Rattle.team_files.proofs.FaultSteps.{MembersTold, FieldsTold, fields_told, CodesTold, codes_told}
use Rattle.team_files.proofs.FaultTable.{kind_read, tells_first_fault}
use Rattle.team_files.proofs.HeadLaws.{parts, field_parts}
use Rattle.rule_sets.specs.declared.limit.Limit.{Limit}
use Rattle.rule_sets.specs.declared.pair.Pair.{Pair}
use Rattle.rule_sets.specs.declared.place.Place.{Place}
use Rattle.rule_sets.specs.Files.{DrawFile, unknown_tag_from, limit_of, team_named, pairs_from, limits_of, places_of, file_with, file_of, IsFileOf, IsFileFault}
use Rattle.rule_sets.specs.Forms.{HasCode}
use Rattle.rule_sets.specs.BadPairs.{NamesNoPair, IsFirstBadPair}
use Rattle.rule_sets.specs.UnknownTags.{IsFirstUnknown, tags_of}
use Rattle.rule_sets.specs.BadPlaces.{Setting, IsFirstWrongPlace, setting_of, TellsFirstBadPlace}
use Rattle.rule_sets.specs.FileFaults.{HasUnknownTag, HasBadPlace, setting_in, IsNoCode, NamesNoTwoCodes, IsFirstWrongPair, HasBadPair, HoldsOfValue, HoldsOfBytes, IsFirstFaultOfBytes, TellsFirstFaultOfBytes}
use Rattle.rule_sets.proofs.CodedTeams.{AreCoded, are_coded, code_there, named_has}
use Rattle.rule_sets.proofs.FileForms.{file_parts}
use Rattle.rule_sets.proofs.UnknownTagLaws.{tells_first_unknown_tag}
use Rattle.rule_sets.proofs.BadPlaceLaws.{first_bad_place}
use Rattle.rule_sets.proofs.PairLaws.{tells_first_bad_pair}

-- ---- a head has what its value says

-- What a head has of its value.
record HeadTold (d : Data) (head : Head) : Type 0 where
  kind : kind_at d ≡ head.kind
  setting : setting_of head ≡ setting_in d
  tags : tags_of head.teams ≡ team_tags d
  limits : limits_in head.kind d ≡ Ok head.limits
  pairs : pairs_in d ≡ Some head.pairs
  places : places_in head.kind d ≡ Ok head.places

members_of_fields : (d : Data) (r : Result HeadFields FileFault) (wrong : Option FileFault) (fields : HeadFields) → FieldsTold r wrong d → r ≡ Ok fields → MembersTold d fields
members_of_fields d (Ok x) wrong fields told e = let same : x ≡ fields = cc in subst (MembersTold d) same told.1
members_of_fields d (Err g) wrong fields told e = cc

teams_of_fields : (r : Result (List Team) FileFault) (bad : Option FileFault) (fs : List TeamFields) (ts : List Team) → CodesTold r bad fs → r ≡ Ok ts → CodesTold (Ok ts) bad fs
teams_of_fields (Ok x) bad fs ts told e = let same : x ≡ ts = cc in subst (λ (y : List Team). CodesTold (Ok y) bad fs) same told
teams_of_fields (Err g) bad fs ts told e = cc

head_told : (d : Data) (head : Head) → head_of d ≡ Ok head → HeadTold d head
head_told d head e =
    let p = parts d head e in
    let kind = kind_read d p.0 p.3.kind_is in
    let read : head_fields (kind_at d) d ≡ Ok p.1 = subst (λ k. head_fields k d ≡ Ok p.1) (sym kind) p.3.fields_are in
    let members = members_of_fields d (head_fields (kind_at d) d) _ p.1 (fields_told d) read in
    let teams = teams_of_fields (teams_from 0 p.1.teams) _ p.1.teams p.2 (codes_told p.1.teams) p.3.teams_are in
    let fields = (field_parts p.0 d p.1 p.3.fields_are).1 in
    let codes_are : codes_of p.2 ≡ codes_in d = teams.1 ∙ members.codes in
    let pots_are : map (λ t. t.pot) p.2 ≡ team_pots d = teams.2 ∙ members.team_pots in
    subst
    (HeadTold d)
    p.3.whole
    (record {
      kind = kind;
      setting = rw codes_are (rw pots_are (rw members.groups (rw members.pots refl)));
      tags = teams.3 ∙ members.team_tags;
      limits = fields.limits_are;
      pairs = fields.pairs_are;
      places = fields.places_are;
    })

-- ---- a pair names two teams exactly where it names two codes

-- a text names no team exactly where it is the code of none
none_named : (teams : List Team) (text : List ℕ) → All HasCode teams → (team_named teams text ≡ None) ↔ IsNoCode (codes_of teams) text
none_named teams text all = go (is_code text) refl
  where
    go : (b : Bool) → is_code text ≡ b → (option_and_then (λ code. find code teams) (where_true b text) ≡ None) ↔ IsNoCode (codes_of teams) text
    go true is = finds_by_code.missing teams text
    go false is = ((λ _ place at. let code = code_there teams place text all at in let clash = sym code ∙ is in cc), λ _. refl)

one_team : (teams : List Team) (a b : List ℕ) → AreCoded teams → team_named teams a ≡ team_named teams b → IsNoCode (codes_of teams) a ⊎ (a ≡ b)
one_team teams a b coded e = go (team_named teams a) refl
  where
    go : (o : Option TeamId) → team_named teams a ≡ o → IsNoCode (codes_of teams) a ⊎ (a ≡ b)
    go None is = inl ((none_named teams a coded.0).0 is)
    go (Some id) is =
        let one = named_has teams a id is in
        let two = named_has teams b id (sym e ∙ is) in
        let both : Some a ≡ Some b = sym one ∙ two in
        let same : a ≡ b = cc in
        inr same

to_codes : (teams : List Team) (pair : HeadPair) → AreCoded teams → NamesNoPair teams pair → NamesNoTwoCodes (codes_of teams) pair
to_codes teams pair coded (inl none) = inl ((none_named teams pair.first coded.0).0 none)
to_codes teams pair coded (inr (inl none)) = inr (inl ((none_named teams pair.second coded.0).0 none))
to_codes teams pair coded (inr (inr one)) = by (one_team teams pair.first pair.second coded one)
  where
    by : IsNoCode (codes_of teams) pair.first ⊎ (pair.first ≡ pair.second) → NamesNoTwoCodes (codes_of teams) pair
    by (inl none) = inl none
    by (inr same) = inr (inr same)

from_codes : (teams : List Team) (pair : HeadPair) → All HasCode teams → NamesNoTwoCodes (codes_of teams) pair → NamesNoPair teams pair
from_codes teams pair all (inl none) = inl ((none_named teams pair.first all).1 none)
from_codes teams pair all (inr (inl none)) = inr (inl ((none_named teams pair.second all).1 none))
from_codes teams pair all (inr (inr same)) = inr (inr (ap (λ text. team_named teams text) same))

wrong_of_bad : (teams : List Team) (pairs : List HeadPair) (place : ℕ) → AreCoded teams → IsFirstBadPair teams pairs place → IsFirstWrongPair (codes_of teams) pairs place
wrong_of_bad teams pairs place coded h = record {
  wrong = (h.bad.0, h.bad.1, to_codes teams h.bad.0 coded h.bad.2);
  first = λ k other lt at wrong. h.first k other lt at (from_codes teams other coded.0 wrong);
}

bad_of_wrong : (teams : List Team) (pairs : List HeadPair) (place : ℕ) → AreCoded teams → IsFirstWrongPair (codes_of teams) pairs place → IsFirstBadPair teams pairs place
bad_of_wrong teams pairs place coded h = record {
  bad = (h.wrong.0, h.wrong.1, from_codes teams h.wrong.0 coded.0 h.wrong.2);
  first = λ k other lt at bad. h.first k other lt at (to_codes teams other coded bad);
}

-- ---- what is looked up in a head is what holds of its value

codes_are : (d : Data) (head : Head) → head_of d ≡ Ok head → codes_of head.teams ≡ codes_in d
codes_are d head e = ap (λ (s : Setting). s.codes) (head_told d head e).setting

module _ (d : Data) (head : Head) (e : head_of d ≡ Ok head) where
  has : HeadTold d head
  has = head_told d head e

  -- ---- tags

  abbrev TagTold : FileFault → Type 0
  TagTold fault = (place : ℕ) × (fault ≡ FileFault.UnknownTag place) × HasUnknownTag d place

  tag_told : (fault : FileFault) → (limits_of head.kind head ≡ Err fault) ↔ TagTold fault
  tag_told fault = go head.kind refl
    where
      inner : (o : Option FileFault) → unless o (Ok (map limit_of head.limits)) ≡ Err fault → o ≡ Some fault
      inner None f = cc
      inner (Some g) f = cc

      go : (kind : Kind) → head.kind ≡ kind → (limits_of kind head ≡ Err fault) ↔ TagTold fault
      go Kind.Pairing is = ((λ f. cc), λ t. let clash = sym is ∙ sym has.kind ∙ t.2.0 in cc)
      go Kind.Group is = (there, back)
        where
          named : kind_at d ≡ Kind.Group
          named = has.kind ∙ is

          read : limits_in Kind.Group d ≡ Ok head.limits
          read = subst (λ k. limits_in k d ≡ Ok head.limits) is has.limits

          there : limits_of Kind.Group head ≡ Err fault → TagTold fault
          there f =
              let t = (tells_first_unknown_tag head.limits head.teams fault).0 (inner (unknown_tag_from head.limits 0 head.teams) f) in
              (t.0, t.1, (named, (head.limits, read, subst (λ ls. IsFirstUnknown head.limits ls t.0) has.tags t.2)))

          back : TagTold fault → limits_of Kind.Group head ≡ Err fault
          back t =
              let both : Ok t.2.1.0 ≡ Ok head.limits = sym t.2.1.1 ∙ read in
              let same : t.2.1.0 ≡ head.limits = cc in
              let holds = subst (λ ls. IsFirstUnknown ls (tags_of head.teams) t.0) same (subst (λ ts. IsFirstUnknown t.2.1.0 ts t.0) (sym has.tags) t.2.1.2) in
              rw ((tells_first_unknown_tag head.limits head.teams fault).1 (t.0, t.1, holds)) refl

  -- ---- pairs

  abbrev PairTold : FileFault → Type 0
  PairTold fault = (place : ℕ) × (fault ≡ FileFault.BadPair place) × HasBadPair d place

  pair_told : (fault : FileFault) → (pairs_from head.teams 0 head.pairs ≡ Err fault) ↔ PairTold fault
  pair_told fault = (there, back)
    where
      there : pairs_from head.teams 0 head.pairs ≡ Err fault → PairTold fault
      there f =
          let t = (tells_first_bad_pair head.teams head.pairs fault).0 f in
          let wrong = wrong_of_bad head.teams head.pairs t.0 (are_coded d head e) t.2 in
          (t.0, t.1, (head.pairs, has.pairs, subst (λ cs. IsFirstWrongPair cs head.pairs t.0) (codes_are d head e) wrong))

      back : PairTold fault → pairs_from head.teams 0 head.pairs ≡ Err fault
      back t =
          let both : Some t.2.0 ≡ Some head.pairs = sym t.2.1 ∙ has.pairs in
          let same : t.2.0 ≡ head.pairs = cc in
          let wrong = subst (λ ps. IsFirstWrongPair (codes_in d) ps t.0) same t.2.2 in
          let bad = bad_of_wrong head.teams head.pairs t.0 (are_coded d head e) (subst (λ cs. IsFirstWrongPair cs head.pairs t.0) (sym (codes_are d head e)) wrong) in
          (tells_first_bad_pair head.teams head.pairs fault).1 (t.0, t.1, bad)

  -- ---- places

  abbrev PlaceTold : FileFault → Type 0
  PlaceTold fault = (place : ℕ) × (fault ≡ FileFault.BadPlace place) × HasBadPlace d place

  place_told : (fault : FileFault) → (places_of head.kind head ≡ Err fault) ↔ PlaceTold fault
  place_told fault = go head.kind refl
    where
      go : (kind : Kind) → head.kind ≡ kind → (places_of kind head ≡ Err fault) ↔ PlaceTold fault
      go Kind.Pairing is = ((λ f. cc), λ t. let clash = sym is ∙ sym has.kind ∙ t.2.0 in cc)
      go Kind.Group is = (there, back)
        where
          named : kind_at d ≡ Kind.Group
          named = has.kind ∙ is

          read : places_in Kind.Group d ≡ Ok head.places
          read = subst (λ k. places_in k d ≡ Ok head.places) is has.places

          there : places_of Kind.Group head ≡ Err fault → PlaceTold fault
          there f =
              let t = (first_bad_place head (are_coded d head e) fault).0 f in
              (t.0, t.1, (named, (head.places, read, subst (λ s. IsFirstWrongPlace s head.places t.0) has.setting t.2)))

          back : PlaceTold fault → places_of Kind.Group head ≡ Err fault
          back t =
              let both : Ok t.2.1.0 ≡ Ok head.places = sym t.2.1.1 ∙ read in
              let same : t.2.1.0 ≡ head.places = cc in
              let wrong = subst (λ ps. IsFirstWrongPlace (setting_in d) ps t.0) same t.2.1.2 in
              (first_bad_place head (are_coded d head e) fault).1 (t.0, t.1, subst (λ s. IsFirstWrongPlace s head.places t.0) (sym has.setting) wrong)

-- looking up the places refuses exactly the first wrong one
pub tells_first_bad_place : TellsFirstBadPlace
tells_first_bad_place head fault read = first_bad_place head (are_coded read.0 head read.1) fault

-- ---- the first fault of a value

abbrev IsFirstOfValue : Data → FileFault → Type 0
IsFirstOfValue d fault = HoldsOfValue d fault × ((other : FileFault) → HoldsOfValue d other → order_of fault ≤ order_of other)

-- what a value is refused for
abbrev IsRefusedFor : Data → FileFault → Type 0
IsRefusedFor d fault = (head_of d ≡ Err fault) ⊎ ((head : Head) × (head_of d ≡ Ok head) × (file_of head ≡ Err fault))

-- a fault of the head is told before what is looked up
before_looked_up : (d : Data) (fault : FileFault) → Holds d fault → order_of fault < 10
before_looked_up d FileFault.NotJson h = absurd h
before_looked_up d FileFault.NotObject h = omega arith
before_looked_up d (FileFault.KindUnknown text) h = omega arith
before_looked_up d (FileFault.FieldMissing Field.Kind) h = omega arith
before_looked_up d (FileFault.FieldMissing member) h = omega arith
before_looked_up d (FileFault.FieldWrong Field.Kind) h = omega arith
before_looked_up d (FileFault.FieldWrong member) h = omega arith
before_looked_up d (FileFault.TooMany what number) h = omega arith
before_looked_up d (FileFault.BadCode place) h = omega arith
before_looked_up d (FileFault.SameCode code) h = omega arith
before_looked_up d (FileFault.PotSize pot number) h = omega arith
before_looked_up d (FileFault.UnknownTag place) h = absurd h
before_looked_up d (FileFault.BadPair place) h = absurd h
before_looked_up d (FileFault.BadPlace place) h = absurd h
before_looked_up d FileFault.NoMemory h = absurd h
before_looked_up d FileFault.KindNotBuilt h = omega arith

of_value : (d : Data) (fault : FileFault) → Holds d fault → HoldsOfValue d fault
of_value d (FileFault.UnknownTag place) h = absurd h
of_value d (FileFault.BadPair place) h = absurd h
of_value d (FileFault.BadPlace place) h = absurd h
of_value d fault h = h

first_of_head : (d : Data) (fault : FileFault) → head_of d ≡ Err fault → IsFirstOfValue d fault
first_of_head d fault e = (of_value d fault t.holds, by)
  where
    t : IsFirstFault d fault
    t = (tells_first_fault.fault d fault).0 e

    by : (other : FileFault) → HoldsOfValue d other → order_of fault ≤ order_of other
    by (FileFault.UnknownTag place) h = let lt = before_looked_up d fault t.holds in omega (arith, lt)
    by (FileFault.BadPair place) h = let lt = before_looked_up d fault t.holds in omega (arith, lt)
    by (FileFault.BadPlace place) h = let lt = before_looked_up d fault t.holds in omega (arith, lt)
    by other h = t.first other h

-- what holds of the value of a head, by the steps that found no fault
module _ (d : Data) (head : Head) (e : head_of d ≡ Ok head) where
  no_head_fault : (fault : FileFault) → ¬ Holds d fault
  no_head_fault = (tells_first_fault.head d).0 (head, e)

  first_tag : (place : ℕ) → HasUnknownTag d place → IsFirstOfValue d (FileFault.UnknownTag place)
  first_tag place holds = (holds, by)
    where
      by : (other : FileFault) → HoldsOfValue d other → 10 ≤ order_of other
      by (FileFault.UnknownTag k) h = omega arith
      by (FileFault.BadPair k) h = omega arith
      by (FileFault.BadPlace k) h = omega arith
      by other h = absurd (no_head_fault other h)

  first_pair : (place : ℕ) → ((k : ℕ) → ¬ HasUnknownTag d k) → HasBadPair d place → IsFirstOfValue d (FileFault.BadPair place)
  first_pair place tags holds = (holds, by)
    where
      by : (other : FileFault) → HoldsOfValue d other → 11 ≤ order_of other
      by (FileFault.UnknownTag k) h = absurd (tags k h)
      by (FileFault.BadPair k) h = omega arith
      by (FileFault.BadPlace k) h = omega arith
      by other h = absurd (no_head_fault other h)

  first_place : (place : ℕ) → ((k : ℕ) → ¬ HasUnknownTag d k) → ((k : ℕ) → ¬ HasBadPair d k) → HasBadPlace d place → IsFirstOfValue d (FileFault.BadPlace place)
  first_place place tags pairs holds = (holds, by)
    where
      by : (other : FileFault) → HoldsOfValue d other → 12 ≤ order_of other
      by (FileFault.UnknownTag k) h = absurd (tags k h)
      by (FileFault.BadPair k) h = absurd (pairs k h)
      by (FileFault.BadPlace k) h = omega arith
      by other h = absurd (no_head_fault other h)

  no_tag : (limits : List Limit) → limits_of head.kind head ≡ Ok limits → (k : ℕ) → ¬ HasUnknownTag d k
  no_tag limits l k = λ holds. let clash = sym l ∙ (tag_told d head e (FileFault.UnknownTag k)).1 (k, refl, holds) in cc

  no_pair : (pairs : List Pair) → pairs_from head.teams 0 head.pairs ≡ Ok pairs → (k : ℕ) → ¬ HasBadPair d k
  no_pair pairs p k = λ holds. let clash = sym p ∙ (pair_told d head e (FileFault.BadPair k)).1 (k, refl, holds) in cc

  no_place : (places : List Place) → places_of head.kind head ≡ Ok places → (k : ℕ) → ¬ HasBadPlace d k
  no_place places q k = λ holds. let clash = sym q ∙ (place_told d head e (FileFault.BadPlace k)).1 (k, refl, holds) in cc

  -- what follows the limits, and the pairs
  abbrev behind_pairs : List Limit → List Pair → Result (List Place) FileFault → Result DrawFile FileFault
  behind_pairs limits pairs r = after r (λ places. Ok (file_with head limits pairs places))

  abbrev behind_limits : List Limit → Result (List Pair) FileFault → Result DrawFile FileFault
  behind_limits limits r = after r (λ pairs. behind_pairs limits pairs (places_of head.kind head))

  -- what a file is refused for is the first fault of the value
  first_of_file : (fault : FileFault) → file_of head ≡ Err fault → IsFirstOfValue d fault
  first_of_file fault refused = by_tags (limits_of head.kind head) refl refused
    where
      by_places : (limits : List Limit) (pairs : List Pair) → limits_of head.kind head ≡ Ok limits → pairs_from head.teams 0 head.pairs ≡ Ok pairs
          → (r : Result (List Place) FileFault) → places_of head.kind head ≡ r → behind_pairs limits pairs r ≡ Err fault → IsFirstOfValue d fault
      by_places limits pairs l p (Ok places) q f = cc
      by_places limits pairs l p (Err g) q f =
          let same : g ≡ fault = cc in
          let t = (place_told d head e g).0 q in
          subst (IsFirstOfValue d) (sym t.1 ∙ same) (first_place t.0 (no_tag limits l) (no_pair pairs p) t.2)

      by_pairs : (limits : List Limit) → limits_of head.kind head ≡ Ok limits
          → (r : Result (List Pair) FileFault) → pairs_from head.teams 0 head.pairs ≡ r → behind_limits limits r ≡ Err fault → IsFirstOfValue d fault
      by_pairs limits l (Ok pairs) p f = by_places limits pairs l p (places_of head.kind head) refl f
      by_pairs limits l (Err g) p f =
          let same : g ≡ fault = cc in
          let t = (pair_told d head e g).0 p in
          subst (IsFirstOfValue d) (sym t.1 ∙ same) (first_pair t.0 (no_tag limits l) t.2)

      by_tags : (r : Result (List Limit) FileFault) → limits_of head.kind head ≡ r
          → after r (λ limits. behind_limits limits (pairs_from head.teams 0 head.pairs)) ≡ Err fault → IsFirstOfValue d fault
      by_tags (Ok limits) l f = by_pairs limits l (pairs_from head.teams 0 head.pairs) refl f
      by_tags (Err g) l f =
          let same : g ≡ fault = cc in
          let t = (tag_told d head e g).0 l in
          subst (IsFirstOfValue d) (sym t.1 ∙ same) (first_tag t.0 t.2)

  -- and the first fault of the value is what its file is refused for, where it is looked up
  tag_refuses : (place : ℕ) → HasUnknownTag d place → file_of head ≡ Err (FileFault.UnknownTag place)
  tag_refuses place holds = rw ((tag_told d head e (FileFault.UnknownTag place)).1 (place, refl, holds)) refl

  pair_refuses : (place : ℕ) → IsFirstOfValue d (FileFault.BadPair place) → file_of head ≡ Err (FileFault.BadPair place)
  pair_refuses place h = go (limits_of head.kind head) refl
    where
      go : (r : Result (List Limit) FileFault) → limits_of head.kind head ≡ r → file_of head ≡ Err (FileFault.BadPair place)
      go (Ok limits) l = rw l (rw ((pair_told d head e (FileFault.BadPair place)).1 (place, refl, h.0)) refl)
      go (Err g) l =
          let t = (tag_told d head e g).0 l in
          let le : 11 ≤ 10 = h.1 (FileFault.UnknownTag t.0) t.2 in
          absurd (omega (arith, le))

  place_refuses : (place : ℕ) → IsFirstOfValue d (FileFault.BadPlace place) → file_of head ≡ Err (FileFault.BadPlace place)
  place_refuses place h = go (limits_of head.kind head) refl (pairs_from head.teams 0 head.pairs) refl
    where
      go : (r : Result (List Limit) FileFault) → limits_of head.kind head ≡ r → (s : Result (List Pair) FileFault) → pairs_from head.teams 0 head.pairs ≡ s
          → file_of head ≡ Err (FileFault.BadPlace place)
      go (Ok limits) l (Ok pairs) p = rw l (rw p (rw ((place_told d head e (FileFault.BadPlace place)).1 (place, refl, h.0)) refl))
      go (Ok limits) l (Err g) p =
          let t = (pair_told d head e g).0 p in
          let le : 12 ≤ 11 = h.1 (FileFault.BadPair t.0) t.2 in
          absurd (omega (arith, le))
      go (Err g) l s p =
          let t = (tag_told d head e g).0 l in
          let le : 12 ≤ 10 = h.1 (FileFault.UnknownTag t.0) t.2 in
          absurd (omega (arith, le))

first_of_refused : (d : Data) (fault : FileFault) → IsRefusedFor d fault → IsFirstOfValue d fault
first_of_refused d fault (inl e) = first_of_head d fault e
first_of_refused d fault (inr h) = first_of_file d h.0 h.1 fault h.2

-- what is looked up is told where the value has a head
looked_up : (d : Data) (fault : FileFault) → 10 ≤ order_of fault → IsFirstOfValue d fault → ((head : Head) → head_of d ≡ Ok head → file_of head ≡ Err fault) → IsRefusedFor d fault
looked_up d fault late h refuses = go (head_of d) refl
  where
    go : (r : Result Head FileFault) → head_of d ≡ r → IsRefusedFor d fault
    go (Ok head) e = inr (head, e, refuses head e)
    go (Err g) e =
        let t = (tells_first_fault.fault d g).0 e in
        let lt = before_looked_up d g t.holds in
        let le = h.1 g (of_value d g t.holds) in
        absurd (omega (arith, lt, le, late))

refused_for_first : (d : Data) (fault : FileFault) → IsFirstOfValue d fault → IsRefusedFor d fault
refused_for_first d (FileFault.UnknownTag place) h = looked_up d (FileFault.UnknownTag place) (omega arith) h (λ head e. tag_refuses d head e place h.0)
refused_for_first d (FileFault.BadPair place) h = looked_up d (FileFault.BadPair place) (omega arith) h (λ head e. pair_refuses d head e place h)
refused_for_first d (FileFault.BadPlace place) h = looked_up d (FileFault.BadPlace place) (omega arith) h (λ head e. place_refuses d head e place h)
refused_for_first d fault h = inl ((tells_first_fault.fault d fault).1 (record { holds = h.0; first = λ other k. h.1 other (of_value d other k) }))

-- ---- the first fault of bytes

one_value : (bytes : List ℕ) (d e : Data) → IsJson bytes d → IsJson bytes e → d ≡ e
one_value bytes d e a b = let both : Some d ≡ Some e = sym a.value ∙ b.value in cc

no_value : (bytes : List ℕ) (d : Data) → IsJson bytes d → ¬ IsNotJson bytes
no_value bytes d json none = let clash = sym json.value ∙ none json.utf8 in cc

of_bytes : (bytes : List ℕ) (d : Data) (fault : FileFault) → IsJson bytes d → HoldsOfValue d fault → HoldsOfBytes bytes fault
of_bytes bytes d FileFault.NotJson json h = absurd h
of_bytes bytes d fault json h = (d, json, h)

of_their_value : (bytes : List ℕ) (d : Data) (fault : FileFault) → IsJson bytes d → HoldsOfBytes bytes fault → HoldsOfValue d fault
of_their_value bytes d FileFault.NotJson json h = no_value bytes d json h
of_their_value bytes d fault json h = subst (λ v. HoldsOfValue v fault) (one_value bytes h.0 d h.1 json) h.2

first_of_bytes : (bytes : List ℕ) (d : Data) (fault : FileFault) → IsJson bytes d → IsRefusedFor d fault → IsFirstFaultOfBytes bytes fault
first_of_bytes bytes d fault json h =
    let t = first_of_refused d fault h in
    record { holds = of_bytes bytes d fault json t.0; first = λ other k. t.1 other (of_their_value bytes d other json k) }

from_one : (fault : FileFault) → 1 ≤ order_of fault
from_one (FileFault.FieldMissing Field.Kind) = omega arith
from_one (FileFault.FieldMissing member) = omega arith
from_one (FileFault.FieldWrong Field.Kind) = omega arith
from_one (FileFault.FieldWrong member) = omega arith
from_one fault = omega arith

told : (bytes : List ℕ) (fault : FileFault) → IsFileFault bytes fault → IsFirstFaultOfBytes bytes fault
told bytes fault (inl (inl n)) =
    let first : IsFirstFaultOfBytes bytes FileFault.NotJson = record { holds = n.1; first = λ other h. from_one other } in
    subst (IsFirstFaultOfBytes bytes) (sym n.0) first
told bytes fault (inl (inr v)) = first_of_bytes bytes v.0 fault v.1 (inl v.2)
told bytes fault (inr v) = first_of_bytes bytes v.1.0 fault v.1.1 (inr (v.0, v.1.2, v.2))

fault_of_value : (bytes : List ℕ) (d : Data) (fault : FileFault) → IsJson bytes d → IsRefusedFor d fault → IsFileFault bytes fault
fault_of_value bytes d fault json (inl e) = inl (inr (d, json, e))
fault_of_value bytes d fault json (inr h) = inr (h.0, (d, json, h.1), h.2)

told_back : (bytes : List ℕ) (fault : FileFault) → IsFirstFaultOfBytes bytes fault → IsFileFault bytes fault
told_back bytes FileFault.NotJson h = inl (inl (refl, h.holds))
told_back bytes fault h =
    let v = h.holds in
    fault_of_value bytes v.0 fault v.1 (refused_for_first v.0 fault (v.2, λ other k. h.first other (of_bytes bytes v.0 other v.1 k)))

-- ---- bytes that have a file

none_holds : (bytes : List ℕ) (file : DrawFile) (fault : FileFault) → IsFileOf bytes file → ¬ HoldsOfBytes bytes fault
none_holds bytes file fault f = λ h. by fault (of_their_value bytes f.1.0 fault f.1.1 h)
  where
    by : (other : FileFault) → ¬ HoldsOfValue f.1.0 other
    by (FileFault.UnknownTag place) = λ h. let p = file_parts f.0 file f.2 in no_tag f.1.0 f.0 f.1.2 p.0 p.3.limits_are place h
    by (FileFault.BadPair place) = λ h. let p = file_parts f.0 file f.2 in no_pair f.1.0 f.0 f.1.2 p.1 p.3.pairs_are place h
    by (FileFault.BadPlace place) = λ h. let p = file_parts f.0 file f.2 in no_place f.1.0 f.0 f.1.2 p.2 p.3.places_are place h
    by other = λ h. no_head_fault f.1.0 f.0 f.1.2 other h

-- bytes are read as a value or not
read_or_not : (bytes : List ℕ) → ((d : Data) × IsJson bytes d) ⊎ IsNotJson bytes
read_or_not bytes = go (is_utf8 bytes) refl (read bytes) refl
  where
    go : (b : Bool) → is_utf8 bytes ≡ b → (r : Option Data) → read bytes ≡ r → ((d : Data) × IsJson bytes d) ⊎ IsNotJson bytes
    go true is (Some d) e = inl (d, record { utf8 = IsUtf8-from_is_utf8 bytes is; value = e })
    go true is None e = inr (λ _. e)
    go false is r e = inr (λ utf8. let clash = sym (is_utf8-from_IsUtf8 bytes utf8) ∙ is in cc)

file_or_fault : (d : Data) → ((head : Head) × (file : DrawFile) × (head_of d ≡ Ok head) × (file_of head ≡ Ok file)) ⊎ ((fault : FileFault) × IsRefusedFor d fault)
file_or_fault d = go (head_of d) refl
  where
    pairs : (head : Head) → head_of d ≡ Ok head → (r : Result DrawFile FileFault) → file_of head ≡ r
        → ((h : Head) × (file : DrawFile) × (head_of d ≡ Ok h) × (file_of h ≡ Ok file)) ⊎ ((fault : FileFault) × IsRefusedFor d fault)
    pairs head e (Ok file) is = inl (head, file, e, is)
    pairs head e (Err fault) is = inr (fault, inr (head, e, is))

    go : (r : Result Head FileFault) → head_of d ≡ r
        → ((h : Head) × (file : DrawFile) × (head_of d ≡ Ok h) × (file_of h ≡ Ok file)) ⊎ ((fault : FileFault) × IsRefusedFor d fault)
    go (Err fault) e = inr (fault, inl e)
    go (Ok head) e = pairs head e (file_of head) refl

has_file : (bytes : List ℕ) → ((fault : FileFault) → ¬ HoldsOfBytes bytes fault) → (file : DrawFile) × IsFileOf bytes file
has_file bytes none = go (read_or_not bytes)
  where
    by : (d : Data) → IsJson bytes d → ((head : Head) × (file : DrawFile) × (head_of d ≡ Ok head) × (file_of head ≡ Ok file)) ⊎ ((fault : FileFault) × IsRefusedFor d fault)
        → (file : DrawFile) × IsFileOf bytes file
    by d json (inl h) = (h.1, (h.0, (d, json, h.2), h.3))
    by d json (inr h) = absurd (none h.0 (first_of_bytes bytes d h.0 json h.1).holds)

    go : ((d : Data) × IsJson bytes d) ⊎ IsNotJson bytes → (file : DrawFile) × IsFileOf bytes file
    go (inl v) = by v.0 v.1 (file_or_fault v.0)
    go (inr n) = absurd (none FileFault.NotJson n)

-- what bytes are refused for is their first fault
pub tells_first_fault_of_bytes : TellsFirstFaultOfBytes
tells_first_fault_of_bytes = record {
  fault = λ bytes fault. ((λ h. told bytes fault h), λ h. told_back bytes fault h);
  file = λ bytes. ((λ h fault. none_holds bytes h.0 fault h.1), λ none. has_file bytes none);
}
