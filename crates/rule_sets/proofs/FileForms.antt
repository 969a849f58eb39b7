-- A well-formed draw file has its form: no fault of a head, and none of its pairs, holds of it.
use Rattle.std.proofs.Common.{◌≡◌, ◌≢◌, ℕ, suc, eqb-true, ◌+◌, ◌≤◌, Bool, true, false, List, [], ◌∷◌, length, Option, Some, None, Result, Ok, Err, refl, sym, ◌∙◌, ap, subst, arith}
use Rattle.std.specs.Prelude.{◌==◌, ◌&&◌, not, nat_le, bytes_eq, if◌then◌else◌, option_map, option_and_then, ok_or, codes}
use Rattle.std.specs.List.{All}
use Rattle.std.proofs.lemmas.List.Elements.{All-nil, All-cons}
use Rattle.std.proofs.lemmas.Bool.Decides.{nat_tests}
use Rattle.std.proofs.lemmas.Slice.Eq.{bytes_eq-Decides}
use Rattle.serde_json.specs.Data.{Data}
use Rattle.team_files.specs.declared.kind.Kind.{Kind}
use Rattle.team_files.specs.declared.fault.FileFault.{FileFault}
use Rattle.team_files.specs.declared.fault.Field.{Field}
use Rattle.team_files.specs.declared.fields.TeamFields.{TeamFields}
use Rattle.team_files.specs.declared.fields.HeadFields.{HeadFields}
use Rattle.team_files.specs.declared.team.Team.{Team}
use Rattle.team_files.specs.declared.team_id.TeamId.{TeamId}
use Rattle.team_files.specs.declared.head_pair.HeadPair.{HeadPair}
use Rattle.team_files.specs.Characters.{is_capital, is_code}
use Rattle.team_files.specs.Answers.{after}
use Rattle.team_files.specs.Kinds.{kind_text}
use Rattle.team_files.specs.Members.{lacks, where_true, text_in, list_in, number_in, tag_of, tags_of, tags_in, letter_of}
use Rattle.team_files.specs.Heads.{fault_of_name, kind_of_text, kind_of, or_wrong, name_in, pot_in, letter_in, team_fields, all_team_fields, team_of, teams_from, pot_size, pot_size_fault, name_of, Head, head_with}
use Rattle.team_files.proofs.HeadLaws.{gave, Parts, parts, FieldParts, field_parts, are_few}
use Rattle.team_files.proofs.CodeLaws.{distinct, tells_same_code}
use Rattle.rule_sets.specs.declared.limit.Limit.{Limit}
use Rattle.rule_sets.specs.declared.pair.Pair.{Pair}
use Rattle.rule_sets.specs.declared.place.Place.{Place}
use Rattle.rule_sets.specs.Files.{DrawFile, file_with, file_of, limits_of, places_of, team_named, pair_at, pair_of, pairs_from}
use Rattle.rule_sets.proofs.ReadValues.{passed_test, tag_is}
use Rattle.rule_sets.proofs.CodedTeams.{all_coded, AreCoded, named_within}
use Rattle.rule_sets.proofs.GroupForms.{group_form}
use Rattle.rule_sets.specs.Forms.{IsInPot, AreTags, HasTags, HasLetter, NamesTwoTeams, HasForm, FilesHaveForm}

-- ---- the pots, tags and letters

one_of : (pots n : ℕ) → (nat_le 1 n && nat_le n pots) ≡ true → (1 ≤ n) × (n ≤ pots)
one_of pots n e = (grind (arith, nat_tests), grind (arith, nat_tests))

different : (a b : List ℕ) → bytes_eq a b ≡ false → a ≢ b
different a b e = λ same. let yes = (bytes_eq-Decides a b).1 same in cc

two_tags : (d e : Data) (m n : Option (List ℕ)) (tags : List (List ℕ)) → tag_of d ≡ m → tag_of e ≡ n
    → option_and_then (λ s. option_and_then (λ t. where_true (not (bytes_eq s t)) (s ∷ t ∷ [])) n) m ≡ Some tags → AreTags tags
two_tags d e None n tags a b h = cc
two_tags d e (Some s) None tags a b h = cc
two_tags d e (Some s) (Some t) tags a b h = go (bytes_eq s t) refl h
  where
    go : (x : Bool) → bytes_eq s t ≡ x → where_true (not x) (s ∷ t ∷ []) ≡ Some tags → AreTags tags
    go true is k = cc
    go false is k = let same : s ∷ t ∷ [] ≡ tags = cc in subst AreTags same (tag_is d s a, tag_is e t b, different s t is)

one_tag : (d : Data) (m : Option (List ℕ)) (tags : List (List ℕ)) → tag_of d ≡ m → option_map (λ s. s ∷ []) m ≡ Some tags → AreTags tags
one_tag d None tags a h = cc
one_tag d (Some s) tags a h = let same : s ∷ [] ≡ tags = cc in subst AreTags same (tag_is d s a)

are_tags : (ds : List Data) (tags : List (List ℕ)) → tags_of ds ≡ Some tags → AreTags tags
are_tags [] tags e = cc
are_tags (a ∷ []) tags e = one_tag a (tag_of a) tags refl e
are_tags (a ∷ b ∷ []) tags e = two_tags a b (tag_of a) (tag_of b) tags refl refl e
are_tags (a ∷ b ∷ c ∷ ds) tags e = cc

listed_tags : (ds : Option (List Data)) (tags : List (List ℕ)) → option_and_then tags_of ds ≡ Some tags → AreTags tags
listed_tags None tags e = cc
listed_tags (Some ds) tags e = are_tags ds tags e

letter_is : (text : Option (List ℕ)) (letter : ℕ) → option_and_then letter_of text ≡ Some letter → is_capital letter ≡ true
letter_is None letter e = cc
letter_is (Some []) letter e = cc
letter_is (Some (b ∷ [])) letter e = passed_test is_capital (Some b) letter e
letter_is (Some (b ∷ c ∷ bs)) letter e = cc

-- the first-round letter of a pairing's team
abbrev IsLetter : Option ℕ → Type 0
IsLetter letter = (l : ℕ) × (letter ≡ Some l) × (is_capital l ≡ true)

letter_read : (kind : Kind) (d : Data) (letter : Option ℕ) → letter_in kind d ≡ Some letter → kind ≡ Kind.Pairing → IsLetter letter
letter_read Kind.Group d letter e is = cc
letter_read Kind.Pairing d letter e is = go (option_and_then letter_of (text_in (codes "group") d)) refl e
  where
    go : (o : Option ℕ) → option_and_then letter_of (text_in (codes "group") d) ≡ o → option_map (λ l. Some l) o ≡ Some letter → IsLetter letter
    go None found h = cc
    go (Some l) found h = (l, cc, letter_is (text_in (codes "group") d) l found)

-- the fields of a team have what its object has
fields_are : (code : Result (List ℕ) FileFault) (name : Result (Option (List ℕ)) FileFault) (pot : Option ℕ)
    (tags : Option (List (List ℕ))) (letter : Option (Option ℕ)) (f : TeamFields)
    → after code (λ c. after name (λ n. after (or_wrong pot Field.Pot) (λ p. after (or_wrong tags Field.Tags) (λ t. after (or_wrong letter Field.Group) (λ l.
    Ok (record { code = c; name = n; pot = p; tags = t; group_letter = l })))))) ≡ Ok f
    → (pot ≡ Some f.pot) × (tags ≡ Some f.tags) × (letter ≡ Some f.group_letter)
fields_are (Err x) name pot tags letter f e = cc
fields_are (Ok c) (Err x) pot tags letter f e = cc
fields_are (Ok c) (Ok n) None tags letter f e = cc
fields_are (Ok c) (Ok n) (Some p) None letter f e = cc
fields_are (Ok c) (Ok n) (Some p) (Some t) None f e = cc
fields_are (Ok c) (Ok n) (Some p) (Some t) (Some l) f e = (cc, cc, cc)

-- What the fields of a team are, in a head of the kind with so many pots.
record AreRead (kind : Kind) (pots : ℕ) (f : TeamFields) : Type 0 where
  pot : (1 ≤ f.pot) × (f.pot ≤ pots)
  tags : AreTags f.tags
  letter : kind ≡ Kind.Pairing → IsLetter f.group_letter

are_read : (kind : Kind) (pots : ℕ) (d : Data) (f : TeamFields) → team_fields kind pots d ≡ Ok f → AreRead kind pots f
are_read kind pots d f e =
    let code = or_wrong (text_in (codes "code") d) Field.Code in
    let name = or_wrong (name_in d) Field.Name in
    let are = fields_are code name (pot_in pots d) (tags_in (codes "tags") d) (letter_in kind d) f e in
    record {
      pot = one_of pots f.pot (passed_test (λ n. nat_le 1 n && nat_le n pots) (number_in (codes "pot") d) f.pot are.0);
      tags = listed_tags (list_in (codes "tags") d) f.tags are.1;
      letter = letter_read kind d f.group_letter are.2;
    }

-- the team of fields has them
team_is : (i : ℕ) (f : TeamFields) (t : Team) → team_of i f ≡ Ok t → (t.pot ≡ f.pot) × (t.tags ≡ f.tags) × (t.group_letter ≡ f.group_letter)
team_is i f t e = go (is_code f.code) e
  where
    go : (b : Bool)
        → (if b then Ok (record { code = f.code; name = name_of f.code f.name; pot = f.pot; tags = f.tags; group_letter = f.group_letter }) else Err (FileFault.BadCode i)) ≡ Ok t
        → (t.pot ≡ f.pot) × (t.tags ≡ f.tags) × (t.group_letter ≡ f.group_letter)
    go true h = (cc, cc, cc)
    go false h = cc

module _ (kind : Kind) (pots : ℕ) where
  -- what stands of each team that was read stands of all
  abbrev OfEachRead : (Team → Type 0) → Type 0
  OfEachRead Has = (i : ℕ) (f : TeamFields) (t : Team) → AreRead kind pots f → team_of i f ≡ Ok t → Has t

  all_have : (Has : Team → Type 0) → OfEachRead Has → (i : ℕ) (ds : List Data) (fs : List TeamFields) (ts : List Team)
      → all_team_fields kind pots ds ≡ Ok fs → teams_from i fs ≡ Ok ts → All Has ts
  all_have Has each i [] fs ts e h =
      let no_fields : fs ≡ [] = cc in
      let no_teams : ts ≡ [] = ends (rw no_fields at h) in
      rw no_teams (All-nil Has)
    where
      ends : teams_from i [] ≡ Ok ts → ts ≡ []
      ends k = cc
  all_have Has each i (d ∷ ds) fs ts e h =
      let first = gave (team_fields kind pots d) _ fs e in
      let rest = gave (all_team_fields kind pots ds) (λ teams. Ok (first.0 ∷ teams)) fs first.2 in
      let whole : fs ≡ first.0 ∷ rest.0 = cc in
      let team = gave (team_of i first.0) _ ts (rw whole at h) in
      let teams = gave (teams_from (i + 1) rest.0) (λ teams. Ok (team.0 ∷ teams)) ts team.2 in
      let all : ts ≡ team.0 ∷ teams.0 = cc in
      let stands : Has team.0 = each i first.0 team.0 (are_read kind pots d first.0 first.1) team.1 in
      rw all (All-cons Has team.0 teams.0 stands (all_have Has each (i + 1) ds rest.0 teams.0 rest.1 teams.1))

  each_in_pot : OfEachRead (IsInPot pots)
  each_in_pot i f t read e = subst (λ (n : ℕ). (1 ≤ n) × (n ≤ pots)) (sym (team_is i f t e).0) read.pot

  each_tagged : OfEachRead HasTags
  each_tagged i f t read e = subst AreTags (sym (team_is i f t e).1) read.tags

  each_lettered : kind ≡ Kind.Pairing → OfEachRead HasLetter
  each_lettered is i f t read e = subst IsLetter (sym (team_is i f t e).2) (read.letter is)

-- ---- the numbers of teams and of pairs

teams_size : (i : ℕ) (fs : List TeamFields) (ts : List Team) → teams_from i fs ≡ Ok ts → length ts ≡ length fs
teams_size i [] ts e = let none : ts ≡ [] = cc in rw none refl
teams_size i (f ∷ fs) ts e =
    let team = gave (team_of i f) _ ts e in
    let teams = gave (teams_from (i + 1) fs) _ ts team.2 in
    let all : ts ≡ team.0 ∷ teams.0 = cc in
    rw all (ap (λ n. suc n) (teams_size (i + 1) fs teams.0 teams.1))

-- a file has as many pairs as its head
pub pairs_size : (teams : List Team) (i : ℕ) (ps : List HeadPair) (pairs : List Pair)
    → pairs_from teams i ps ≡ Ok pairs → length pairs ≡ length ps
pairs_size teams i [] pairs e = let none : pairs ≡ [] = cc in rw none refl
pairs_size teams i (p ∷ ps) pairs e =
    let pair = gave (pair_of teams i p) _ pairs e in
    let rest = gave (pairs_from teams (i + 1) ps) _ pairs pair.2 in
    let all : pairs ≡ pair.0 ∷ rest.0 = cc in
    rw all (ap (λ n. suc n) (pairs_size teams (i + 1) ps rest.0 rest.1))

-- ---- the sizes of the pots

sizes : (teams : List Team) → pot_size_fault Kind.Pairing 0 2 teams ≡ None → (pot_size 1 teams ≢ 0) × (pot_size 2 teams ≡ pot_size 1 teams)
sizes teams e = go (pot_size 1 teams) (pot_size 2 teams) e
  where
    go : (a b : ℕ)
        → (if a == 0 then Some (FileFault.PotSize 1 0) else (if b == a then None else Some (FileFault.PotSize 2 b))) ≡ None
        → (a ≢ 0) × (b ≡ a)
    go a b h = (first (a == 0) refl h, second (a == 0) (b == a) refl h)
      where
        first : (x : Bool)
            → (a == 0) ≡ x
            → (if x then Some (FileFault.PotSize 1 0) else (if b == a then None else Some (FileFault.PotSize 2 b))) ≡ None
            → a ≢ 0
        first true is f = cc
        first false is f = λ none. grind (arith, nat_tests)

        second : (x y : Bool)
            → (b == a) ≡ y
            → (if x then Some (FileFault.PotSize 1 0) else (if y then None else Some (FileFault.PotSize 2 b))) ≡ None
            → b ≡ a
        second true y is f = cc
        second false true is f = eqb-true b a is
        second false false is f = cc

-- ---- the pairs

unequal : (a b : ℕ) → (a == b) ≡ false → a ≢ b
unequal a b e same = grind (arith, nat_tests)

-- a pair that was looked up names the teams of its texts
pub pair_is : (place : ℕ) (a b : Option TeamId) (p : Pair)
    → pair_at place a b ≡ Ok p → (a ≡ Some p.first) × (b ≡ Some p.second) × (p.first.0 ≢ p.second.0)
pair_is place None b p e = cc
pair_is place (Some a) None p e = cc
pair_is place (Some a) (Some b) p e = go (a.0 == b.0) refl e
  where
    go : (x : Bool)
        → (a.0 == b.0) ≡ x
        → (if x then Err (FileFault.BadPair place) else Ok (record { first = a; second = b })) ≡ Ok p
        → (Some a ≡ Some p.first) × (Some b ≡ Some p.second) × (p.first.0 ≢ p.second.0)
    go true is h = cc
    go false is h =
        let one : a ≡ p.first = cc in
        let two : b ≡ p.second = cc in
        (ap (λ x. Some x) one, ap (λ x. Some x) two, λ same. unequal a.0 b.0 is (ap (λ x. x.0) one ∙ same ∙ sym (ap (λ x. x.0) two)))

pair_names : (teams : List Team) (place : ℕ) (named : HeadPair) (p : Pair)
    → pair_of teams place named ≡ Ok p → NamesTwoTeams teams p
pair_names teams place named p e =
    let is = pair_is place (team_named teams named.first) (team_named teams named.second) p e in
    record { first = named_within teams named.first p.first is.0; second = named_within teams named.second p.second is.1; different = is.2 }

all_name : (teams : List Team) (i : ℕ) (ps : List HeadPair) (pairs : List Pair)
    → pairs_from teams i ps ≡ Ok pairs → All (NamesTwoTeams teams) pairs
all_name teams i [] pairs e = let none : pairs ≡ [] = cc in rw none (All-nil (NamesTwoTeams teams))
all_name teams i (p ∷ ps) pairs e =
    let pair = gave (pair_of teams i p) _ pairs e in
    let rest = gave (pairs_from teams (i + 1) ps) _ pairs pair.2 in
    let all : pairs ≡ pair.0 ∷ rest.0 = cc in
    rw all (All-cons (NamesTwoTeams teams) pair.0 rest.0 (pair_names teams i p pair.0 pair.1) (all_name teams (i + 1) ps rest.0 rest.1))

-- ---- the file

-- What a pairing's head is, beside its teams and its pairs.
record IsPairingHead (fields : HeadFields) (teams : List Team) : Type 0 where
  groups : fields.groups ≡ 0
  pots : fields.pots ≡ 2
  sizes : (pot_size 1 teams ≢ 0) × (pot_size 2 teams ≡ pot_size 1 teams)

pairing_head : (kind : Kind) (d : Data) (objects : List Data) (fields : HeadFields) (teams : List Team)
    → FieldParts kind d objects fields → pot_size_fault kind fields.groups fields.pots teams ≡ None → kind ≡ Kind.Pairing → IsPairingHead fields teams
pairing_head Kind.Group d objects fields teams p size is = cc
pairing_head Kind.Pairing d objects fields teams p size is =
    let groups = p.groups_are in
    let pots = p.pots_are in
    record { groups = cc; pots = cc; sizes = sizes teams size }

no_limits : (kind : Kind) (head : Head) (limits : List Limit) → limits_of kind head ≡ Ok limits → kind ≡ Kind.Pairing → limits ≡ []
no_limits Kind.Group head limits e is = cc
no_limits Kind.Pairing head limits e is = cc

no_places : (kind : Kind) (head : Head) (places : List Place) → places_of kind head ≡ Ok places → kind ≡ Kind.Pairing → places ≡ []
no_places Kind.Group head places e is = cc
no_places Kind.Pairing head places e is = cc

-- the file of a head that has these parts
form_of : (d : Data) (kind : Kind) (fields : HeadFields) (teams : List Team) (limits : List Limit) (pairs : List Pair) (places : List Place)
    → (let head = head_with kind fields teams in
    Parts d head kind fields teams → limits_of kind head ≡ Ok limits → pairs_from teams 0 fields.pairs ≡ Ok pairs → places_of kind head ≡ Ok places
    → HasForm (file_with head limits pairs places))
form_of d kind fields teams limits pairs places read l h q =
    let head = head_with kind fields teams in
    let of_fields = field_parts kind d fields read.fields_are in
    let objects = of_fields.0 in
    let members = of_fields.1 in
    let is_head = pairing_head kind d objects fields teams members read.sizes in
    let few = are_few fields read.few in
    let coded : AreCoded teams = (all_coded 0 fields.teams teams read.teams_are, (tells_same_code.none teams).0 read.distinct) in
    record {
      common = record {
        few_teams = rw (teams_size 0 fields.teams teams read.teams_are) few.teams;
        codes = all_coded 0 fields.teams teams read.teams_are;
        distinct_codes = distinct teams read.distinct;
        in_pots = all_have kind fields.pots (IsInPot fields.pots) (each_in_pot kind fields.pots) 0 objects fields.teams teams members.teams_are read.teams_are;
        tags = all_have kind fields.pots HasTags (each_tagged kind fields.pots) 0 objects fields.teams teams members.teams_are read.teams_are;
        few_pairs = rw (pairs_size teams 0 fields.pairs pairs h) few.pairs;
        pairs = all_name teams 0 fields.pairs pairs h;
      };
      group = λ is. group_form kind is d objects fields teams limits pairs places read members coded l q;
      pairing = λ is. record {
        pots = (is_head is).pots;
        groups = (is_head is).groups;
        limits = no_limits kind head limits l is;
        places = no_places kind head places q is;
        not_empty = (is_head is).sizes.0;
        same_size = (is_head is).sizes.1;
        letters = all_have kind fields.pots HasLetter (each_lettered kind fields.pots is) 0 objects fields.teams teams members.teams_are read.teams_are;
      };
    }

-- What the file of a head went through.
pub record FileParts (head : Head) (limits : List Limit) (pairs : List Pair) (places : List Place) (file : DrawFile) : Type 0 where
  pub limits_are : limits_of head.kind head ≡ Ok limits
  pub pairs_are : pairs_from head.teams 0 head.pairs ≡ Ok pairs
  pub places_are : places_of head.kind head ≡ Ok places
  pub whole : file_with head limits pairs places ≡ file

-- a file of a head went through these steps
pub file_parts : (head : Head) (file : DrawFile) → file_of head ≡ Ok file
    → (limits : List Limit) × (pairs : List Pair) × (places : List Place) × FileParts head limits pairs places file
file_parts head file e =
    let l = gave (limits_of head.kind head) _ file e in
    let p = gave (pairs_from head.teams 0 head.pairs) _ file l.2 in
    let q = gave (places_of head.kind head) _ file p.2 in
    (l.0, p.0, q.0, record { limits_are = l.1; pairs_are = p.1; places_are = q.1; whole = cc })

-- a well-formed file has its form
pub files_have_form : FilesHaveForm
files_have_form file formed =
    let p = parts formed.1.0 formed.0 formed.1.1 in
    let head = head_with p.0 p.1 p.2 in
    let same : formed.0 ≡ head = sym p.3.whole in
    let made : file_of head ≡ Ok file = subst (λ h. file_of h ≡ Ok file) same formed.2 in
    let read : Parts formed.1.0 head p.0 p.1 p.2 = subst (λ h. Parts formed.1.0 h p.0 p.1 p.2) same p.3 in
    let f = file_parts head file made in
    subst HasForm f.3.whole (form_of formed.1.0 p.0 p.1 p.2 f.0 f.1 f.2 read f.3.limits_are f.3.pairs_are f.3.places_are)
