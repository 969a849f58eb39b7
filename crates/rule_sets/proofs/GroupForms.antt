-- The file of a group draw has its form.
use Rattle.std.proofs.Common.{◌≡◌, ◌≢◌, ℕ, ◌<◌, ◌≤◌, Bool, true, false, not, List, [], ◌∷◌, ◌++◌, map, length, get_or, slice_get, refl, sym, ap, ◌∙◌, subst, Option, Some, None, Result, Ok, arith}
use Rattle.std.specs.Prelude.{◌↔◌, bytes_eq, nat_le, if◌then◌else◌, codes, option_map, option_and_then}
use Rattle.std.specs.List.{All, AllPairs, Any}
use Rattle.std.proofs.lemmas.List.{get_or-map, length-map}
use Rattle.std.proofs.lemmas.List.Elements.{All-nil, All-push, All-weaker}
use Rattle.std.proofs.lemmas.List.Folds.{list_any_at}
use Rattle.std.proofs.lemmas.List.Quantifiers.{all_pairs_push}
use Rattle.std.proofs.lemmas.Bool.Decides.{nat_tests}
use Rattle.std.proofs.lemmas.Option.{slice_get-map, slice_get_within, slice_get-get_or}
use Rattle.std.proofs.lemmas.Slice.Eq.{bytes_eq-Decides}
use Rattle.serde_json.specs.Data.{Data}
use Rattle.serde_json.specs.Find.{get}
use Rattle.team_files.specs.declared.fault.FileFault.{FileFault}
use Rattle.team_files.specs.declared.fault.Field.{Field}
use Rattle.team_files.specs.declared.fields.HeadFields.{HeadFields}
use Rattle.team_files.specs.declared.head_limit.HeadLimit.{HeadLimit}
use Rattle.team_files.specs.declared.head_place.HeadPlace.{HeadPlace}
use Rattle.team_files.specs.declared.kind.Kind.{Kind}
use Rattle.team_files.specs.declared.team.Team.{Team}
use Rattle.team_files.specs.Characters.{is_tag}
use Rattle.team_files.specs.Answers.{after}
use Rattle.team_files.specs.Codes.{codes_of, HasCodeAt}
use Rattle.team_files.specs.Members.{lacks, where_true, text_in, number_in, positive_in, number_to, letter_of, tag_of}
use Rattle.team_files.specs.Heads.{Head, head_with, or_wrong, objects_in, read_behind, list_read, most_holders, has_limit, new_tag_in, lo_in, hi_in, limit_fields, place_fields, pot_size}
use Rattle.team_files.proofs.HeadLaws.{passed, gave, kept, Parts, FieldParts, are_few}
use Rattle.team_files.proofs.UnevenPots.{all_even}
use Rattle.rule_sets.specs.declared.limit.Limit.{Limit}
use Rattle.rule_sets.specs.declared.pair.Pair.{Pair}
use Rattle.rule_sets.specs.declared.place.Place.{Place}
use Rattle.rule_sets.specs.Files.{DrawFile, file_with, unknown_tag_from, limit_of, limits_of, places_of}
use Rattle.rule_sets.specs.Forms.{HasLimitForm, HasLimitedTags, IsPlaceIn, AreApart, HasGroupForm}
use Rattle.rule_sets.specs.UnknownTags.{IsLimited}
use Rattle.rule_sets.specs.BadPlaces.{IsRightPlace, setting_of}
use Rattle.rule_sets.proofs.CodedTeams.{AreCoded, named_has, named_within}
use Rattle.rule_sets.proofs.ReadValues.{passed_test, tag_is}
use Rattle.rule_sets.proofs.UnknownTagLaws.{all_limited}
use Rattle.rule_sets.proofs.BadPlaceLaws.{IsLookedUp, AreLookedUp, looked_size, looked_at, AreRight, places_told}

-- ---- numbers

positive_is : (name : List ℕ) (d : Data) (n : ℕ) → positive_in name d ≡ Some n → 1 ≤ n
positive_is name d n e = let h = passed_test (λ m. nat_le 1 m) (number_in name d) n e in grind (arith, nat_tests)

-- ---- lists of objects

-- what stands of each value that was read, behind earlier ones of which it stands
all_behind : {A : Type 0} (P : List A → Type 0) (read : List A → Data → Result A FileFault)
    → ((earlier : List A) (d : Data) (a : A) → P earlier → read earlier d ≡ Ok a → P (earlier ++ a ∷ []))
    → (earlier : List A) (ds : List Data) (all : List A) → P earlier → read_behind read earlier ds ≡ Ok all → P all
all_behind P read step earlier [] all so_far e = let same : earlier ≡ all = cc in subst P same so_far
all_behind P read step earlier (d ∷ ds) all so_far e =
    let one = gave (read earlier d) _ all e in
    all_behind P read step (earlier ++ one.0 ∷ []) ds all (step earlier d one.0 so_far one.1) one.2

all_listed : {A : Type 0} (P : List A → Type 0) (name : List ℕ) (field : Field) (read : List A → Data → Result A FileFault)
    → ((earlier : List A) (d : Data) (a : A) → P earlier → read earlier d ≡ Ok a → P (earlier ++ a ∷ []))
    → P [] → (d : Data) (all : List A) → list_read name field read d ≡ Ok all → P all
all_listed P name field read step none d all e = go (lacks name d) e
  where
    go : (b : Bool) → (if b then Ok [] else after (or_wrong (objects_in name d) field) (read_behind read [])) ≡ Ok all → P all
    go true h = let same : [] ≡ all = cc in subst P same none
    go false h = let o = gave (or_wrong (objects_in name d) field) _ all h in all_behind P read step [] o.0 all none o.2

-- ---- limits

-- a limit of a head is of a tag that no earlier one has, and its bounds are in order
record IsRead (earlier : List HeadLimit) (limit : HeadLimit) : Type 0 where
  tag : is_tag limit.tag ≡ true
  new : has_limit earlier limit.tag ≡ false
  order : limit.lo ≤ limit.hi
  few : limit.hi ≤ most_holders

limit_read : (earlier : List HeadLimit) (d : Data) (limit : HeadLimit) → limit_fields earlier d ≡ Ok limit → IsRead earlier limit
limit_read earlier d limit e =
    let t = gave (or_wrong (new_tag_in earlier d) Field.Tag) _ limit e in
    let l = gave (or_wrong (lo_in d) Field.Lo) _ limit t.2 in
    let h = gave (or_wrong (hi_in l.0 d) Field.Hi) _ limit l.2 in
    let tag : t.0 ≡ limit.tag = cc in
    let lo : l.0 ≡ limit.lo = cc in
    let hi : h.0 ≡ limit.hi = cc in
    let tag_read = kept (new_tag_in earlier d) Field.Tag t.0 t.1 in
    let hi_read = kept (hi_in l.0 d) Field.Hi h.0 h.1 in
    record {
      tag = subst (λ x. is_tag x ≡ true) tag (is_a_tag (get (codes "tag") d) t.0 tag_read);
      new = subst (λ x. has_limit earlier x ≡ false) tag (is_new (option_and_then tag_of (get (codes "tag") d)) t.0 tag_read);
      order = subst (λ x. x ≤ limit.hi) lo (subst (λ x. l.0 ≤ x) hi (le_of l.0 h.0 (passed_test (λ m. nat_le l.0 m) (number_to most_holders (codes "hi") d) h.0 hi_read)));
      few = subst (λ x. x ≤ most_holders) hi (le_of h.0 most_holders (passed_test (λ m. nat_le m most_holders) (number_in (codes "hi") d) h.0 (inner (λ m. nat_le l.0 m) (number_to most_holders (codes "hi") d) h.0 hi_read)));
    }
  where
    le_of : (a b : ℕ) → nat_le a b ≡ true → a ≤ b
    le_of a b h = grind (arith, nat_tests)

    -- what passes a test was there before
    inner : {A : Type 0} (test : A → Bool) (o : Option A) (a : A) → option_and_then (λ x. where_true (test x) x) o ≡ Some a → o ≡ Some a
    inner test None a h = cc
    inner test (Some x) a h = go (test x) h
      where
        go : (b : Bool) → where_true b x ≡ Some a → Some x ≡ Some a
        go true k = k
        go false k = cc

    is_new : (o : Option (List ℕ)) (tag : List ℕ) → option_and_then (λ x. where_true (not (has_limit earlier x)) x) o ≡ Some tag → has_limit earlier tag ≡ false
    is_new o tag h = negated (has_limit earlier tag) (passed_test (λ x. not (has_limit earlier x)) o tag h)
      where
        negated : (b : Bool) → not b ≡ true → b ≡ false
        negated true k = cc
        negated false k = refl

    is_a_tag : (o : Option Data) (tag : List ℕ) → option_and_then (λ x. where_true (not (has_limit earlier x)) x) (option_and_then tag_of o) ≡ Some tag → is_tag tag ≡ true
    is_a_tag o tag h = by o (inner (λ x. not (has_limit earlier x)) (option_and_then tag_of o) tag h)
      where
        by : (o : Option Data) → option_and_then tag_of o ≡ Some tag → is_tag tag ≡ true
        by None k = cc
        by (Some v) k = tag_is v tag k

-- What the limits of a head are.
record AreLimits (limits : List HeadLimit) : Type 0 where
  each : All (λ l. HasLimitForm (limit_of l)) limits
  distinct : AllPairs (λ a b. a.tag ≢ b.tag) limits

no_limits_read : AreLimits []
no_limits_read = record { each = All-nil (λ (l : HeadLimit). HasLimitForm (limit_of l)); distinct = λ i j d less within. absurd (omega (arith, less, within)) }

one_limit : (earlier : List HeadLimit) (d : Data) (limit : HeadLimit) → AreLimits earlier → limit_fields earlier d ≡ Ok limit → AreLimits (earlier ++ limit ∷ [])
one_limit earlier d limit so_far e =
    let is = limit_read earlier d limit e in
    record {
      each = All-push (λ (l : HeadLimit). HasLimitForm (limit_of l)) earlier limit so_far.each (record { tag = is.tag; order = is.order; few = is.few });
      distinct = all_pairs_push (λ (a : HeadLimit) (b : HeadLimit). a.tag ≢ b.tag) earlier limit so_far.distinct (apart is.new);
    }
  where
    apart : has_limit earlier limit.tag ≡ false → (k : ℕ) (x : HeadLimit) → k < length earlier → (get_or earlier k x).tag ≢ limit.tag
    apart new k x within same =
        let there = list_any_at (λ (l : HeadLimit). bytes_eq l.tag limit.tag) earlier k x within ((bytes_eq-Decides (get_or earlier k x).tag limit.tag).1 same) in
        let clash = sym there ∙ new in
        cc

-- the limits of the file are those of the head
all_limits : (limits : List HeadLimit) → AreLimits limits → All HasLimitForm (map limit_of limits)
all_limits limits are = λ k d within.
    let less : k < length limits = inside k within in
    let e : HeadLimit = record { tag = d.tag; lo = d.lo; hi = d.hi } in
    rw (get_or-map limit_of limits k e d less) (are.each k e less)
  where
    inside : (k : ℕ) → k < length (map limit_of limits) → k < length limits
    inside k lt = subst (λ n. k < n) (length-map limits limit_of) lt

apart_limits : (limits : List HeadLimit) → AreLimits limits → AllPairs (λ a b. a.tag ≢ b.tag) (map limit_of limits)
apart_limits limits are = λ i j d less within.
    let last : j < length limits = inside j within in
    let first : i < length limits = omega (arith, less, last) in
    let e : HeadLimit = record { tag = d.tag; lo = d.lo; hi = d.hi } in
    rw (get_or-map limit_of limits i e d first) (rw (get_or-map limit_of limits j e d last) (are.distinct i j e less last))
  where
    inside : (k : ℕ) → k < length (map limit_of limits) → k < length limits
    inside k lt = subst (λ n. k < n) (length-map limits limit_of) lt

limited : (limits : List HeadLimit) (tag : List ℕ) → IsLimited limits tag → Any (λ l. l.tag ≡ tag) (map limit_of limits)
limited limits tag any =
    let within : any.0 < length (map limit_of limits) = subst (λ n. any.0 < n) (sym (length-map limits limit_of)) any.2 in
    (any.0, limit_of any.1, within, get_or-map limit_of limits any.0 any.1 (limit_of any.1) any.2 ∙ ap limit_of any.3, any.4)

limited_teams : (limits : List HeadLimit) (teams : List Team) → All (λ t. All (IsLimited limits) t.tags) teams → All (HasLimitedTags (map limit_of limits)) teams
limited_teams limits teams all =
    All-weaker (λ (t : Team). All (IsLimited limits) t.tags) (HasLimitedTags (map limit_of limits))
    (λ t each. All-weaker (IsLimited limits) (λ tag. Any (λ (l : Limit). l.tag ≡ tag) (map limit_of limits)) (limited limits) t.tags each) teams all

-- ---- places

one_place : (earlier : List HeadPlace) (d : Data) (place : HeadPlace) → All (λ p. 1 ≤ p.position) earlier → place_fields earlier d ≡ Ok place → All (λ p. 1 ≤ p.position) (earlier ++ place ∷ [])
one_place earlier d place so_far e =
    let c = gave (or_wrong (text_in (codes "code") d) Field.Code) _ place e in
    let g = gave (or_wrong (option_and_then letter_of (text_in (codes "group") d)) Field.Group) _ place c.2 in
    let p = gave (or_wrong (positive_in (codes "position") d) Field.Position) _ place g.2 in
    let is : p.0 ≡ place.position = cc in
    let low = positive_is (codes "position") d p.0 (kept (positive_in (codes "position") d) Field.Position p.0 p.1) in
    All-push (λ (x : HeadPlace). 1 ≤ x.position) earlier place so_far (subst (λ n. 1 ≤ n) is low)

module _ (head : Head) (coded : AreCoded head.teams) (places : List Place) (file : DrawFile)
    (teams_are : file.teams ≡ head.teams) (groups_are : file.groups ≡ head.groups) (pots_are : file.pots ≡ head.pots)
    (right : AreRight head coded head.places (length head.places)) (up : AreLookedUp head.teams head.places places)
    (positive : All (λ p. 1 ≤ p.position) head.places) where
  -- a place with its named one, which is right
  record HasNamed (k : ℕ) (p : Place) : Type 0 where
    named : HeadPlace
    stands : slice_get head.places k ≡ Some named
    looked : IsLookedUp head.teams named p
    good : IsRightPlace (setting_of head) head.places k named

  named_at : (k : ℕ) (d : Place) → k < length places → HasNamed k (get_or places k d)
  named_at k d within =
      let found = looked_at head.teams head.places places k (get_or places k d) up (slice_get-get_or places k d within) in
      let less : k < length head.places = subst (λ n. k < n) (looked_size head.teams head.places places up) within in
      record { named = found.0; stands = found.1; looked = found.2; good = right k found.0 less found.1 }

  -- its team has the code of the named place
  team_code : (k : ℕ) (p : Place) (n : HasNamed k p) → HasCodeAt (codes_of head.teams) p.team.0 n.named.code
  team_code k p n = named_has head.teams n.named.code p.team n.looked.team

  place_in : (k : ℕ) (p : Place) → HasNamed k p → IsPlaceIn file p
  place_in k p n = record {
    team = rw teams_are (named_within head.teams n.named.code p.team n.looked.team);
    group = rw groups_are (rw n.looked.group n.good.group);
    position = (rw n.looked.position (low n.named n.stands), rw pots_are (rw n.looked.position n.good.position));
    head = λ team there. suits team (rw teams_are at there);
  }
    where
      low : (named : HeadPlace) → slice_get head.places k ≡ Some named → 1 ≤ named.position
      low named at =
          let within = slice_get_within head.places k named at in
          let here : Some (get_or head.places k named) ≡ Some named = sym (slice_get-get_or head.places k named within) ∙ at in
          let same : get_or head.places k named ≡ named = cc in
          subst (λ (x : HeadPlace). 1 ≤ x.position) same (positive k named within)

      suits : (team : Team) → slice_get head.teams p.team.0 ≡ Some team → (team.pot ≡ 1) ↔ (p.position ≡ 1)
      suits team there =
          let t = n.good.team in
          let one : t.0 ≡ p.team.0 = coded.1 t.0 p.team.0 n.named.code t.2 (team_code k p n) in
          let pots : Some t.1 ≡ Some team.pot = sym t.3 ∙ ap (λ i. slice_get (map (λ x. x.pot) head.teams) i) one ∙ slice_get-map (λ (x : Team). x.pot) head.teams p.team.0 ∙ ap (λ o. option_map (λ (x : Team). x.pot) o) there in
          let pot : t.1 ≡ team.pot = cc in
          let both : (t.1 ≡ 1) ↔ (p.position ≡ 1) = rw n.looked.position t.4 in
          subst (λ m. (m ≡ 1) ↔ (p.position ≡ 1)) pot both

  all_in : All (IsPlaceIn file) places
  all_in = λ k d within. place_in k (get_or places k d) (named_at k d within)

  all_apart : AllPairs AreApart places
  all_apart = λ i j d less within.
      let one = named_at i d (omega (arith, less, within)) in
      let other = named_at j d within in
      record { team = apart_teams i j d less one other; place = apart_places i j d less one other }
    where
      apart_teams : (i j : ℕ) (d : Place) → i < j → (one : HasNamed i (get_or places i d)) (other : HasNamed j (get_or places j d))
          → (get_or places i d).team.0 ≢ (get_or places j d).team.0
      apart_teams i j d less one other same =
          let here = team_code i (get_or places i d) one in
          let there = team_code j (get_or places j d) other in
          let both : Some one.named.code ≡ Some other.named.code = sym (subst (λ t. HasCodeAt (codes_of head.teams) t one.named.code) same here) ∙ there in
          let code : one.named.code ≡ other.named.code = cc in
          other.good.new_team i one.named less one.stands code

      apart_places : (i j : ℕ) (d : Place) → i < j → (one : HasNamed i (get_or places i d)) (other : HasNamed j (get_or places j d))
          → (get_or places i d).group ≡ (get_or places j d).group → (get_or places i d).position ≢ (get_or places j d).position
      apart_places i j d less one other group position =
          other.good.new_place i one.named less one.stands (record {
            group = sym one.looked.group ∙ group ∙ other.looked.group;
            position = sym one.looked.position ∙ position ∙ other.looked.position;
          })

-- ---- the form

of_group : (d : Data) (objects : List Data) (fields : HeadFields) (teams : List Team) (limits : List Limit) (pairs : List Pair) (places : List Place)
    → (let head = head_with Kind.Group fields teams in
    Parts d head Kind.Group fields teams → FieldParts Kind.Group d objects fields → AreCoded teams → limits_of Kind.Group head ≡ Ok limits → places_of Kind.Group head ≡ Ok places
    → HasGroupForm (file_with head limits pairs places))
of_group d objects fields teams limits pairs places read members coded l q =
    let head = head_with Kind.Group fields teams in
    let file = file_with head limits pairs places in
    let few = are_few fields read.few in
    let known = passed (unknown_tag_from fields.limits 0 teams) _ limits l in
    let limits_are : map limit_of fields.limits ≡ limits = cc in
    let are = all_listed AreLimits (codes "limits") Field.Limits limit_fields one_limit no_limits_read d fields.limits members.limits_are in
    let positive = all_listed (λ (ps : List HeadPlace). All (λ p. 1 ≤ p.position) ps) (codes "places") Field.Places place_fields one_place (All-nil (λ (p : HeadPlace). 1 ≤ p.position)) d fields.places members.places_are in
    let told = places_told head coded (Ok places) q in
    record {
      groups = (positive_is (codes "groups") d fields.groups members.groups_are, few.groups);
      pots = (positive_is (codes "pots") d fields.pots members.pots_are, few.pots);
      full_pots = λ pot low high. all_even (λ p. pot_size p teams) fields.groups 1 fields.pots read.sizes pot low (omega (arith, high));
      few_limits = rw (← limits_are) (rw (length-map fields.limits limit_of) few.limits);
      limits = rw (← limits_are) (all_limits fields.limits are);
      distinct_limits = rw (← limits_are) (apart_limits fields.limits are);
      limited_tags = rw (← limits_are) (limited_teams fields.limits teams (all_limited fields.limits 0 teams known.0));
      few_places = rw (looked_size teams fields.places places told.1) few.places;
      places = all_in head coded places file refl refl refl told.0 told.1 positive;
      distinct_places = all_apart head coded places file refl refl refl told.0 told.1 positive;
    }

-- the file of a head of that kind has the form
pub group_form : (kind : Kind) → kind ≡ Kind.Group
    → (d : Data) (objects : List Data) (fields : HeadFields) (teams : List Team) (limits : List Limit) (pairs : List Pair) (places : List Place)
    → (let head = head_with kind fields teams in
    Parts d head kind fields teams → FieldParts kind d objects fields → AreCoded teams → limits_of kind head ≡ Ok limits → places_of kind head ≡ Ok places
    → HasGroupForm (file_with head limits pairs places))
group_form Kind.Group is d objects fields teams limits pairs places read members coded l q = of_group d objects fields teams limits pairs places read members coded l q
group_form Kind.Pairing is d objects fields teams limits pairs places read members coded l q = cc
