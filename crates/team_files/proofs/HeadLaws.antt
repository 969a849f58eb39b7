-- What holds of a head that was read: no fault of a head holds of it.
use Rattle.std.proofs.Common.{◌≡◌, ℕ, ◌≤◌, Bool, true, false, List, [], ◌∷◌, length, Option, Some, None, Result, Ok, Err, refl, subst, arith}
use Rattle.std.specs.Prelude.{◌&&◌, nat_le, nat_lt, if◌then◌else◌, option_and_then, codes}
use Rattle.std.specs.List.{All}
use Rattle.std.specs.Option.{option_or}
use Rattle.std.proofs.lemmas.List.Elements.{All-nil, All-cons}
use Rattle.std.proofs.lemmas.Bool.Decides.{nat_tests}
use Rattle.serde_json.specs.Data.{Data}
use Rattle.team_files.specs.declared.fault.Field.{Field}
use Rattle.team_files.specs.declared.fault.FileFault.{FileFault}
use Rattle.team_files.specs.declared.kind.Kind.{Kind}
use Rattle.team_files.specs.declared.fields.TeamFields.{TeamFields}
use Rattle.team_files.specs.declared.fields.HeadFields.{HeadFields}
use Rattle.team_files.specs.declared.team.Team.{Team}
use Rattle.team_files.specs.Answers.{after, unless}
use Rattle.team_files.specs.Members.{where_true, text_in, number_in, tags_in}
use Rattle.team_files.specs.Heads.{Head, head_with, head_of, IsReadHead, or_wrong, object_fault, kind_of, missing_fault, groups_in, pots_in, objects_in, name_in, pot_in, letter_in, team_fields, all_team_fields, limits_in, pairs_in, places_in, head_fields, too_many_if, too_many_fault, most_groups, most_pots, most_teams, most_limits, most_pairs, most_places, teams_from, teams_of, same_code_fault, pot_size_fault}

-- a step with no fault
pub passed : {A : Type 0} (fault : Option FileFault) (rest : Result A FileFault) (a : A) → unless fault rest ≡ Ok a → (fault ≡ None) × (rest ≡ Ok a)
passed None rest a e = (refl, e)
passed (Some f) rest a e = cc

-- a step that gave a value
pub gave : {A B : Type 0} (first : Result A FileFault) (next : A → Result B FileFault) (b : B) → after first next ≡ Ok b → (a : A) × (first ≡ Ok a) × (next a ≡ Ok b)
gave (Ok a) next b e = (a, refl, e)
gave (Err f) next b e = cc

-- What reading a head went through.
pub record Parts (d : Data) (head : Head) (kind : Kind) (fields : HeadFields) (teams : List Team) : Type 0 where
  pub object : object_fault d ≡ None
  pub kind_is : kind_of d ≡ Ok kind
  pub missing : missing_fault kind d ≡ None
  pub fields_are : head_fields kind d ≡ Ok fields
  pub few : too_many_fault fields ≡ None
  pub teams_are : teams_from 0 fields.teams ≡ Ok teams
  pub distinct : same_code_fault teams ≡ None
  pub sizes : pot_size_fault kind fields.groups fields.pots teams ≡ None
  pub whole : head_with kind fields teams ≡ head

-- a head that was read went through these steps
pub parts : (d : Data) (head : Head) → head_of d ≡ Ok head → (kind : Kind) × (fields : HeadFields) × (teams : List Team) × Parts d head kind fields teams
parts d head e =
    let a = passed (object_fault d) _ head e in
    let b = gave (kind_of d) _ head a.1 in
    let c = passed (missing_fault b.0 d) _ head b.2 in
    let f = gave (head_fields b.0 d) _ head c.1 in
    let g = passed (too_many_fault f.0) _ head f.2 in
    let t = gave (teams_from 0 f.0.teams) _ head g.1 in
    let s = passed (same_code_fault t.0) _ head t.2 in
    let p = passed (pot_size_fault b.0 f.0.groups f.0.pots t.0) _ head s.1 in (
      b.0,
      f.0,
      t.0,
      record {
        object = a.0;
        kind_is = b.1;
        missing = c.0;
        fields_are = f.1;
        few = g.0;
        teams_are = t.1;
        distinct = s.0;
        sizes = p.0;
        whole = cc;
      },
    )

-- What reading the members of a head went through.
pub record FieldParts (kind : Kind) (d : Data) (objects : List Data) (fields : HeadFields) : Type 0 where
  pub groups_are : groups_in kind d ≡ Some fields.groups
  pub pots_are : pots_in kind d ≡ Some fields.pots
  pub teams_are : all_team_fields kind fields.pots objects ≡ Ok fields.teams
  pub limits_are : limits_in kind d ≡ Ok fields.limits
  pub pairs_are : pairs_in d ≡ Some fields.pairs
  pub places_are : places_in kind d ≡ Ok fields.places

-- a member of the right form
pub kept : {A : Type 0} (value : Option A) (field : Field) (a : A) → or_wrong value field ≡ Ok a → value ≡ Some a
kept None field a e = cc
kept (Some x) field a e = cc

-- members that were read went through these steps
pub field_parts : (kind : Kind) (d : Data) (fields : HeadFields) → head_fields kind d ≡ Ok fields → (objects : List Data) × FieldParts kind d objects fields
field_parts kind d fields e =
    let g = gave (or_wrong (groups_in kind d) Field.Groups) _ fields e in
    let n = gave (or_wrong (pots_in kind d) Field.Pots) _ fields g.2 in
    let o = gave (or_wrong (objects_in (codes "teams") d) Field.Teams) _ fields n.2 in
    let t = gave (all_team_fields kind n.0 o.0) _ fields o.2 in
    let l = gave (limits_in kind d) _ fields t.2 in
    let p = gave (or_wrong (pairs_in d) Field.Pairs) _ fields l.2 in
    let q = gave (places_in kind d) _ fields p.2 in
    let whole : record { groups = g.0; pots = n.0; teams = t.0; limits = l.0; pairs = p.0; places = q.0 } ≡ fields = cc in (
      o.0,
      subst
          (FieldParts kind d o.0)
          whole
          (record {
            groups_are = kept (groups_in kind d) Field.Groups g.0 g.1;
            pots_are = kept (pots_in kind d) Field.Pots n.0 n.1;
            teams_are = t.1;
            limits_are = l.1;
            pairs_are = kept (pairs_in d) Field.Pairs p.0 p.1;
            places_are = q.1;
          }),
    )

-- a number within its limit
within_limit : (most number : ℕ) (what : Field) (rest : Option FileFault) → option_or (too_many_if most what number) rest ≡ None → (number ≤ most) × (rest ≡ None)
within_limit most number what rest e = go (nat_lt most number) refl e
  where
    go : (b : Bool) → nat_lt most number ≡ b → option_or (if b then Some (FileFault.TooMany what number) else None) rest ≡ None → (number ≤ most) × (rest ≡ None)
    go true is h = cc
    go false is h = (grind (arith, nat_tests), h)

-- Numbers and lengths within their limits.
pub record AreFew (fields : HeadFields) : Type 0 where
  pub groups : fields.groups ≤ most_groups
  pub pots : fields.pots ≤ most_pots
  pub teams : length fields.teams ≤ most_teams
  pub limits : length fields.limits ≤ most_limits
  pub pairs : length fields.pairs ≤ most_pairs
  pub places : length fields.places ≤ most_places

pub are_few : (fields : HeadFields) → too_many_fault fields ≡ None → AreFew fields
are_few fields e =
    let g = within_limit most_groups fields.groups Field.Groups _ e in
    let n = within_limit most_pots fields.pots Field.Pots _ g.1 in
    let t = within_limit most_teams (length fields.teams) Field.Teams _ n.1 in
    let l = within_limit most_limits (length fields.limits) Field.Limits _ t.1 in
    let p = within_limit most_pairs (length fields.pairs) Field.Pairs _ l.1 in
    let q = within_limit most_places (length fields.places) Field.Places None (rw p.1 refl) in
    record { groups = g.0; pots = n.0; teams = t.0; limits = l.0; pairs = p.0; places = q.0 }

-- so a head that was read has no more pairs and places than it may have
pub few_pairs : (head : Head) → IsReadHead head → length head.pairs ≤ most_pairs
few_pairs head read =
    let p = parts read.0 head read.1 in
    rw (← p.3.whole) (are_few p.1 p.3.few).pairs

pub few_places : (head : Head) → IsReadHead head → length head.places ≤ most_places
few_places head read =
    let p = parts read.0 head read.1 in
    rw (← p.3.whole) (are_few p.1 p.3.few).places

-- ---- the pots of the teams

-- a pot that was read is one of the head's
small_pot : (pots pot : ℕ) (value : Option ℕ) → option_and_then (λ n. where_true (nat_le 1 n && nat_le n pots) n) value ≡ Some pot → pot ≤ pots
small_pot pots pot None e = cc
small_pot pots pot (Some n) e = go (nat_le 1 n) (nat_le n pots) refl e
  where
    go : (a b : Bool) → nat_le n pots ≡ b → where_true (a && b) n ≡ Some pot → pot ≤ pots
    go true true is h = let same : n ≡ pot = cc in let le : n ≤ pots = grind (arith, nat_tests) in subst (λ m. m ≤ pots) same le
    go true false is h = cc
    go false b is h = cc

-- the pot of a team that was read
pot_kept : (code : Option (List ℕ)) (name : Option (Option (List ℕ))) (pot : Option ℕ) (tags : Option (List (List ℕ))) (letter : Option (Option ℕ)) (f : TeamFields)
    → after (or_wrong code Field.Code) (λ c. after (or_wrong name Field.Name) (λ n. after (or_wrong pot Field.Pot) (λ p. after (or_wrong tags Field.Tags) (λ t. after (or_wrong letter Field.Group) (λ l.
    Ok (record { code = c; name = n; pot = p; tags = t; group_letter = l })))))) ≡ Ok f
    → pot ≡ Some f.pot
pot_kept None name pot tags letter f e = cc
pot_kept (Some c) None pot tags letter f e = cc
pot_kept (Some c) (Some n) None tags letter f e = cc
pot_kept (Some c) (Some n) (Some p) None letter f e = cc
pot_kept (Some c) (Some n) (Some p) (Some t) None f e = cc
pot_kept (Some c) (Some n) (Some p) (Some t) (Some l) f e = cc

pot_within : (kind : Kind) (pots : ℕ) (d : Data) (f : TeamFields) → team_fields kind pots d ≡ Ok f → f.pot ≤ pots
pot_within kind pots d f e =
    small_pot pots f.pot (number_in (codes "pot") d) (pot_kept (text_in (codes "code") d) (name_in d) (pot_in pots d) (tags_in (codes "tags") d) (letter_in kind d) f e)

-- where there are no more than so many pots, no team is in a later one
pots_within : (kind : Kind) (pots most : ℕ) (ds : List Data) (fs : List TeamFields) → pots ≤ most → all_team_fields kind pots ds ≡ Ok fs → All (λ f. f.pot ≤ most) fs
pots_within kind pots most [] fs few e = let none : fs ≡ [] = cc in rw none (All-nil (λ (f : TeamFields). f.pot ≤ most))
pots_within kind pots most (d ∷ ds) fs few e =
    let first = gave (team_fields kind pots d) _ fs e in
    let rest = gave (all_team_fields kind pots ds) _ fs first.2 in
    let all : fs ≡ first.0 ∷ rest.0 = cc in
    let pot = pot_within kind pots d first.0 first.1 in
    rw all (All-cons (λ (f : TeamFields). f.pot ≤ most) first.0 rest.0 (omega (arith, pot, few)) (pots_within kind pots most ds rest.0 few rest.1))

pub few_pots : (kind : Kind) (d : Data) (fields : HeadFields) → head_fields kind d ≡ Ok fields → fields.pots ≤ most_pots → All (λ f. f.pot ≤ most_pots) fields.teams
few_pots kind d fields e few =
    let read = field_parts kind d fields e in
    pots_within kind fields.pots most_pots read.0 fields.teams few read.1.teams_are

-- ---- the whole

-- A value that passed each step is that head.
pub reads : (d : Data) (kind : Kind) (fields : HeadFields) (teams : List Team)
    → object_fault d ≡ None → kind_of d ≡ Ok kind → missing_fault kind d ≡ None → head_fields kind d ≡ Ok fields → too_many_fault fields ≡ None
    → teams_of fields.teams ≡ Ok teams → pot_size_fault kind fields.groups fields.pots teams ≡ None
    → head_of d ≡ Ok (head_with kind fields teams)
reads d kind fields teams object named missing are few made sizes =
    let t = gave (teams_from 0 fields.teams) _ teams made in
    let s = passed (same_code_fault t.0) _ teams t.2 in
    let same : t.0 ≡ teams = cc in
    let distinct : same_code_fault teams ≡ None = rw (← same) s.0 in
    let teams_are : teams_from 0 fields.teams ≡ Ok teams = rw (← same) t.1 in
    rw object (rw named (rw missing (rw are (rw few (rw teams_are (rw distinct (rw sizes refl)))))))
