-- Reading a value as a head tells the first fault of the table.
use Rattle.std.proofs.Common.{◌≡◌, ℕ, zero, suc, ◌+◌, ◌<◌, ◌≤◌, ◌⊎◌, inl, inr, Bool, true, false, not, List, [], ◌∷◌, ◌++◌, length, map, slice_get, refl, sym, ap, subst, ◌∙◌, Option, Some, None, Result, Ok, Err, arith}
use Rattle.std.specs.Prelude.{◌==◌, nat_lt, bytes_eq, codes, if◌then◌else◌, position, is_none, unwrap_or, ok_or, option_map, option_and_then}
use Rattle.std.specs.Option.{option_or}
use Rattle.std.specs.Result.{result_err}
use Rattle.std.proofs.lemmas.Bool.{cases_order}
use Rattle.std.proofs.lemmas.Slice.Eq.{bytes_eq-Decides}
use Rattle.serde_json.specs.Data.{Data}
use Rattle.serde_json.specs.Find.{get, as_str}
use Rattle.team_files.specs.declared.kind.Kind.{Kind}
use Rattle.team_files.specs.declared.fault.Field.{Field}
use Rattle.team_files.specs.declared.fault.FileFault.{FileFault}
use Rattle.team_files.specs.declared.fields.HeadFields.{HeadFields}
use Rattle.team_files.specs.declared.team.Team.{Team}
use Rattle.team_files.specs.declared.head_limit.HeadLimit.{HeadLimit}
use Rattle.team_files.specs.declared.head_place.HeadPlace.{HeadPlace}
use Rattle.team_files.specs.Characters.{is_code}
use Rattle.team_files.specs.Answers.{after, unless}
use Rattle.team_files.specs.Kinds.{kind_text, kind_named, is_not_built}
use Rattle.team_files.specs.Members.{lacks, is_object, text_in, list_in, positive_in, letter_of}
use Rattle.team_files.specs.Heads.{Head, object_fault, fault_of_name, kind_of_text, kind_of, missing_if, missing_in_head, missing_letter, missing_in_team, missing_in_limit, missing_in_place, missing_in_each, missing_in_list, missing_in_more, missing_fault, or_wrong, groups_in, pots_in, objects_in, read_behind, list_read, new_tag_in, lo_in, hi_in, limit_fields, limits_in, pairs_in, place_fields, places_in, head_fields, too_many_if, too_many_of, too_many_fault, most_groups, most_pots, most_teams, most_limits, most_pairs, most_places, teams_from, same_code_fault, pot_size, first_uneven, pot_size_fault, head_with, head_of}
use Rattle.team_files.specs.Codes.{codes_of, IsFirstRepeat}
use Rattle.team_files.specs.Faults.{team_values, limit_values, pair_values, place_values, kind_at, groups_at, pots_at, codes_in, team_pots, wrong_if, wrong_in_team, wrong_in_teams, wrong_fault, pot_size_of, size_of_pot, HasPotSizeBy, Holds, order_of, IsFirstFault, TellsFirstFault}
use Rattle.team_files.proofs.CodeLaws.{FirstRepeatTold, first_told, told_back}
use Rattle.team_files.proofs.FaultSteps.{MembersTold, FieldsTold, fields_told, CodesTold, codes_told, counted}
use Rattle.team_files.proofs.UnevenPots.{same_sizes, uneven_told, uneven_is_pot, uneven_back}

-- ---- the table as a list: at place n the fault of number n + 2, where it holds

-- teams of which only the codes are known
abbrev only_codes : List (List ℕ) → List Team
only_codes [] = []
only_codes (c ∷ cs) = record { code = c; name = []; pot = 0; tags = []; group_letter = None } ∷ only_codes cs

codes_only : (cs : List (List ℕ)) → codes_of (only_codes cs) ≡ cs
codes_only [] = refl
codes_only (c ∷ cs) = ap (λ l. c ∷ l) (codes_only cs)

abbrev same_in : Data → Option FileFault
same_in d = same_code_fault (only_codes (codes_in d))

abbrev bad_in : Data → Option FileFault
bad_in d = option_map (λ place. FileFault.BadCode place) (position (λ c. not (is_code c)) (codes_in d))

abbrev many_in : Data → Option FileFault
many_in d =
    too_many_of (groups_at d) (pots_at d) (length (team_values d)) (length (limit_values d)) (length (pair_values d)) (length (place_values d))

abbrev kind_in : Data → Option FileFault
kind_in d = result_err (kind_of d)

abbrev missing_at : Data → Option FileFault
missing_at d = missing_fault (kind_at d) d

abbrev wrong_at : Data → Option FileFault
wrong_at d = wrong_fault (kind_at d) d

abbrev sizes_by : Kind → Data → Option FileFault
sizes_by Kind.Group d = first_uneven (λ pot. size_of_pot pot d) (groups_at d) 1 (pots_at d)
sizes_by Kind.Pairing d = pot_size_of (size_of_pot 1 d) (size_of_pot 2 d)

abbrev sizes_in : Data → Option FileFault
sizes_in d = sizes_by (kind_at d) d

abbrev table : Data → List (Option FileFault)
table d = object_fault d ∷ kind_in d ∷ missing_at d ∷ wrong_at d ∷ many_in d ∷ bad_in d ∷ same_in d ∷ sizes_in d ∷ []

abbrev first_of : List (Option FileFault) → Option FileFault
first_of [] = None
first_of (o ∷ os) = option_or o (first_of os)

-- ---- head_of goes through the table

same_codes : (ts us : List Team) → codes_of ts ≡ codes_of us → same_code_fault ts ≡ same_code_fault us
same_codes ts us e = go (same_code_fault ts) (same_code_fault us) refl refl
  where
    over : (a b : List Team) (f : FileFault) → codes_of a ≡ codes_of b → same_code_fault a ≡ Some f → same_code_fault b ≡ Some f
    over a b f is h =
        let t = first_told a f h in
        told_back b f (t.0, t.1, t.2, subst (λ cs. IsFirstRepeat cs t.0 t.1) is t.3)

    go : (r s : Option FileFault) → same_code_fault ts ≡ r → same_code_fault us ≡ s → same_code_fault ts ≡ same_code_fault us
    go None None p q = p ∙ sym q
    go (Some f) s p q = p ∙ sym (over ts us f e p)
    go None (Some f) p q = over us ts f (sym e) q ∙ sym q

past : {A : Type 0} (o : Option FileFault) (rest : Result A FileFault) (os : Option FileFault) → result_err rest ≡ os → result_err (unless o rest) ≡ option_or o os
past None rest os h = h
past (Some f) rest os h = refl

sizes_are : (kind : Kind) (d : Data) (ts : List Team) → map (λ t. t.pot) ts ≡ team_pots d → pot_size_fault kind (groups_at d) (pots_at d) ts ≡ sizes_by kind d
sizes_are Kind.Group d ts e = same_sizes (λ pot. pot_size pot ts) (λ pot. size_of_pot pot d) (groups_at d) 1 (pots_at d) (λ pot. rw (← e) (counted pot ts))
sizes_are Kind.Pairing d ts e =
    let one : pot_size 1 ts ≡ size_of_pot 1 d = rw (← e) (counted 1 ts) in
    let two : pot_size 2 ts ≡ size_of_pot 2 d = rw (← e) (counted 2 ts) in
    rw (← one) (rw (← two) refl)

-- The steps of reading a head, from the last ones to the whole.
module _ (d : Data) where
  last : (fields : HeadFields) (ts : List Team) → MembersTold d fields → codes_of ts ≡ codes_in d → map (λ t. t.pot) ts ≡ team_pots d
      → result_err (unless (same_code_fault ts) (unless (pot_size_fault (kind_at d) fields.groups fields.pots ts) (Ok (head_with (kind_at d) fields ts)))) ≡ first_of (same_in d ∷ sizes_in d ∷ [])
  last fields ts told e p =
      let same : same_code_fault ts ≡ same_in d = same_codes ts (only_codes (codes_in d)) (e ∙ sym (codes_only (codes_in d))) in
      let sizes : pot_size_fault (kind_at d) fields.groups fields.pots ts ≡ sizes_in d = rw told.groups (rw told.pots (sizes_are (kind_at d) d ts p)) in
      rw (← same) (rw (← sizes) (past (same_code_fault ts) _ _ (past (pot_size_fault (kind_at d) fields.groups fields.pots ts) _ _ refl)))

  with_codes : (fields : HeadFields) (r : Result (List Team) FileFault)
      → MembersTold d fields → CodesTold r (bad_in d) fields.teams
      → result_err (after r (λ teams. unless (same_code_fault teams) (unless (pot_size_fault (kind_at d) fields.groups fields.pots teams) (Ok (head_with (kind_at d) fields teams))))) ≡ first_of (bad_in d ∷ same_in d ∷ sizes_in d ∷ [])
  with_codes fields (Err g) told h = rw h refl
  with_codes fields (Ok ts) told h = rw h.0 (last fields ts told (h.1 ∙ told.codes) (h.2 ∙ told.team_pots))

  with_fields : (r : Result HeadFields FileFault) → FieldsTold r (wrong_at d) d
      → result_err (after r (λ fields. unless (too_many_fault fields) (after (teams_from 0 fields.teams) (λ teams. unless (same_code_fault teams) (unless (pot_size_fault (kind_at d) fields.groups fields.pots teams) (Ok (head_with (kind_at d) fields teams)))))))
      ≡ first_of (wrong_at d ∷ many_in d ∷ bad_in d ∷ same_in d ∷ sizes_in d ∷ [])
  with_fields (Err g) h = rw h refl
  with_fields (Ok fields) h =
      let told = h.1 in
      let many : too_many_fault fields ≡ many_in d =
      rw (← told.groups) (rw (← told.pots) (rw (← told.teams) (rw (← told.limits) (rw (← told.pairs) (rw (← told.places) refl))))) in
      let codes : CodesTold (teams_from 0 fields.teams) (bad_in d) fields.teams = rw (← told.codes) (codes_told fields.teams) in
      rw h.0 (rw (← many) (past (too_many_fault fields) _ _ (with_codes fields (teams_from 0 fields.teams) told codes)))

  -- the kind that is read is the one that the value names
  pub kind_read : (kind : Kind) → kind_of d ≡ Ok kind → kind_at d ≡ kind
  kind_read kind e = go (lacks (codes "kind") d) e
    where
      named : (text : List ℕ) (o : Option Kind) → ok_or o (fault_of_name text) ≡ Ok kind → unwrap_or o Kind.Pairing ≡ kind
      named text None h = cc
      named text (Some k) h = cc

      texts : (o : Option (List ℕ)) → kind_of_text o ≡ Ok kind → unwrap_or (option_and_then kind_named o) Kind.Pairing ≡ kind
      texts None h = cc
      texts (Some text) h = named text (kind_named text) h

      go : (b : Bool) → (if b then Err (FileFault.FieldMissing Field.Kind) else kind_of_text (text_in (codes "kind") d)) ≡ Ok kind → kind_at d ≡ kind
      go true h = cc
      go false h = texts (text_in (codes "kind") d) h

  -- what follows the kind
  abbrev of_kind : Kind → Result Head FileFault
  of_kind kind =
      unless (missing_fault kind d) (after (head_fields kind d) (λ fields. unless (too_many_fault fields) (after (teams_from 0 fields.teams) (λ teams.
      unless (same_code_fault teams) (unless (pot_size_fault kind fields.groups fields.pots teams) (Ok (head_with kind fields teams)))))))

  with_kind : (r : Result Kind FileFault) → kind_of d ≡ r
      → result_err (after r (λ kind. of_kind kind)) ≡ first_of (result_err r ∷ missing_at d ∷ wrong_at d ∷ many_in d ∷ bad_in d ∷ same_in d ∷ sizes_in d ∷ [])
  with_kind (Err g) e = refl
  with_kind (Ok kind) e = rw (← kind_read kind e) (past (missing_at d) _ _ (with_fields (head_fields (kind_at d) d) (fields_told d)))

goes_through : (d : Data) → result_err (head_of d) ≡ first_of (table d)
goes_through d = past (object_fault d) _ _ (with_kind d (kind_of d) refl)

-- ---- each entry of the table is the fact of its fault

-- the walk of absent members names no kind
abbrev NamesAbsent : FileFault → Type 0
NamesAbsent (FileFault.FieldMissing Field.Kind) = ⊥
NamesAbsent (FileFault.FieldMissing member) = Unit {0}
NamesAbsent _ = ⊥

abbrev NamesWrong : FileFault → Type 0
NamesWrong (FileFault.FieldWrong Field.Kind) = ⊥
NamesWrong (FileFault.FieldWrong member) = Unit {0}
NamesWrong _ = ⊥

-- each fault that may be told has the property
abbrev Only : (FileFault → Type 0) → Option FileFault → Type 0
Only P None = Unit {0}
Only P (Some f) = P f

either : (P : FileFault → Type 0) (o p : Option FileFault) → Only P o → Only P p → Only P (option_or o p)
either P None p h k = k
either P (Some f) p h k = h

only : (P : FileFault → Type 0) (o : Option FileFault) (f : FileFault) → Only P o → o ≡ Some f → P f
only P None f h e = cc
only P (Some g) f h e = let same : g ≡ f = cc in subst P same h

absent : (b : Bool) (member : Field) → NamesAbsent (FileFault.FieldMissing member) → Only NamesAbsent (missing_if b member)
absent true member h = h
absent false member h = tt

-- what a kind asks for names no kind
absent_letter : (kind : Kind) (d : Data) → Only NamesAbsent (missing_letter kind d)
absent_letter Kind.Group d = tt
absent_letter Kind.Pairing d = absent (lacks (codes "group") d) Field.Group tt

absent_of_head : (kind : Kind) (d : Data) → Only NamesAbsent (missing_in_head kind d)
absent_of_head Kind.Group d =
    either NamesAbsent _ _ (absent (lacks (codes "groups") d) Field.Groups tt)
    (either NamesAbsent _ _ (absent (lacks (codes "pots") d) Field.Pots tt) (absent (lacks (codes "teams") d) Field.Teams tt))
absent_of_head Kind.Pairing d = absent (lacks (codes "teams") d) Field.Teams tt

absent_in_team : (kind : Kind) (d : Data) → Only NamesAbsent (missing_in_team kind d)
absent_in_team kind d = go (not (is_object d))
  where
    go : (b : Bool) → Only NamesAbsent (if b then None else
        option_or (missing_if (lacks (codes "code") d) Field.Code) (option_or (missing_if (lacks (codes "pot") d) Field.Pot) (option_or (missing_if (lacks (codes "tags") d) Field.Tags) (missing_letter kind d))))
    go true = tt
    go false =
        either NamesAbsent _ _ (absent (lacks (codes "code") d) Field.Code tt)
        (either NamesAbsent _ _ (absent (lacks (codes "pot") d) Field.Pot tt)
        (either NamesAbsent _ _ (absent (lacks (codes "tags") d) Field.Tags tt) (absent_letter kind d)))

absent_in_limit : (d : Data) → Only NamesAbsent (missing_in_limit d)
absent_in_limit d = go (not (is_object d))
  where
    go : (b : Bool) → Only NamesAbsent (if b then None else option_or (missing_if (lacks (codes "tag") d) Field.Tag) (option_or (missing_if (lacks (codes "lo") d) Field.Lo) (missing_if (lacks (codes "hi") d) Field.Hi)))
    go true = tt
    go false =
        either NamesAbsent _ _ (absent (lacks (codes "tag") d) Field.Tag tt)
        (either NamesAbsent _ _ (absent (lacks (codes "lo") d) Field.Lo tt) (absent (lacks (codes "hi") d) Field.Hi tt))

absent_in_place : (d : Data) → Only NamesAbsent (missing_in_place d)
absent_in_place d = go (not (is_object d))
  where
    go : (b : Bool) → Only NamesAbsent (if b then None else option_or (missing_if (lacks (codes "code") d) Field.Code) (option_or (missing_if (lacks (codes "group") d) Field.Group) (missing_if (lacks (codes "position") d) Field.Position)))
    go true = tt
    go false =
        either NamesAbsent _ _ (absent (lacks (codes "code") d) Field.Code tt)
        (either NamesAbsent _ _ (absent (lacks (codes "group") d) Field.Group tt) (absent (lacks (codes "position") d) Field.Position tt))

absent_in_each : (fault : Data → Option FileFault) → ((d : Data) → Only NamesAbsent (fault d)) → (ds : List Data) → Only NamesAbsent (missing_in_each fault ds)
absent_in_each fault one [] = tt
absent_in_each fault one (d ∷ ds) = either NamesAbsent (fault d) (missing_in_each fault ds) (one d) (absent_in_each fault one ds)

absent_in_list : (fault : Data → Option FileFault) → ((d : Data) → Only NamesAbsent (fault d)) → (l : Option (List Data)) → Only NamesAbsent (missing_in_list fault l)
absent_in_list fault one None = tt
absent_in_list fault one (Some ds) = absent_in_each fault one ds

absent_in_more : (kind : Kind) (d : Data) → Only NamesAbsent (missing_in_more kind d)
absent_in_more Kind.Group d =
    either NamesAbsent _ _ (absent_in_list missing_in_limit absent_in_limit (list_in (codes "limits") d)) (absent_in_list missing_in_place absent_in_place (list_in (codes "places") d))
absent_in_more Kind.Pairing d = tt

absent_in_head : (kind : Kind) (d : Data) → Only NamesAbsent (missing_fault kind d)
absent_in_head kind d =
    either NamesAbsent (missing_in_head kind d) _ (absent_of_head kind d)
    (either NamesAbsent _ _ (absent_in_list (missing_in_team kind) (absent_in_team kind) (list_in (codes "teams") d)) (absent_in_more kind d))

wrong_team : (a b c e g : Bool) → Only NamesWrong (option_or (wrong_if a Field.Code) (option_or (wrong_if b Field.Name) (option_or (wrong_if c Field.Pot) (option_or (wrong_if e Field.Tags) (wrong_if g Field.Group)))))
wrong_team true b c e g = tt
wrong_team false true c e g = tt
wrong_team false false true e g = tt
wrong_team false false false true g = tt
wrong_team false false false false true = tt
wrong_team false false false false false = tt

wrong_teams : (kind : Kind) (pots : ℕ) (ds : List Data) → Only NamesWrong (wrong_in_teams kind pots ds)
wrong_teams kind pots [] = tt
wrong_teams kind pots (d ∷ ds) = either NamesWrong (wrong_in_team kind pots d) (wrong_in_teams kind pots ds) (wrong_team _ _ _ _ _) (wrong_teams kind pots ds)

-- a step whose faults, and those behind it, have the property
wrong_after : {A B : Type 0} (r : Result A FileFault) (next : A → Result B FileFault) → Only NamesWrong (result_err r) → ((a : A) → Only NamesWrong (result_err (next a))) → Only NamesWrong (result_err (after r next))
wrong_after (Ok a) next h k = k a
wrong_after (Err g) next h k = h

wrong_field : {A : Type 0} (value : Option A) (member : Field) → NamesWrong (FileFault.FieldWrong member) → Only NamesWrong (result_err (or_wrong value member))
wrong_field None member h = h
wrong_field (Some a) member h = tt

wrong_behind : {A : Type 0} (read : List A → Data → Result A FileFault) → ((earlier : List A) (d : Data) → Only NamesWrong (result_err (read earlier d)))
    → (earlier : List A) (ds : List Data) → Only NamesWrong (result_err (read_behind read earlier ds))
wrong_behind read one earlier [] = tt
wrong_behind read one earlier (d ∷ ds) = wrong_after (read earlier d) _ (one earlier d) (λ a. wrong_behind read one (earlier ++ a ∷ []) ds)

wrong_list : {A : Type 0} (name : List ℕ) (member : Field) (read : List A → Data → Result A FileFault) (d : Data) → NamesWrong (FileFault.FieldWrong member)
    → ((earlier : List A) (x : Data) → Only NamesWrong (result_err (read earlier x))) → Only NamesWrong (result_err (list_read name member read d))
wrong_list name member read d h one = go (lacks name d)
  where
    go : (b : Bool) → Only NamesWrong (result_err (if b then Ok [] else after (or_wrong (objects_in name d) member) (read_behind read [])))
    go true = tt
    go false = wrong_after (or_wrong (objects_in name d) member) _ (wrong_field (objects_in name d) member h) (λ ds. wrong_behind read one [] ds)

wrong_limit : (earlier : List HeadLimit) (d : Data) → Only NamesWrong (result_err (limit_fields earlier d))
wrong_limit earlier d =
    wrong_after (or_wrong (new_tag_in earlier d) Field.Tag) _ (wrong_field (new_tag_in earlier d) Field.Tag tt)
    (λ tag. wrong_after (or_wrong (lo_in d) Field.Lo) _ (wrong_field (lo_in d) Field.Lo tt)
    (λ lo. wrong_after (or_wrong (hi_in lo d) Field.Hi) _ (wrong_field (hi_in lo d) Field.Hi tt) (λ hi. tt)))

wrong_place : (earlier : List HeadPlace) (d : Data) → Only NamesWrong (result_err (place_fields earlier d))
wrong_place earlier d =
    wrong_after (or_wrong (text_in (codes "code") d) Field.Code) _ (wrong_field (text_in (codes "code") d) Field.Code tt)
    (λ code. wrong_after (or_wrong (option_and_then letter_of (text_in (codes "group") d)) Field.Group) _ (wrong_field (option_and_then letter_of (text_in (codes "group") d)) Field.Group tt)
    (λ group. wrong_after (or_wrong (positive_in (codes "position") d) Field.Position) _ (wrong_field (positive_in (codes "position") d) Field.Position tt) (λ position. tt)))

wrong_limits : (kind : Kind) (d : Data) → Only NamesWrong (result_err (limits_in kind d))
wrong_limits Kind.Group d = wrong_list (codes "limits") Field.Limits limit_fields d tt wrong_limit
wrong_limits Kind.Pairing d = tt

wrong_places : (kind : Kind) (d : Data) → Only NamesWrong (result_err (places_in kind d))
wrong_places Kind.Group d = wrong_list (codes "places") Field.Places place_fields d tt wrong_place
wrong_places Kind.Pairing d = tt

-- a wrong member that is no kind, or what stands behind it
wrong_or : (b : Bool) (member : Field) (rest : Option FileFault) → NamesWrong (FileFault.FieldWrong member) → Only NamesWrong rest → Only NamesWrong (option_or (wrong_if b member) rest)
wrong_or true member rest h k = h
wrong_or false member rest h k = k

wrong_in_head : (kind : Kind) (d : Data) → Only NamesWrong (wrong_fault kind d)
wrong_in_head kind d =
    wrong_or (is_none (groups_in kind d)) Field.Groups _ tt
    (wrong_or (is_none (pots_in kind d)) Field.Pots _ tt
    (wrong_or (is_none (objects_in (codes "teams") d)) Field.Teams _ tt
    (either NamesWrong (wrong_in_teams kind (pots_at d) (team_values d)) _ (wrong_teams kind (pots_at d) (team_values d))
    (either NamesWrong (result_err (limits_in kind d)) _ (wrong_limits kind d)
    (wrong_or (is_none (pairs_in d)) Field.Pairs (result_err (places_in kind d)) tt (wrong_places kind d))))))

-- what stands at a place of the table
abbrev Meant : Data → ℕ → FileFault → Type 0
Meant d k f = Holds d f × (order_of f ≡ k + 2)

absent_meant : (d : Data) (f : FileFault) → NamesAbsent f → missing_at d ≡ Some f → Meant d 2 f
absent_meant d (FileFault.FieldMissing Field.Kind) n e = absurd n
absent_meant d (FileFault.FieldMissing member) n e = (e, refl)
absent_meant d _ n e = absurd n

wrong_meant : (d : Data) (f : FileFault) → NamesWrong f → wrong_at d ≡ Some f → Meant d 3 f
wrong_meant d (FileFault.FieldWrong Field.Kind) n e = absurd n
wrong_meant d (FileFault.FieldWrong member) n e = (e, refl)
wrong_meant d _ n e = absurd n

object_meant : (d : Data) (f : FileFault) → object_fault d ≡ Some f → Meant d 0 f
object_meant d f e = go (is_object d) refl e
  where
    go : (b : Bool) → is_object d ≡ b → (if b then None else Some FileFault.NotObject) ≡ Some f → Meant d 0 f
    go true is h = cc
    go false is h = let same : FileFault.NotObject ≡ f = cc in subst (Meant d 0) same (is, refl)

kind_meant : (d : Data) (f : FileFault) → kind_in d ≡ Some f → Meant d 1 f
kind_meant d f e = go (lacks (codes "kind") d) refl e
  where
    unknown : (text : List ℕ) (b : Bool) → text_in (codes "kind") d ≡ Some text → kind_named text ≡ None → is_not_built text ≡ b
        → Some (if b then FileFault.KindNotBuilt else FileFault.KindUnknown text) ≡ Some f → Meant d 1 f
    unknown text true t p q h = let same : FileFault.KindNotBuilt ≡ f = cc in subst (Meant d 1) same ((text, t, q), refl)
    unknown text false t p q h = let same : FileFault.KindUnknown text ≡ f = cc in subst (Meant d 1) same ((t, p, q), refl)

    named : (text : List ℕ) (o : Option Kind) → text_in (codes "kind") d ≡ Some text → kind_named text ≡ o → result_err (ok_or o (fault_of_name text)) ≡ Some f → Meant d 1 f
    named text (Some kind) t p h = cc
    named text None t p h = unknown text (is_not_built text) t p refl h

    texts : (o : Option (List ℕ)) → lacks (codes "kind") d ≡ false → text_in (codes "kind") d ≡ o → result_err (kind_of_text o) ≡ Some f → Meant d 1 f
    texts None is t h = let same : FileFault.FieldWrong Field.Kind ≡ f = cc in subst (Meant d 1) same ((is, t), refl)
    texts (Some text) is t h = named text (kind_named text) t refl h

    go : (b : Bool) → lacks (codes "kind") d ≡ b → result_err (if b then Err (FileFault.FieldMissing Field.Kind) else kind_of_text (text_in (codes "kind") d)) ≡ Some f → Meant d 1 f
    go true is h = let same : FileFault.FieldMissing Field.Kind ≡ f = cc in subst (Meant d 1) same (is, refl)
    go false is h = texts (text_in (codes "kind") d) is refl h

-- what is past its limit is told with its number
abbrev IsTooMany : FileFault → Type 0
IsTooMany f = (what : Field) × (number : ℕ) × (FileFault.TooMany what number ≡ f)

many_if : (most : ℕ) (what : Field) (number : ℕ) → Only IsTooMany (too_many_if most what number)
many_if most what number = go (nat_lt most number)
  where
    go : (b : Bool) → Only IsTooMany (if b then Some (FileFault.TooMany what number) else None)
    go true = (what, number, refl)
    go false = tt

many_told : (d : Data) → Only IsTooMany (many_in d)
many_told d =
    either IsTooMany _ _ (many_if most_groups Field.Groups (groups_at d))
    (either IsTooMany _ _ (many_if most_pots Field.Pots (pots_at d))
    (either IsTooMany _ _ (many_if most_teams Field.Teams (length (team_values d)))
    (either IsTooMany _ _ (many_if most_limits Field.Limits (length (limit_values d)))
    (either IsTooMany _ _ (many_if most_pairs Field.Pairs (length (pair_values d))) (many_if most_places Field.Places (length (place_values d)))))))

many_meant : (d : Data) (f : FileFault) → many_in d ≡ Some f → Meant d 4 f
many_meant d f e =
    let told = only IsTooMany (many_in d) f (many_told d) e in
    subst (Meant d 4) told.2 (e ∙ ap (λ x. Some x) (sym told.2), refl)

bad_meant : (d : Data) (f : FileFault) → bad_in d ≡ Some f → Meant d 5 f
bad_meant d f e = go (position (λ c. not (is_code c)) (codes_in d)) refl e
  where
    go : (o : Option ℕ) → position (λ c. not (is_code c)) (codes_in d) ≡ o → option_map (λ place. FileFault.BadCode place) o ≡ Some f → Meant d 5 f
    go None is h = cc
    go (Some place) is h = let same : FileFault.BadCode place ≡ f = cc in subst (Meant d 5) same (is, refl)

same_meant : (d : Data) (f : FileFault) → same_in d ≡ Some f → Meant d 6 f
same_meant d f e =
    let t = first_told (only_codes (codes_in d)) f e in
    subst (Meant d 6) (sym t.2) ((t.0, subst (λ cs. IsFirstRepeat cs t.0 t.1) (codes_only (codes_in d)) t.3), refl)

-- what is wrong with the pots is told of a pot
abbrev IsPotSize : FileFault → Type 0
IsPotSize f = (pot : ℕ) × (number : ℕ) × (FileFault.PotSize pot number ≡ f)

sizes_told : (kind : Kind) (d : Data) (f : FileFault) → sizes_by kind d ≡ Some f → IsPotSize f
sizes_told Kind.Group d f e = uneven_is_pot (λ pot. size_of_pot pot d) (groups_at d) 1 (pots_at d) f e
sizes_told Kind.Pairing d f e = go (size_of_pot 1 d == 0) (size_of_pot 2 d == size_of_pot 1 d) e
  where
    go : (a b : Bool) → (if a then Some (FileFault.PotSize 1 0) else (if b then None else Some (FileFault.PotSize 2 (size_of_pot 2 d)))) ≡ Some f → IsPotSize f
    go true b h = (1, 0, cc)
    go false true h = cc
    go false false h = (2, size_of_pot 2 d, cc)

-- the first uneven pot, as the table has it and as it is told
sizes_hold : (kind : Kind) (d : Data) (pot number : ℕ) → sizes_by kind d ≡ Some (FileFault.PotSize pot number) → HasPotSizeBy kind d pot number
sizes_hold Kind.Group d pot number e =
    let u = uneven_told (λ p. size_of_pot p d) (groups_at d) 1 (pots_at d) pot number e in
    let high = u.high in
    record { is_pot = (u.low, omega (arith, high)); size = u.number_is; uneven = u.uneven; first = u.first }
sizes_hold Kind.Pairing d pot number e = e

sizes_back : (kind : Kind) (d : Data) (pot number : ℕ) → HasPotSizeBy kind d pot number → sizes_by kind d ≡ Some (FileFault.PotSize pot number)
sizes_back Kind.Group d pot number h =
    let most = h.is_pot.1 in
    uneven_back (λ p. size_of_pot p d) (groups_at d) 1 (pots_at d) pot number (record { low = h.is_pot.0; high = omega (arith, most); number_is = h.size; uneven = h.uneven; first = h.first })
sizes_back Kind.Pairing d pot number h = h

sizes_meant : (d : Data) (f : FileFault) → sizes_in d ≡ Some f → Meant d 7 f
sizes_meant d f e =
    let told = sizes_told (kind_at d) d f e in
    let here : sizes_in d ≡ Some (FileFault.PotSize told.0 told.1) = e ∙ ap (λ x. Some x) (sym told.2) in
    subst (Meant d 7) told.2 (sizes_hold (kind_at d) d told.0 told.1 here, refl)

-- the entry at a place of a list
abbrev EntryAt : List (Option FileFault) → ℕ → FileFault → Type 0
EntryAt es k f = slice_get es k ≡ Some (Some f)

inside : (o : Option FileFault) (f : FileFault) → Some o ≡ Some (Some f) → o ≡ Some f
inside o f e = cc

meant : (d : Data) (k : ℕ) (f : FileFault) → EntryAt (table d) k f → Meant d k f
meant d zero f e = object_meant d f (inside (object_fault d) f e)
meant d (suc zero) f e = kind_meant d f (inside (kind_in d) f e)
meant d (suc (suc zero)) f e = let h = inside (missing_at d) f e in absent_meant d f (only NamesAbsent (missing_at d) f (absent_in_head (kind_at d) d) h) h
meant d (suc (suc (suc zero))) f e = let h = inside (wrong_at d) f e in wrong_meant d f (only NamesWrong (wrong_at d) f (wrong_in_head (kind_at d) d) h) h
meant d (suc (suc (suc (suc zero)))) f e = many_meant d f (inside (many_in d) f e)
meant d (suc (suc (suc (suc (suc zero))))) f e = bad_meant d f (inside (bad_in d) f e)
meant d (suc (suc (suc (suc (suc (suc zero)))))) f e = same_meant d f (inside (same_in d) f e)
meant d (suc (suc (suc (suc (suc (suc (suc zero))))))) f e = sizes_meant d f (inside (sizes_in d) f e)
meant d (suc (suc (suc (suc (suc (suc (suc (suc k)))))))) f e = cc

-- ---- each fault that holds stands in the table

abbrev Stands : Data → FileFault → Type 0
Stands d f = (k : ℕ) × EntryAt (table d) k f × (order_of f ≡ k + 2)

text_not_lacking : (d : Data) (text : List ℕ) → text_in (codes "kind") d ≡ Some text → lacks (codes "kind") d ≡ false
text_not_lacking d text e = go (get (codes "kind") d) e
  where
    go : (o : Option Data) → option_and_then as_str o ≡ Some text → is_none o ≡ false
    go None h = cc
    go (Some v) h = refl

-- a name of a kind that is not built is that of no kind
not_named : (text : List ℕ) → is_not_built text ≡ true → kind_named text ≡ None
not_named text e = go (bytes_eq text (kind_text Kind.Group)) (bytes_eq text (kind_text Kind.Pairing)) refl refl
  where
    go : (a b : Bool) → bytes_eq text (kind_text Kind.Group) ≡ a → bytes_eq text (kind_text Kind.Pairing) ≡ b
        → (if a then Some Kind.Group else (if b then Some Kind.Pairing else None)) ≡ None
    go false false is other = refl
    go true b is other =
        let same : text ≡ kind_text Kind.Group = (bytes_eq-Decides text (kind_text Kind.Group)).0 is in
        let built : is_not_built (kind_text Kind.Group) ≡ true = rw same at e in
        cc
    go false true is other =
        let same : text ≡ kind_text Kind.Pairing = (bytes_eq-Decides text (kind_text Kind.Pairing)).0 other in
        let built : is_not_built (kind_text Kind.Pairing) ≡ true = rw same at e in
        cc

kind_stands : (d : Data) (text : List ℕ) (f : FileFault) → text_in (codes "kind") d ≡ Some text → result_err (kind_of_text (Some text)) ≡ Some f → kind_in d ≡ Some f
kind_stands d text f t h = rw (text_not_lacking d text t) (rw t h)

stands_all : (d : Data) (f : FileFault) → Holds d f → Stands d f
stands_all d FileFault.NotJson h = absurd h
stands_all d FileFault.NotObject h = let e : object_fault d ≡ Some FileFault.NotObject = rw h refl in (0, ap (λ o. Some o) e, refl)
stands_all d (FileFault.KindUnknown text) h =
    let told : result_err (kind_of_text (Some text)) ≡ Some (FileFault.KindUnknown text) = rw h.1 (rw h.2 refl) in
    (1, ap (λ o. Some o) (kind_stands d text (FileFault.KindUnknown text) h.0 told), refl)
stands_all d (FileFault.FieldMissing Field.Kind) h = let e : kind_in d ≡ Some (FileFault.FieldMissing Field.Kind) = rw h refl in (1, ap (λ o. Some o) e, refl)
stands_all d (FileFault.FieldMissing member) h = (2, ap (λ o. Some o) h, refl)
stands_all d (FileFault.FieldWrong Field.Kind) h = let e : kind_in d ≡ Some (FileFault.FieldWrong Field.Kind) = rw h.0 (rw h.1 refl) in (1, ap (λ o. Some o) e, refl)
stands_all d (FileFault.FieldWrong member) h = (3, ap (λ o. Some o) h, refl)
stands_all d (FileFault.TooMany what number) h = (4, ap (λ o. Some o) h, refl)
stands_all d (FileFault.BadCode place) h =
    let e : bad_in d ≡ Some (FileFault.BadCode place) = ap (λ o. option_map (λ p. FileFault.BadCode p) o) h in
    (5, ap (λ o. Some o) e, refl)
stands_all d (FileFault.SameCode code) h =
    let t : FirstRepeatTold (only_codes (codes_in d)) (FileFault.SameCode code) = (h.0, code, refl, subst (λ cs. IsFirstRepeat cs h.0 code) (sym (codes_only (codes_in d))) h.1) in
    (6, ap (λ o. Some o) (told_back (only_codes (codes_in d)) (FileFault.SameCode code) t), refl)
stands_all d (FileFault.PotSize pot number) h = (7, ap (λ o. Some o) (sizes_back (kind_at d) d pot number h), refl)
stands_all d (FileFault.UnknownTag place) h = absurd h
stands_all d (FileFault.BadPair place) h = absurd h
stands_all d (FileFault.BadPlace place) h = absurd h
stands_all d FileFault.NoMemory h = absurd h
stands_all d FileFault.KindNotBuilt h =
    let told : result_err (kind_of_text (Some h.0)) ≡ Some FileFault.KindNotBuilt = rw (not_named h.0 h.2) (rw h.2 refl) in
    (1, ap (λ o. Some o) (kind_stands d h.0 FileFault.KindNotBuilt h.1 told), refl)

-- ---- the first entry

first_entry : (es : List (Option FileFault)) (f : FileFault) → first_of es ≡ Some f
    → (k : ℕ) × EntryAt es k f × ((j : ℕ) (g : FileFault) → j < k → ¬ EntryAt es j g)
first_entry [] f e = cc
first_entry (Some g ∷ es) f e = (zero, ap (λ o. Some o) e, λ j h lt at. omega (arith, lt))
first_entry (None ∷ es) f e = let r = first_entry es f e in (suc r.0, r.1, later r.0 r.2)
  where
    later : (k : ℕ) → ((j : ℕ) (g : FileFault) → j < k → ¬ EntryAt es j g) → (j : ℕ) (g : FileFault) → j < suc k → ¬ EntryAt (None ∷ es) j g
    later k rest zero g lt = λ at. cc
    later k rest (suc j) g lt = rest j g (omega arith)

no_entry : (es : List (Option FileFault)) → first_of es ≡ None → (k : ℕ) (f : FileFault) → ¬ EntryAt es k f
no_entry [] e k f = λ at. cc
no_entry (Some g ∷ es) e k f = λ at. cc
no_entry (None ∷ es) e zero f = λ at. cc
no_entry (None ∷ es) e (suc k) f = no_entry es e k f

told_first : (d : Data) (f : FileFault) → head_of d ≡ Err f → IsFirstFault d f
told_first d f e =
    let told : first_of (table d) ≡ Some f = sym (goes_through d) ∙ ap (λ r. result_err r) e in
    let t = first_entry (table d) f told in
    let m = meant d t.0 f t.1 in
    record { holds = m.0; first = λ other h. go t.0 t.2 m.1 other (stands_all d other h) }
  where
    go : (k : ℕ) → ((j : ℕ) (g : FileFault) → j < k → ¬ EntryAt (table d) j g) → order_of f ≡ k + 2 → (other : FileFault) → Stands d other → order_of f ≤ order_of other
    go k before is other s = by (cases_order s.0 k)
      where
        by : (s.0 ≡ k) ⊎ ((s.0 < k) ⊎ (k < s.0)) → order_of f ≤ order_of other
        by (inl same) = omega (arith, is, s.2, same)
        by (inr (inl less)) = absurd (before s.0 other less s.1)
        by (inr (inr more)) = omega (arith, is, s.2, more)

none_holds : (d : Data) (h : Head) → head_of d ≡ Ok h → (f : FileFault) → ¬ Holds d f
none_holds d h e f holds =
    let told : first_of (table d) ≡ None = sym (goes_through d) ∙ ap (λ r. result_err r) e in
    let s = stands_all d f holds in
    no_entry (table d) told s.0 f s.1

one_at : (d : Data) (f g : FileFault) → Stands d f → Stands d g → order_of f ≡ order_of g → f ≡ g
one_at d f g s t e =
    let place : s.0 ≡ t.0 = omega (arith, s.2, t.2, e) in
    let here : EntryAt (table d) t.0 f = subst (λ n. EntryAt (table d) n f) place s.1 in
    let there = t.1 in
    cc

first_is_told : (d : Data) (f : FileFault) → IsFirstFault d f → head_of d ≡ Err f
first_is_told d f h = go (head_of d) refl
  where
    go : (r : Result Head FileFault) → head_of d ≡ r → head_of d ≡ Err f
    go (Ok head) e = absurd (none_holds d head e f h.holds)
    go (Err g) e =
        let t = told_first d g e in
        let low = h.first g t.holds in
        let high = t.first f h.holds in
        let same : order_of f ≡ order_of g = omega (arith, low, high) in
        e ∙ ap (λ x. Err x) (sym (one_at d f g (stands_all d f h.holds) (stands_all d g t.holds) same))

-- the fault that is told is the first of the table
pub tells_first_fault : TellsFirstFault
tells_first_fault = record {
  fault = λ d f. ((λ e. told_first d f e), λ h. first_is_told d f h);
  head = λ d. ((λ h. none_holds d h.0 h.1), λ none. whole d none (head_of d) refl);
}
  where
    whole : (d : Data) → ((f : FileFault) → ¬ Holds d f) → (r : Result Head FileFault) → head_of d ≡ r → (head : Head) × (head_of d ≡ Ok head)
    whole d none (Ok head) e = (head, e)
    whole d none (Err f) e = absurd (none f (told_first d f e).holds)
