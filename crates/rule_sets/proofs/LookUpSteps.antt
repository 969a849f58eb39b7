-- What is looked up in a head, one item at a time.
use Rattle.std.proofs.Common.{◌≡◌, ℕ, zero, suc, ◌+◌, ◌<◌, true, false, List, [], ◌∷◌, ◌++◌, map, length, take, drop, get_or, slice_get, refl, Some, None, Ok, arith}
use Rattle.std.proofs.lemmas.List.{take_more, map-append}
use Rattle.team_files.specs.declared.fault.FileFault.{FileFault}
use Rattle.team_files.specs.declared.head_limit.HeadLimit.{HeadLimit}
use Rattle.team_files.specs.declared.kind.Kind.{Kind}
use Rattle.team_files.specs.declared.team.Team.{Team}
use Rattle.team_files.specs.Heads.{Head}
use Rattle.rule_sets.specs.declared.limit.Limit.{Limit}
use Rattle.rule_sets.specs.declared.pair.Pair.{Pair}
use Rattle.rule_sets.specs.declared.place.Place.{Place}
use Rattle.rule_sets.specs.Files.{has_limits, unknown_tag_from, limit_of, pairs_from, places_behind, file_with, file_of}

-- ---- tags

next_team : (ts : List Team) (i : ℕ) (t : Team) → slice_get ts i ≡ Some t → drop i ts ≡ t ∷ drop (i + 1) ts
next_team [] i t e = cc
next_team (x ∷ ts) zero t e = cc
next_team (x ∷ ts) (suc i) t e = let n : suc i + 1 ≡ suc (i + 1) = omega arith in rw n (next_team ts i t e)

module _ (limits : List HeadLimit) (ts : List Team) (i : ℕ) (t : Team) (is : slice_get ts i ≡ Some t) where
  -- a team whose tags have limits
  pub tags_known : has_limits limits t ≡ true → unknown_tag_from limits (i + 1) (drop (i + 1) ts) ≡ unknown_tag_from limits i (drop i ts)
  tags_known known = rw (next_team ts i t is) (rw known refl)

  -- a team with another tag
  pub tags_unknown : has_limits limits t ≡ false → unknown_tag_from limits i (drop i ts) ≡ Some (FileFault.UnknownTag i)
  tags_unknown unknown = rw (next_team ts i t is) (rw unknown refl)

-- one limit more
pub limits_more : (limits : List HeadLimit) (i : ℕ) (l : HeadLimit) (tag : List ℕ) (old new : List Limit)
    → i < length limits → l ≡ get_or limits i l → tag ≡ l.tag → old ≡ map limit_of (take i limits) → new ≡ old ++ record { tag = tag; lo = l.lo; hi = l.hi } ∷ []
    → new ≡ map limit_of (take (i + 1) limits)
limits_more limits i l tag old new within at same so_far added =
    rw (take_more limits i l within) (rw (← at) (rw (map-append limit_of (take i limits) (l ∷ [])) (rw (← so_far) (rw added (rw same refl)))))

-- ---- the file of a group draw's head

-- a head of which everything was found
pub all_found : (head : Head) (limits : List Limit) (pairs : List Pair) (places : List Place) → head.kind ≡ Kind.Group
    → unknown_tag_from head.limits 0 head.teams ≡ None → limits ≡ map limit_of head.limits → pairs_from head.teams 0 head.pairs ≡ Ok pairs → places_behind head [] head.places ≡ Ok places
    → file_of head ≡ Ok (file_with head limits pairs places)
all_found head limits pairs places kind tags copies p q = rw kind (rw tags (rw p (rw q (rw copies refl))))
