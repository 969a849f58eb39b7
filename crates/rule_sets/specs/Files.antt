-- Draw files: a head whose tags, forbidden pairs and fixed places are looked up.
use Rattle.std.specs.Prelude.{◌≡◌, ℕ, ◌+◌, ◌-◌, ◌==◌, ◌&&◌, ◌||◌, not, nat_le, nat_lt, if◌then◌else◌, Bool, List, [], ◌∷◌, ◌++◌, map, length, slice_get, Option, Some, None, unwrap_or, ok_or, option_map, option_and_then, Result, Ok, Err, ◌⊎◌}
use Rattle.std.specs.List.{list_all, list_any}
use Rattle.team_files.specs.declared.kind.Kind.{Kind}
use Rattle.team_files.specs.declared.fault.FileFault.{FileFault}
use Rattle.team_files.specs.declared.team.Team.{Team}
use Rattle.team_files.specs.declared.team_id.TeamId.{TeamId}
use Rattle.team_files.specs.declared.head_limit.HeadLimit.{HeadLimit}
use Rattle.team_files.specs.declared.head_pair.HeadPair.{HeadPair}
use Rattle.team_files.specs.declared.head_place.HeadPlace.{HeadPlace}
use Rattle.team_files.specs.Characters.{is_code}
use Rattle.team_files.specs.Teams.{find}
use Rattle.team_files.specs.Answers.{after, unless}
use Rattle.team_files.specs.Members.{where_true}
use Rattle.team_files.specs.Heads.{Head, IsReadHead, IsHead, IsHeadFault, has_limit}
use Rattle.rule_sets.specs.declared.limit.Limit.{Limit}
use Rattle.rule_sets.specs.declared.pair.Pair.{Pair}
use Rattle.rule_sets.specs.declared.place.Place.{Place}

-- A draw file as contracts see it.
pub record DrawFile : Type 0 where
  pub kind : Kind
  pub groups : ℕ
  pub pots : ℕ
  pub teams : List Team
  pub limits : List Limit
  pub pairs : List Pair
  pub places : List Place

-- ---- 10 UnknownTag: the first team of a group draw with a tag that no limit names

-- each tag of the team is that of a limit
abbrev pub has_limits : List HeadLimit → Team → Bool
has_limits limits team = list_all (has_limit limits) team.tags

-- of teams that are counted from i
abbrev pub unknown_tag_from : List HeadLimit → ℕ → List Team → Option FileFault
unknown_tag_from limits i [] = None
unknown_tag_from limits i (t ∷ ts) =
    if has_limits limits t then unknown_tag_from limits (i + 1) ts
    else Some (FileFault.UnknownTag i)

abbrev pub limit_of : HeadLimit → Limit
limit_of limit = record { tag = limit.tag; lo = limit.lo; hi = limit.hi }

-- the limits as the head has them; a pairing has none
abbrev pub limits_of : Kind → Head → Result (List Limit) FileFault
limits_of Kind.Group head =
    unless (unknown_tag_from head.limits 0 head.teams) (Ok (map limit_of head.limits))
limits_of Kind.Pairing head = Ok []

-- ---- 11 BadPair: the first pair with a text that is no team's code, or with one code twice

-- the team that a text names
abbrev pub team_named : List Team → List ℕ → Option TeamId
team_named teams text = option_and_then (λ code. find code teams) (where_true (is_code text) text)

-- two different teams
abbrev pub pair_at : ℕ → Option TeamId → Option TeamId → Result Pair FileFault
pair_at place None second = Err (FileFault.BadPair place)
pair_at place (Some a) None = Err (FileFault.BadPair place)
pair_at place (Some a) (Some b) =
    if a.0 == b.0 then Err (FileFault.BadPair place) else Ok (record { first = a; second = b })

abbrev pub pair_of : List Team → ℕ → HeadPair → Result Pair FileFault
pair_of teams place pair =
    pair_at place (team_named teams pair.first) (team_named teams pair.second)

-- the pairs, counted from i
abbrev pub pairs_from : List Team → ℕ → List HeadPair → Result (List Pair) FileFault
pairs_from teams i [] = Ok []
pairs_from teams i (p ∷ ps) =
    after (pair_of teams i p) (λ pair.
    after (pairs_from teams (i + 1) ps) (λ pairs. Ok (pair ∷ pairs)))

-- ---- 12 BadPlace: the first place of a group draw that its team can't take, or that is taken twice

-- the group with the letter, counted from 0 (A)
abbrev pub group_of_letter : ℕ → ℕ
group_of_letter letter = letter - 65

-- the pot of a team
abbrev pub pot_of : List Team → TeamId → ℕ
pot_of teams team = unwrap_or (option_map (λ t. t.pot) (slice_get teams team.0)) 0

-- position 1 is for the teams of pot 1, and each other one for the other teams
abbrev pub is_position_for : ℕ → ℕ → Bool
is_position_for pot position = if pot == 1 then position == 1 else not (position == 1)

-- the places have the team, or the group and position
abbrev pub is_taken : List Place → Place → Bool
is_taken places place =
    list_any (λ p. (p.team.0 == place.team.0)
    || ((p.group == place.group) && (p.position == place.position))) places

-- the team can take the place, behind the earlier ones
abbrev pub can_take : Head → List Place → Place → Bool
can_take head earlier place =
    (nat_lt place.group head.groups && nat_le place.position head.pots)
    && (is_position_for (pot_of head.teams place.team) place.position
    && not (is_taken earlier place))

-- one place behind the earlier ones
abbrev pub place_of : Head → List Place → HeadPlace → Option Place
place_of head earlier named =
    option_and_then (λ place. where_true (can_take head earlier place) place)
    (option_map (λ team. record {
      team = team;
      group = group_of_letter named.group;
      position = named.position;
    }) (team_named head.teams named.code))

-- the earlier places, and those of the head behind them
abbrev pub places_behind : Head → List Place → List HeadPlace → Result (List Place) FileFault
places_behind head earlier [] = Ok earlier
places_behind head earlier (p ∷ ps) =
    after (ok_or (place_of head earlier p) (FileFault.BadPlace (length earlier))) (λ place.
    places_behind head (earlier ++ place ∷ []) ps)

-- the fixed places; a pairing has none
abbrev pub places_of : Kind → Head → Result (List Place) FileFault
places_of Kind.Group head = places_behind head [] head.places
places_of Kind.Pairing head = Ok []

-- ---- the file of a head, or its first fault

-- the head's file with these limits, pairs and places
abbrev pub file_with : Head → List Limit → List Pair → List Place → DrawFile
file_with head limits pairs places = record {
  kind = head.kind;
  groups = head.groups;
  pots = head.pots;
  teams = head.teams;
  limits = limits;
  pairs = pairs;
  places = places;
}

abbrev pub file_of : Head → Result DrawFile FileFault
file_of head =
    after (limits_of head.kind head) (λ limits.
    after (pairs_from head.teams 0 head.pairs) (λ pairs.
    after (places_of head.kind head) (λ places.
    Ok (file_with head limits pairs places))))

-- The file is that of some head, so that none of the faults holds of it.
abbrev pub IsWellFormed : DrawFile → Type 0
IsWellFormed file = (head : Head) × IsReadHead head × (file_of head ≡ Ok file)

-- The bytes are the head of this file.
abbrev pub IsFileOf : List ℕ → DrawFile → Type 0
IsFileOf bytes file = (head : Head) × IsHead bytes head × (file_of head ≡ Ok file)

-- The bytes are no head of a file, and this is their first fault.
abbrev pub IsFileFault : List ℕ → FileFault → Type 0
IsFileFault bytes fault =
    IsHeadFault bytes fault ⊎ ((head : Head) × IsHead bytes head × (file_of head ≡ Err fault))
