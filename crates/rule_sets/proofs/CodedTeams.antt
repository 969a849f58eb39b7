-- The teams of a head by their codes: each has one, no two have one, and a text names the team that has it.
use Rattle.std.proofs.Common.{◌≡◌, ℕ, zero, suc, ◌+◌, ◌<◌, Bool, true, false, List, [], ◌∷◌, length, Option, Some, None, Ok, Err, refl, sym, ap, subst, ◌∙◌, arith}
use Rattle.std.specs.Prelude.{bytes_eq, if◌then◌else◌, option_and_then, IfSome}
use Rattle.std.specs.List.{All}
use Rattle.std.proofs.lemmas.List.Elements.{All-nil, All-cons, All-head, All-tail}
use Rattle.serde_json.specs.Data.{Data}
use Rattle.team_files.specs.declared.fault.FileFault.{FileFault}
use Rattle.team_files.specs.declared.fields.TeamFields.{TeamFields}
use Rattle.team_files.specs.declared.team.Team.{Team}
use Rattle.team_files.specs.declared.team_id.TeamId.{TeamId}
use Rattle.team_files.specs.Characters.{is_code}
use Rattle.team_files.specs.Codes.{codes_of, HasCodeAt, AreDifferent}
use Rattle.team_files.specs.Members.{where_true}
use Rattle.team_files.specs.Teams.{find_from, find}
use Rattle.team_files.specs.Heads.{Head, name_of, team_of, teams_from, head_of}
use Rattle.team_files.proofs.CodeLaws.{stands, tells_same_code}
use Rattle.team_files.proofs.HeadLaws.{gave, parts}
use Rattle.rule_sets.specs.Files.{team_named}
use Rattle.rule_sets.specs.Forms.{HasCode}

-- ---- the codes

coded : (i : ℕ) (f : TeamFields) (t : Team) → team_of i f ≡ Ok t → HasCode t
coded i f t e = go (is_code f.code) refl e
  where
    go : (b : Bool) → is_code f.code ≡ b
        → (if b then Ok (record { code = f.code; name = name_of f.code f.name; pot = f.pot; tags = f.tags; group_letter = f.group_letter }) else Err (FileFault.BadCode i)) ≡ Ok t
        → HasCode t
    go true is h = let same : f.code ≡ t.code = cc in ap is_code (sym same) ∙ is
    go false is h = cc

-- each team of a head has a code
pub all_coded : (i : ℕ) (fs : List TeamFields) (ts : List Team) → teams_from i fs ≡ Ok ts → All HasCode ts
all_coded i [] ts e = let none : ts ≡ [] = cc in rw none (All-nil HasCode)
all_coded i (f ∷ fs) ts e =
    let team = gave (team_of i f) _ ts e in
    let teams = gave (teams_from (i + 1) fs) _ ts team.2 in
    let all : ts ≡ team.0 ∷ teams.0 = cc in
    rw all (All-cons HasCode team.0 teams.0 (coded i f team.0 team.1) (all_coded (i + 1) fs teams.0 teams.1))

-- each team has a code, and no two have one
abbrev pub AreCoded : List Team → Type 0
AreCoded teams = All HasCode teams × AreDifferent (codes_of teams)

pub are_coded : (d : Data) (head : Head) → head_of d ≡ Ok head → AreCoded head.teams
are_coded d head e =
    let p = parts d head e in
    let teams : p.2 ≡ head.teams = ap (λ (x : Head). x.teams) p.3.whole in
    subst AreCoded teams (all_coded 0 p.1.teams p.2 p.3.teams_are, (tells_same_code.none p.2).0 p.3.distinct)

-- ---- the team that a text names

-- a code of a team is a code
pub code_there : (teams : List Team) (k : ℕ) (text : List ℕ) → All HasCode teams → HasCodeAt (codes_of teams) k text → is_code text ≡ true
code_there [] k text all at = cc
code_there (t ∷ ts) zero text all at = let same : t.code ≡ text = cc in subst (λ c. is_code c ≡ true) same (All-head HasCode t ts all)
code_there (t ∷ ts) (suc k) text all at = code_there ts k text (All-tail HasCode t ts all) at

-- the team that a text names has it as its code
pub named_has : (teams : List Team) (text : List ℕ) (id : TeamId) → team_named teams text ≡ Some id → HasCodeAt (codes_of teams) id.0 text
named_has teams text id e = go (is_code text) e
  where
    go : (b : Bool) → option_and_then (λ code. find code teams) (where_true b text) ≡ Some id → HasCodeAt (codes_of teams) id.0 text
    go true h = stands text teams id h
    go false h = cc

found_within : (code : List ℕ) (ts : List Team) (i : ℕ) (id : TeamId) → find_from code ts i ≡ Some id → id.0 < i + length ts
found_within code [] i id e = cc
found_within code (t ∷ ts) i id e = go (bytes_eq t.code code) e (λ h. found_within code ts (i + 1) id h)
  where
    go : (b : Bool)
        → (if b then Some (record { 0 = i }) else find_from code ts (i + 1)) ≡ Some id
        → (find_from code ts (i + 1) ≡ Some id → id.0 < (i + 1) + length ts) → id.0 < i + suc (length ts)
    go true h later = let is : i ≡ id.0 = cc in omega arith
    go false h later = let lt = later h in omega arith

-- it is one of the teams
pub named_within : (teams : List Team) (text : List ℕ) (id : TeamId) → team_named teams text ≡ Some id → id.0 < length teams
named_within teams text id e = go (is_code text) e
  where
    go : (b : Bool) → option_and_then (λ code. find code teams) (where_true b text) ≡ Some id → id.0 < length teams
    go true h = let lt = found_within text teams 0 id h in omega arith
    go false h = cc

-- the team that a code finds is one of the teams
pub found_team : (code : List ℕ) (teams : List Team) (found : Option TeamId) → found ≡ find code teams → IfSome found (λ team. team.0 < length teams)
found_team code teams None e = tt
found_team code teams (Some id) e = let lt = found_within code teams 0 id (sym e) in omega (arith, lt)
