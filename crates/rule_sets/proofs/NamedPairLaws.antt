-- The pairs of a file name the teams that have the codes of the head's pairs.
use Rattle.std.proofs.Common.{◌≡◌, ℕ, zero, suc, ◌+◌, List, [], ◌∷◌, slice_get, Some, Ok, subst}
use Rattle.team_files.specs.declared.head_pair.HeadPair.{HeadPair}
use Rattle.team_files.specs.declared.team.Team.{Team}
use Rattle.team_files.specs.Codes.{codes_of}
use Rattle.team_files.proofs.HeadLaws.{gave}
use Rattle.rule_sets.specs.declared.pair.Pair.{Pair}
use Rattle.rule_sets.specs.Files.{team_named, pair_of, pairs_from}
use Rattle.rule_sets.specs.NamedPairs.{NamesCodes, HasPairsOf, FilesHavePairs}
use Rattle.rule_sets.proofs.CodedTeams.{named_has}
use Rattle.rule_sets.proofs.FileForms.{pair_is, pairs_size, file_parts}

names_codes : (teams : List Team) (i : ℕ) (named : HeadPair) (pair : Pair) → pair_of teams i named ≡ Ok pair → NamesCodes (codes_of teams) named pair
names_codes teams i named pair e =
    let is = pair_is i (team_named teams named.first) (team_named teams named.second) pair e in
    record { first = named_has teams named.first pair.first is.0; second = named_has teams named.second pair.second is.1 }

each_names : (teams : List Team) (i : ℕ) (ps : List HeadPair) (pairs : List Pair) → pairs_from teams i ps ≡ Ok pairs
    → (place : ℕ) (named : HeadPair) (pair : Pair) → slice_get ps place ≡ Some named → slice_get pairs place ≡ Some pair → NamesCodes (codes_of teams) named pair
each_names teams i [] pairs e place named pair at here = cc
each_names teams i (p ∷ ps) pairs e zero named pair at here =
    let first = gave (pair_of teams i p) _ pairs e in
    let rest = gave (pairs_from teams (i + 1) ps) _ pairs first.2 in
    let all : pairs ≡ first.0 ∷ rest.0 = cc in
    let own : Some first.0 ≡ Some pair = rw all at here in
    let same : p ≡ named = cc in
    let is : first.0 ≡ pair = cc in
    names_codes teams i named pair (rw (← same) (rw (← is) first.1))
each_names teams i (p ∷ ps) pairs e (suc k) named pair at here =
    let first = gave (pair_of teams i p) _ pairs e in
    let rest = gave (pairs_from teams (i + 1) ps) _ pairs first.2 in
    let all : pairs ≡ first.0 ∷ rest.0 = cc in
    each_names teams (i + 1) ps rest.0 rest.1 k named pair at (rw all at here)

-- the file of a head has its pairs
pub files_have_pairs : FilesHavePairs
files_have_pairs head file e =
    let f = file_parts head file e in
    subst (HasPairsOf head) f.3.whole (record { number = pairs_size head.teams 0 head.pairs f.1 f.3.pairs_are; each = each_names head.teams 0 head.pairs f.1 f.3.pairs_are })
