-- Which teams the forbidden pairs of a draw file name.
use Rattle.std.specs.Prelude.{◌≡◌, ℕ, List, length, slice_get, Some, Ok}
use Rattle.team_files.specs.declared.head_pair.HeadPair.{HeadPair}
use Rattle.team_files.specs.Codes.{codes_of, HasCodeAt}
use Rattle.team_files.specs.Heads.{Head}
use Rattle.rule_sets.specs.declared.pair.Pair.{Pair}
use Rattle.rule_sets.specs.Files.{DrawFile, file_of}

-- The teams of the pair have the two codes that the head gives, first and second, in this order.
pub record NamesCodes (codes : List (List ℕ)) (named : HeadPair) (pair : Pair) : Type 0 where
  pub first : HasCodeAt codes pair.first.0 named.first
  pub second : HasCodeAt codes pair.second.0 named.second

-- The file's pairs are those of the head.
pub record HasPairsOf (head : Head) (file : DrawFile) : Type 0 where
  -- there are as many
  pub number : length file.pairs ≡ length head.pairs
  -- and at each place the file's pair names the teams with the codes of the head's pair
  pub each : (place : ℕ) (named : HeadPair) (pair : Pair)
      → slice_get head.pairs place ≡ Some named → slice_get file.pairs place ≡ Some pair
      → NamesCodes (codes_of file.teams) named pair

-- The file of a head has its pairs.
abbrev pub FilesHavePairs : Type 0
FilesHavePairs = (head : Head) (file : DrawFile) → file_of head ≡ Ok file → HasPairsOf head file
