use Rattle.std.proofs.Common.{◌≡◌, ◌++◌, drop, map}
use Rattle.std.specs.Prelude.{option_map}
use Rattle.serde_json.specs.View.{view}
use Rattle.team_files.specs.Heads.{pairs_of_texts}
use Rattle.team_files.proofs.pair_forms.pairs_of_texts.Given as goal

-- the pairs so far, and those of the rest
abbrev pub invariant-loop-value : goal.invariant-loop-value
invariant-loop-value l = option_map (λ pairs. l.pairs.items ++ pairs) (pairs_of_texts (map view (drop l.value-index l.list))) ≡ pairs_of_texts (map view l.list)
