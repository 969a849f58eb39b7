use Rattle.std.proofs.Common.{◌≡◌, ◌≤◌, ◌+◌, ◌++◌, Ok, length}
use Rattle.std.specs.List.{All}
use Rattle.std.specs.Vec.Iter.{into_iter_items, into_iter_len}
use Rattle.team_files.specs.Answers.{after}
use Rattle.team_files.specs.Heads.{most_pots, teams_from}
use Rattle.team_files.proofs.checks.teams_from.Given as goal

-- the teams so far, and those of the rest
abbrev pub invariant-loop-fields : goal.invariant-loop-fields
invariant-loop-fields l = record {
  teams : after (teams_from (length l.teams.items) (into_iter_items l.fields-iterator)) (λ teams. Ok (l.teams.items ++ teams)) ≡ teams_from 0 l.fn.all.items;
  number : length l.teams.items + length (into_iter_items l.fields-iterator) ≡ length l.fn.all.items;
  pots : All (λ f. f.pot ≤ most_pots) (into_iter_items l.fields-iterator);
  left : into_iter_len l.fields-iterator ≡ length (into_iter_items l.fields-iterator);
}
