use Rattle.std.proofs.Common.{◌≡◌, ◌-◌, ◌++◌, not}
use Rattle.std.specs.Prelude.{filter}
use Rattle.std.specs.List.{range_with_len}
use Rattle.draw_tables.specs.GroupPhases.{has_placed, groups_for}
use Rattle.draw_tables.specs.States.{group_choices}
use Rattle.draw_tables.proofs.choices.groups_for.Given as goal

-- the groups so far and those of the rest are all of them
abbrev pub invariant-loop-group : goal.invariant-loop-group
invariant-loop-group l =
    l.choices.items ++ group_choices (filter (λ g. not (has_placed l.file l.moves l.pot g)) (range_with_len l.group (l.file.groups - l.group))) ≡ group_choices (groups_for l.file l.moves l.fn.team)
