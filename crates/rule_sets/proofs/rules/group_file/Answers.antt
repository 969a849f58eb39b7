use Rattle.std.proofs.Common.{sym}
use Rattle.rule_sets.proofs.LookUpSteps.{all_found}
use Rattle.rule_sets.proofs.rules.group_file.Goals as goal

pub of_head-requires : goal.of_head-requires
of_head-requires c =
    let tags = rw (c.limits.ensures, c.teams.ensures) at c.in_ok-check_tags.ensures in
    let limits = rw c.limits-2.ensures at c.in_ok-limits.ensures in
    let found = rw c.teams-2.ensures at c.in_ok-pairs.ensures.ok in
    let pairs = rw c.pairs.ensures.pairs at found in
    let places = rw c.places.ensures.places at c.in_ok-places.ensures.ok in
    all_found c.args.head c.in_ok-limits.limits.items c.in_ok-pairs.pairs.items c.in_ok-places.places.items c.requires (sym tags) limits pairs places
