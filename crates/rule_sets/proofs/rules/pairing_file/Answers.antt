use Rattle.std.proofs.Common.{refl}
use Rattle.rule_sets.proofs.rules.pairing_file.Goals as goal

pub of_head-requires : goal.of_head-requires
of_head-requires c =
    let found = rw c.teams.ensures at c.in_ok-pairs.ensures.ok in
    let pairs = rw c.pairs.ensures.pairs at found in
    rw c.requires (rw pairs (rw c.new.ensures.items (rw c.new-2.ensures.items refl)))
