use Rattle.std.proofs.Common.{sym, ◌∙◌, rules, ◌≡◌, ◌++◌, ◌∷◌, []}
use Rattle.draw_tables.specs.Reading.{front_team}
use Rattle.draw_tables.proofs.ItemSteps.{none_before, read_next, read_none}
use Rattle.draw_tables.proofs.table_reading.read_spaced.Goals as goal

pub returns-in_default-clause-not_table : goal.returns-in_default-clause-not_table
returns-in_default-clause-not_table c = λ _.
    none_before _ _ (read_none (front_team c.args.teams.now) 3 c.args.number c.loop-place._place c.loop-place.rest.now c.loop-place.found.items _ c.loop-place.invariant c.loop-place-test.true (sym c.spaced_team.ensures.value ∙ c.in_default.is))

pub loop-place-preserved : goal.loop-place-preserved
loop-place-preserved c =
    let pushed : c.push.new.self.items ≡ c.loop-place.found.items ++ c.in-Some.team ∷ [] = search rules in
    let next =
    read_next (front_team c.args.teams.now) 3 c.args.number c.loop-place._place c.loop-place.rest.now c.loop-place.found.items _ c.loop-place.invariant c.loop-place-test.true c.in-Some.team c.push.new.self.items
    (sym c.spaced_team.ensures.value ∙ c.in-Some.is)
    pushed in
    rw (← c.split_at.ensures.back) at next
