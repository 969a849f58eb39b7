use Rattle.std.proofs.Common.{◌+◌, [], ◌∷◌, ◌++◌, drop, sym, ap, ◌∙◌, append_assoc}
use Rattle.count_core.proofs.Lists.{each_push}
use Rattle.draw_tables.specs.Pots.{holds, teams_from, IsTeamOf}
use Rattle.group_draw.proofs.Teams.{teams_skip, teams_push}
use Rattle.group_draw.proofs.encoding.teams_with.Goals as goal

pub loop-place-preserved-then-not-holds : goal.loop-place-preserved-then-not-holds
loop-place-preserved-then-not-holds c =
    let at = rw c.teams-teams.ensures at c.get.ensures in
    let skip = teams_skip (holds c.args.tag.now) c.loop-place.place c.args.file.now.teams c.get.result.now at (sym c.holds.ensures ∙ c.if-not-holds.true) in
    record {
      found = ap (λ ts. c.loop-place.found.items ++ ts) (sym skip) ∙ c.loop-place.invariant.found;
      within = c.loop-place.invariant.within;
    }

pub loop-place-preserved : goal.loop-place-preserved
loop-place-preserved c =
    let at = rw c.teams-teams.ensures at c.get.ensures in
    let push = teams_push (holds c.args.tag.now) c.loop-place.place c.args.file.now.teams c.get.result.now at (sym c.holds.ensures ∙ c.if-not-holds.false) in
    let rest = teams_from (holds c.args.tag.now) (c.loop-place.place + 1) (drop (c.loop-place.place + 1) c.args.file.now.teams) in
    rw c.in_ok-push.ensures.items (record {
      found = append_assoc c.loop-place.found.items (record { 0 = c.loop-place.place } ∷ []) rest ∙ ap (λ ts. c.loop-place.found.items ++ ts) (sym push) ∙ c.loop-place.invariant.found;
      within = each_push (IsTeamOf c.args.file.now) c.loop-place.found.items (record { 0 = c.loop-place.place }) c.loop-place.invariant.within (rw (c.number-place-end.ensures.number, c.teams-teams.ensures) at c.loop-place-test.true);
    })
