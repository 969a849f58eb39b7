use Rattle.std.proofs.Common.{sym}
use Rattle.serde_json.specs.View.{view}
use Rattle.team_files.proofs.HeadLaws.{reads, few_pots}
use Rattle.team_files.proofs.reading.head_of.Goals as goal

pub teams_of-requires-clause-pots : goal.teams_of-requires-clause-pots
teams_of-requires-clause-pots c = few_pots c.in_ok-kind.kind (view c.args.value.now) c.in_ok-fields.fields c.in_ok-fields.ensures c.in_ok-check_numbers.ensures.few_pots

pub new-requires : goal.new-requires
new-requires c = (view c.args.value.now, reads (view c.args.value.now) c.in_ok-kind.kind c.in_ok-fields.fields c.in_ok-teams.teams (sym c.in_ok-check_object.ensures) c.in_ok-kind.ensures (sym c.in_ok-check_members.ensures) c.in_ok-fields.ensures (sym c.in_ok-check_numbers.ensures.fault) c.in_ok-teams.ensures (sym c.in_ok-check_pots.ensures))

pub returns : goal.returns
returns c =
    let read = reads (view c.args.value.now) c.in_ok-kind.kind c.in_ok-fields.fields c.in_ok-teams.teams (sym c.in_ok-check_object.ensures) c.in_ok-kind.ensures (sym c.in_ok-check_members.ensures) c.in_ok-fields.ensures (sym c.in_ok-check_numbers.ensures.fault) c.in_ok-teams.ensures (sym c.in_ok-check_pots.ensures) in
    rw c.new.ensures read
