use Rattle.propagation.proofs.Forced.{examined_quiet, examined_grows}
use Rattle.propagation.proofs.forcing.examine.Goals as goal

pub returns-in-Forcing-clause-quiet : goal.returns-in-Forcing-clause-quiet
returns-in-Forcing-clause-quiet c =
    let status = rw c.in-Forcing.is at c.status.ensures in
    examined_quiet c.args.store.now c.force.new.store c.args.number c.in-Forcing.truth c.force.ensures.named status.0 status.1 c.force.ensures.shaped c.force.ensures.kept c.force.ensures.entries c.force.ensures.bound

pub returns-in-Forcing-clause-grows : goal.returns-in-Forcing-clause-grows
returns-in-Forcing-clause-grows c =
    let status = rw c.in-Forcing.is at c.status.ensures in
    examined_grows c.args.store.now c.force.new.store c.args.number c.in-Forcing.truth c.force.ensures.named status.0 status.1 c.force.ensures.shaped c.force.ensures.kept c.force.ensures.entries
