use Rattle.propagation.proofs.Queues.{all_quiet}
use Rattle.propagation.proofs.Engines.{engine_run, engine_note, all_follow, grows_forced}
use Rattle.propagation.proofs.engine.Engine.propagate.Goals as goal

pub invariant_of-self : goal.invariant_of-self
invariant_of-self c = engine_run c.self.inside.store c.run-found.new.store c.self.inside.progress c.run-found.new.progress c.self.inside.quiet_at.items c.self.invariant c.run-found.ensures.kept c.run-found.ensures.grows c.run-found.ensures.within c.run-found.ensures.quiet

pub invariant_of-self-in-None : goal.invariant_of-self-in-None
invariant_of-self-in-None c =
    let h = engine_run c.self.inside.store c.run-found.new.store c.self.inside.progress c.run-found.new.progress c.self.inside.quiet_at.items c.self.invariant c.run-found.ensures.kept c.run-found.ensures.grows c.run-found.ensures.within c.run-found.ensures.quiet in
    engine_note c.run-found.new.store c.run-found.new.progress c.len-length.result c.self.inside.quiet_at.items h c.in-None.ensures.done c.len-length.ensures.len c.len-length.ensures.few

pub returns-in-Some-clause-sound : goal.returns-in-Some-clause-sound
returns-in-Some-clause-sound c = record { caused = c.len-length.ensures.caused; follow = all_follow c.run-found.new.store c.len-length.ensures.caused (rw (c.run-found.ensures.kept.problem, c.run-found.ensures.kept.clauses) c.self.invariant.follow) }

pub returns-in-None-clause-quiet : goal.returns-in-None-clause-quiet
returns-in-None-clause-quiet c = λ e. all_quiet c.run-found.new.store c.run-found.new.progress c.run-found.ensures.quiet c.in-None.ensures.done

pub returns-in-None-clause-sound : goal.returns-in-None-clause-sound
returns-in-None-clause-sound c = record { caused = c.len-length.ensures.caused; follow = all_follow c.run-found.new.store c.len-length.ensures.caused (rw (c.run-found.ensures.kept.problem, c.run-found.ensures.kept.clauses) c.self.invariant.follow) }

pub returns-in-Some-clause-forced : goal.returns-in-Some-clause-forced
returns-in-Some-clause-forced c = rw (← c.self.view_is) (grows_forced c.self.inside.store c.run-found.new.store c.run-found.ensures.grows)

pub returns-in-None-clause-forced : goal.returns-in-None-clause-forced
returns-in-None-clause-forced c = rw (← c.self.view_is) (grows_forced c.self.inside.store c.run-found.new.store c.run-found.ensures.grows)
