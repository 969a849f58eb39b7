use Rattle.std.proofs.Common.{◌≡◌}
use Rattle.offer_engine.proofs.tests.state_after.Given as goal

-- the state is of the file
abbrev pub invariant-loop-next : goal.invariant-loop-next
invariant-loop-next l = l.state.file ≡ l.enc.file
