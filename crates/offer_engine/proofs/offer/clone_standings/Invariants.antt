use Rattle.std.proofs.Common.{◌≡◌, take}
use Rattle.offer_engine.proofs.offer.clone_standings.Given as goal

-- the standings so far
abbrev pub invariant-loop-choice : goal.invariant-loop-choice
invariant-loop-choice l = l.copies.items ≡ take l.choice-index l.standings
