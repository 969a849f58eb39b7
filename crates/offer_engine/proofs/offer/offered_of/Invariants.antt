use Rattle.std.proofs.Common.{◌≡◌, take}
use Rattle.offer_engine.specs.Offers.{offered}
use Rattle.offer_engine.proofs.offer.offered_of.Given as goal

-- the choices that are offered so far
abbrev pub invariant-loop-choice : goal.invariant-loop-choice
invariant-loop-choice l = l.choices.items ≡ offered (take l.choice-index l.standings)
