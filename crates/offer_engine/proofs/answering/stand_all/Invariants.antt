use Rattle.std.proofs.Common.{◌≡◌, map, take}
use Rattle.offer_engine.proofs.answering.stand_all.Given as goal

-- the choices so far, each with the standing
abbrev pub invariant-loop-choice : goal.invariant-loop-choice
invariant-loop-choice l = l.standings.items ≡ map (λ c. (c, l.common)) (take l.choice-index l.choices)
