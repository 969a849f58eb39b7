use Rattle.std.proofs.Common.{◌≡◌, map, take}
use Rattle.std.specs.List.{AllByRecursion as Each}
use Rattle.serial_search.specs.declared.outcome.Outcome.TheVariants.{Possible}
use Rattle.offer_engine.specs.Offers.{StandsRight}
use Rattle.offer_engine.proofs.Standings.{Comes}
use Rattle.offer_engine.proofs.answering.stand_positions.Given as goal

-- the choices so far, each as it is right and as the values have it
abbrev pub invariant-loop-choice : goal.invariant-loop-choice
invariant-loop-choice l =
    (map (λ s. s.0) l.standings.items ≡ take l.choice-index l.choices)
    × Each (StandsRight l.state.file l.state.moves) l.standings.items
    × Each (Comes (Possible l.values)) l.standings.items
