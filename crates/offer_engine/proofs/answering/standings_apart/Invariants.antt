use Rattle.std.proofs.Common.{◌≡◌, map, take}
use Rattle.std.specs.List.{AllByRecursion as Each}
use Rattle.offer_engine.proofs.Standings.{StandsAsAnswered}
use Rattle.offer_engine.proofs.answering.standings_apart.Given as goal

-- the choices so far, each as its answer has it
abbrev pub invariant-loop-place : goal.invariant-loop-place
invariant-loop-place l =
    (map (λ s. s.0) l.standings.items ≡ take l.place l.choices) × Each (StandsAsAnswered l.state l.answers) l.standings.items
