use Rattle.std.proofs.Common.{◌≡◌, ◌+◌, drop}
use Rattle.pairing_draw.specs.Encoding.{place_of}
use Rattle.pairing_draw.proofs.literals.place_of.Given as goal

-- those before are others
abbrev pub invariant-loop-place : goal.invariant-loop-place
invariant-loop-place l = l.place + place_of l.team (drop l.place l.teams) ≡ place_of l.team l.teams
