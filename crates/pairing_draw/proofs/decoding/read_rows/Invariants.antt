use Rattle.pairing_draw.specs.Encoding.{IsRead}
use Rattle.pairing_draw.proofs.decoding.read_rows.Given as goal

-- the runners-up so far have the winners of true atoms
abbrev pub invariant-loop-runner : goal.invariant-loop-runner
invariant-loop-runner l = IsRead l.values l.runner l.winners l.given.items
