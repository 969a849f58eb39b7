use Rattle.std.proofs.Common.{length, ◌-◌, ◌≡◌, ◌≤◌, vec_len}
use Rattle.std.specs.Io.KnownBytes.{Consumes}
use Rattle.draw_ports.proofs.transfer.read_all.Given as goal

-- what was taken is in `all`, and nothing failed
abbrev pub invariant-loop-count : goal.invariant-loop-count
invariant-loop-count g l = record {
  fits : vec_len l.all ≤ l.limit;
  taken : Consumes (g.S.Source.left l.fn.src) (g.S.Source.left l.src) l.all.items;
  quiet : g.S.Source.faults l.src ≡ g.S.Source.faults l.fn.src;
  room : length l.piece ≡ 4096;
}

abbrev pub decreases-loop-count : goal.decreases-loop-count
decreases-loop-count g l = l.limit - vec_len l.all
