use Rattle.std.proofs.Common.{◌≡◌, ◌++◌, drop}
use Rattle.std.specs.List.{enumerate_from, flat_map}
use Rattle.draw_tables.specs.Pots.{AreTeamsOf}
use Rattle.pairing_draw.specs.Encoding.{bans_of}
use Rattle.pairing_draw.proofs.encoding.add_bans.Given as goal

-- what was added and the rules of the runners-up left are all
abbrev pub invariant-loop-place : goal.invariant-loop-place
invariant-loop-place l = record {
  rules :
      l.rules.items ++ flat_map (bans_of l.file l.winners) (enumerate_from l.place (drop l.place l.runners))
      ≡ l.fn.rules.items ++ flat_map (bans_of l.file l.winners) (enumerate_from 0 l.runners);
  teams : AreTeamsOf l.file (drop l.place l.runners);
}
