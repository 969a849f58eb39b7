use Rattle.std.proofs.Common.{◌≡◌, ◌++◌, map, not, drop, length}
use Rattle.std.specs.Prelude.{filter}
use Rattle.std.specs.List.{enumerate_from}
use Rattle.draw_tables.specs.Pots.{AreTeamsOf}
use Rattle.draw_tables.specs.Pairings.{may_meet}
use Rattle.pairing_draw.specs.Encoding.{bans_of, never, pair_lit}
use Rattle.pairing_draw.proofs.encoding.add_bans_of.Given as goal

-- what was added and the rules of the winners left are all
abbrev pub invariant-loop-other : goal.invariant-loop-other
invariant-loop-other l = record {
  rules :
      l.rules.items ++ map (λ w. never (pair_lit (length l.winners) l.place w.0)) (filter (λ w. not (may_meet l.file l.runner w.1)) (enumerate_from l.other (drop l.other l.winners)))
      ≡ l.fn.rules.items ++ bans_of l.file l.winners (l.place, l.runner);
  teams : AreTeamsOf l.file (drop l.other l.winners);
}
