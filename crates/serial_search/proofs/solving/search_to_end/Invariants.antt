use Rattle.serial_search.specs.Sides.{AreLinked, IsContinued}
use Rattle.serial_search.proofs.solving.search_to_end.Given as goal

abbrev pub invariant-loop-round : goal.invariant-loop-round
invariant-loop-round l = record {
  linked : AreLinked l.log l.engine;
  continued : IsContinued l.fn.log l.log;
}
