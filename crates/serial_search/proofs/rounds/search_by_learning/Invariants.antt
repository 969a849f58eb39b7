use Rattle.serial_search.specs.Sides.{AreLinked, IsContinued, KeepsFront}
use Rattle.serial_search.proofs.rounds.search_by_learning.Given as goal

abbrev pub invariant-loop-turn : goal.invariant-loop-turn
invariant-loop-turn l = record {
  linked : AreLinked l.log l.engine;
  continued : IsContinued l.fn.log l.log;
  keeps : KeepsFront l.base.0 l.fn.engine.entries l.engine.entries;
}
