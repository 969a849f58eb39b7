use Rattle.std.proofs.Common.{◌≡◌, ◌+◌, ℕ, not, drop}
use Rattle.propagation.specs.Occurrences.{counter, number_listed}
use Rattle.propagation.proofs.counters.count_out.Given as goal

-- what is left of the counters and all literals make the counters and those left
abbrev pub invariant-loop-occurrence : goal.invariant-loop-occurrence
invariant-loop-occurrence l = record {
  trues : (n : ℕ) → counter l.trues n + number_listed l.value n l.occurrences ≡ counter l.fn.trues n + number_listed l.value n (drop l.occurrence-index l.occurrences);
  falses : (n : ℕ) → counter l.falses n + number_listed (not l.value) n l.occurrences ≡ counter l.fn.falses n + number_listed (not l.value) n (drop l.occurrence-index l.occurrences);
}
