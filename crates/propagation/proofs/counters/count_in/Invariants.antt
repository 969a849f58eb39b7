use Rattle.std.proofs.Common.{◌≡◌, ◌+◌, ℕ, not, drop}
use Rattle.propagation.specs.Occurrences.{counter, number_listed}
use Rattle.propagation.proofs.counters.count_in.Given as goal

-- what is counted and what is left make all
abbrev pub invariant-loop-occurrence : goal.invariant-loop-occurrence
invariant-loop-occurrence l = record {
  trues : (n : ℕ) → counter l.trues n + number_listed l.value n (drop l.occurrence-index l.occurrences) ≡ counter l.fn.trues n + number_listed l.value n l.occurrences;
  falses : (n : ℕ) → counter l.falses n + number_listed (not l.value) n (drop l.occurrence-index l.occurrences) ≡ counter l.fn.falses n + number_listed (not l.value) n l.occurrences;
}
