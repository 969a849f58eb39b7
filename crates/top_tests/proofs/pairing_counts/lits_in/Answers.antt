use Rattle.top_tests.proofs.pairing_counts.lits_in.Goals as goal

pub returns-in-Pairing : goal.returns-in-Pairing
returns-in-Pairing c = rw (c.file-file.ensures.file, c.moves.ensures) at c.lits_of.ensures.literals
