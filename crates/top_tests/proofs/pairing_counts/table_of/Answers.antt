use Rattle.top_tests.proofs.pairing_counts.table_of.Goals as goal

pub decode-requires-clause-moves : goal.decode-requires-clause-moves
decode-requires-clause-moves c = rw (c.file-file.ensures.file, c.moves.ensures) c.requires.moves
