use Rattle.group_draw.proofs.StateMoves.{are_questions, names_atoms}
use Rattle.group_draw.proofs.literals.lits_of.Goals as goal

pub literals_of-requires-clause-moves : goal.literals_of-requires-clause-moves
literals_of-requires-clause-moves c = names_atoms c.args.file.now c.requires.kind c.args.moves.now c.requires.state

pub returns-clause-within : goal.returns-clause-within
returns-clause-within c = rw c.in_ok-lits.ensures (are_questions c.args.file.now c.args.moves.now c.requires.kind c.requires.state).0

pub returns-clause-distinct : goal.returns-clause-distinct
returns-clause-distinct c = rw c.in_ok-lits.ensures (are_questions c.args.file.now c.args.moves.now c.requires.kind c.requires.state).1
