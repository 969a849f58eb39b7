use Rattle.list_texts.proofs.LineFronts.{no_atoms_end}
use Rattle.list_texts.proofs.lines.atoms_at.Goals as goal

pub returns-in_err-rest : goal.returns-in_err-rest
returns-in_err-rest c = record {
  text = rw c.from_residual-in_err-rest.ensures (no_atoms_end c.args.text.now c.in_ok-left.left.now c.in_ok-atoms.atoms c.in_ok-atoms.left.now c.in_ok-left.ensures.text c.in_ok-atoms.ensures.text c.in_err-rest.ensures.text);
}
