use Rattle.group_draw.proofs.FixedPlaces.{has_atoms}
use Rattle.group_draw.proofs.atoms.form_of.Goals as goal

pub returns-clause-formed : goal.returns-clause-formed
returns-clause-formed c = c.kind.ensures.formed

pub returns-clause-form : goal.returns-clause-form
returns-clause-form c = c.law_files_have_form.ensures c.args.file.now c.kind.ensures.formed

pub returns-clause-atoms : goal.returns-clause-atoms
returns-clause-atoms c = has_atoms c.args.file.now c.requires.kind (c.law_files_have_form.ensures c.args.file.now c.kind.ensures.formed)
