use Rattle.rule_sets.proofs.FileForms.{files_have_form}
use Rattle.rule_sets.proofs.rules.law_files_have_form.Goals as goal

pub returns : goal.returns
returns c = files_have_form
