use Rattle.group_draw.proofs.Existence.{values_complete}
use Rattle.group_draw.proofs.correspondence.law_values_complete.Goals as goal

pub returns : goal.returns
returns c = λ file ms values kind formed state clean meets. values_complete file kind (c.law_files_have_form.ensures file formed) ms values state clean meets
