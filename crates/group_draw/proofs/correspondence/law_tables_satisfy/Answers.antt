use Rattle.group_draw.proofs.Existence.{tables_satisfy}
use Rattle.group_draw.proofs.correspondence.law_tables_satisfy.Goals as goal

pub returns : goal.returns
returns c = λ file ms table kind formed legal extends. tables_satisfy file kind (c.law_files_have_form.ensures file formed) ms table legal extends
