use Rattle.group_draw.proofs.Existence.{completable_where_satisfied}
use Rattle.group_draw.proofs.correspondence.law_completable_where_satisfied.Goals as goal

pub returns : goal.returns
returns c = λ file ms kind formed state clean. completable_where_satisfied file kind (c.law_files_have_form.ensures file formed) ms state clean
