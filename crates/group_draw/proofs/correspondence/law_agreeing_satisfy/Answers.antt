use Rattle.group_draw.proofs.Agreeing.{agreeing}
use Rattle.group_draw.proofs.FixedPlaces.{has_atoms}
use Rattle.group_draw.proofs.correspondence.law_agreeing_satisfy.Goals as goal

pub returns : goal.returns
returns c = λ file values table kind formed has agrees. agreeing file values table (has_atoms file kind (c.law_files_have_form.ensures file formed)) has agrees
