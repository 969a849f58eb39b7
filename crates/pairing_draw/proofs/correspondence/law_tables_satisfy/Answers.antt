use Rattle.pairing_draw.proofs.TableValues.{tables_satisfy}
use Rattle.pairing_draw.proofs.correspondence.law_tables_satisfy.Goals as goal

pub returns : goal.returns
returns c = tables_satisfy
