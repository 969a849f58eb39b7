use Rattle.pairing_draw.proofs.TableValues.{values_tell}
use Rattle.pairing_draw.proofs.correspondence.law_values_of_tables.Goals as goal

pub returns : goal.returns
returns c = values_tell
