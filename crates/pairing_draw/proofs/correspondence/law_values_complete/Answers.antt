use Rattle.pairing_draw.proofs.ReadTables.{values_complete}
use Rattle.pairing_draw.proofs.correspondence.law_values_complete.Goals as goal

pub returns : goal.returns
returns c = values_complete
