use Rattle.group_draw.proofs.Reading.{values_agree, read_agrees}
use Rattle.group_draw.proofs.correspondence.law_values_agree.Goals as goal

pub returns-clause-values : goal.returns-clause-values
returns-clause-values c = values_agree

pub returns-clause-read : goal.returns-clause-read
returns-clause-read c = read_agrees
