use Rattle.std.proofs.Common.{arith}
use Rattle.list_texts.proofs.Numbers.{not_small}
use Rattle.list_texts.proofs.words.small_number_of.Goals as goal

pub returns-in-Err : goal.returns-in-Err
returns-in-Err c = not_small c.args.digits.now c.in_ok-number.number c.in_ok-number.ensures (omega (arith, c.in-Err.ensures))
