use Rattle.list_texts.proofs.Numbers.{no_number_stands}
use Rattle.list_texts.proofs.words.number_at.Goals as goal

pub returns-in_err-number-clause-text : goal.returns-in_err-number-clause-text
returns-in_err-number-clause-text c =
    let count = c.count_digits.ensures in
    rw c.from_residual.ensures (no_number_stands c.args.text.now c.count_digits.result count.bound count.digits count.end c.split_at.result.0.now c.split_at.ensures.front c.in_err-number.ensures)
