use Rattle.draw_ports.proofs.Words.{collected_behind}
use Rattle.draw_ports.proofs.arguments.read_arguments.Goals as goal

pub returns-in-Ok-clause-words : goal.returns-in-Ok-clause-words
returns-in-Ok-clause-words c =
    rw c.in-Ok.is
    (collected_behind c.collect.result c.in-Ok.arguments c.skip.result c.skip.ensures.source c.skip.ensures.count c.collect.ensures.ran)
