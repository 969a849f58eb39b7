use Rattle.draw_lines.proofs.LastMove.{few_groups}
use Rattle.draw_lines.proofs.texts.expect_few_groups.Goals as goal

pub returns : goal.returns
returns c = few_groups c.args.file.now (c.law_files_have_form.ensures c.args.file.now c.kind.ensures.formed)
