use Rattle.draw_state.proofs.TableDraws.{tables_are_drawn}
use Rattle.draw_state.proofs.laws.law_tables_are_drawn.Goals as goal

pub returns : goal.returns
returns c = tables_are_drawn c.law_files_have_form.ensures c.law_find_by_code.ensures
