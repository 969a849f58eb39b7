use Rattle.draw_tables.proofs.TableReading.{one_table_of_text}
use Rattle.draw_tables.proofs.laws.law_one_table_of_text.Goals as goal

pub returns : goal.returns
returns c = one_table_of_text c.law_files_have_form.ensures
