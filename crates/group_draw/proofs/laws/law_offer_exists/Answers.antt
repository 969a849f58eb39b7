use Rattle.group_draw.proofs.Offers.{offer_exists}
use Rattle.group_draw.proofs.laws.law_offer_exists.Goals as goal

pub returns : goal.returns
returns c = λ file ms kind formed state. offer_exists file kind (c.law_files_have_form.ensures file formed) ms state
