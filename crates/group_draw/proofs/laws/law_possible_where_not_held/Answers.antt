use Rattle.group_draw.proofs.Offers.{possible_not_held, free_is_possible}
use Rattle.group_draw.proofs.laws.law_possible_where_not_held.Goals as goal

pub returns : goal.returns
returns c = λ file ms t group position kind formed state clean completable in_phase stands among.
    let form = c.law_files_have_form.ensures file formed in (
      possible_not_held file kind form ms state clean completable t group position in_phase stands among c.law_held_positions.ensures.held,
      free_is_possible file kind form ms state clean completable t group position in_phase stands among c.law_held_positions.ensures.clean,
    )
