-- When offers and turns refuse what they are handed.
use Rattle.std.specs.Prelude.{List}
use Rattle.draw_state.specs.State.{State}
use Rattle.serial_search.specs.Answers.{Answering}
use Rattle.offer_engine.specs.declared.faults.OfferFault.{OfferFault}
use Rattle.offer_engine.specs.declared.faults.TurnFault.{TurnFault}
use Rattle.offer_engine.specs.Questions.{questions, IsFirstWrong}
use Rattle.offer_engine.specs.Offers.{Offer}
use Rattle.offer_engine.specs.Turns.{Turn, Wants, IsOfOtherState}

-- WrongQuestion names the first place whose answer is not that of the state's question there. That
-- memory ran out says nothing of the answers.
abbrev pub IsOfferFault : State → List Answering → OfferFault → Type 0
IsOfferFault state answers (OfferFault.WrongQuestion place) =
    IsFirstWrong (questions state.file state.moves) answers place
IsOfferFault state answers OfferFault.NoMemory = Unit {0}

-- WrongState names the moves of an offer of another state. Memory ran out only where the offer is
-- the wanted one.
abbrev pub IsTurnFault : Turn → Offer → TurnFault → Type 0
IsTurnFault turn offer (TurnFault.WrongState moves) = IsOfOtherState turn offer moves
IsTurnFault turn offer TurnFault.NoMemory = Wants turn offer.state
