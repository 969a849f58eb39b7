-- A turn of a draw as its callers see it: the file, and the moves so far.
use Rattle.std.specs.Prelude.{◌≡◌, List}
use Rattle.rule_sets.specs.Files.{DrawFile}
use Rattle.draw_tables.specs.declared.moves.Move.{Move}
use Rattle.draw_state.specs.Replies.{NoneWaitsForGroup}
use Rattle.serial_search.specs.Answers.{Searching}
use Rattle.offer_engine.specs.Encodings.{Encoding}
use Rattle.offer_engine.specs.Offers.{Offer}

pub record Turn : Type 0 where
  pub file : DrawFile
  pub moves : List Move

-- The session searches in the problem of the file, and the offer is of one of its states, in which
-- no team waits for its group.
pub record AreOfOneFile (enc : Encoding) (session : Searching) (offer : Offer) : Type 0 where
  pub problem : session.problem ≡ enc.problem
  pub file : offer.state.file ≡ enc.file
  pub none_waits : NoneWaitsForGroup offer.state.file offer.state.moves
