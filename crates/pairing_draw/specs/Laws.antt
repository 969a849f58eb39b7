-- A state of a pairing has an offer.
use Rattle.std.specs.Prelude.{◌≡◌, List}
use Rattle.team_files.specs.declared.kind.Kind.{Kind}
use Rattle.rule_sets.specs.Files.{DrawFile}
use Rattle.draw_tables.specs.declared.moves.Move.{Move}
use Rattle.draw_tables.specs.declared.moves.Choice.{Choice}
use Rattle.draw_tables.specs.States.{IsState}
use Rattle.draw_tables.specs.Offers.{IsOffer}

-- Each state of a pairing has an offer.
abbrev pub OfferExists : Type 0
OfferExists = (file : DrawFile) (ms : List Move)
    → file.kind ≡ Kind.Pairing → IsState file ms → (os : List Choice) × IsOffer file ms os
