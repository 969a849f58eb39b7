use Rattle.std.proofs.Common.{◌≡◌, List, refl}
use Rattle.team_files.specs.declared.kind.Kind.{Kind}
use Rattle.draw_tables.specs.declared.moves.Choice.{Choice}
use Rattle.draw_tables.specs.Offers.{IsOffer}
use Rattle.group_draw.specs.Laws.{OfferExists as GroupOfferExists}
use Rattle.pairing_draw.specs.Laws.{OfferExists as PairingOfferExists}
use Rattle.offer_engine.specs.Laws.{OfferExists}
use Rattle.offer_engine.proofs.laws.law_offer_exists.Goals as goal

by_kind : GroupOfferExists → PairingOfferExists → OfferExists
by_kind group pairing file ms formed state = go file.kind refl
  where
    go : (k : Kind) → file.kind ≡ k → (os : List Choice) × IsOffer file ms os
    go Kind.Group is = group file ms is formed state
    go Kind.Pairing is = pairing file ms is state

pub returns : goal.returns
returns c = by_kind c.law_offer_exists.ensures c.law_offer_exists-2.ensures
