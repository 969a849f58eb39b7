use Rattle.std.proofs.Common.{◌≡◌, Bool, false, not, Option, Some, None}
use Rattle.std.specs.Prelude.{IfSome, is_some}
use Rattle.offer_engine.specs.Turns.{Wants}
use Rattle.offer_engine.proofs.tests.fault_of_old_offer.Goals as goal

-- where an answer is not none it is some item, which has the property
some_of : {A : Type 0} (P : A → Type 0) (o : Option A) (b : Bool) → IfSome o P → is_some o ≡ not b → b ≡ false → (x : A) × P x
some_of P None b h e f = cc
some_of P (Some x) b h e f = (x, h)

pub give-requires : goal.give-requires
give-requires c =
    let wanted = some_of (λ next. Wants c.args.turn.now next.now) c.wants.result c.is_none.result c.wants.ensures.wanted c.is_none.ensures c.if-is_none.false in
    record { wants = (wanted.0.now, wanted.1) }
