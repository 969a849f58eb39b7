use Rattle.std.proofs.Common.{◌+◌, [], ◌∷◌, ◌++◌, sym, ap, ◌∙◌}
use Rattle.list_counts.proofs.CleanWishes.{free_skip, free_push}
use Rattle.list_counts.proofs.filling.free_positions.Goals as goal

pub loop-place-preserved-then-is_wished : goal.loop-place-preserved-then-is_wished
loop-place-preserved-then-is_wished c = c.loop-place.invariant ∙ sym (free_skip c.args.wishes.now c.loop-place.place (sym c.is_wished.ensures ∙ c.if-is_wished.true))

pub loop-place-preserved : goal.loop-place-preserved
loop-place-preserved c =
    c.in_ok-push.ensures.items ∙ ap (λ xs. xs ++ (c.loop-place.place + 1) ∷ []) c.loop-place.invariant
    ∙ sym (free_push c.args.wishes.now c.loop-place.place (sym c.is_wished.ensures ∙ c.if-is_wished.false))
