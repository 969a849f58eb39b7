use Rattle.std.proofs.Common.{inl, inr, refl, sym, ◌∙◌}
use Rattle.std.proofs.lemmas.Bool.{false≢true}
use Rattle.team_files.specs.declared.team_id.TeamId.{TeamId}
use Rattle.draw_tables.specs.Positions.{IsTaken, IsHeld}
use Rattle.draw_tables.proofs.holders.holder_of.Goals as goal

pub returns-then-has_other_place : goal.returns-then-has_other_place
returns-then-has_other_place c = inr (refl, c.has_other_place.ensures.0 c.if-has_other_place.true, none)
  where
    none : (other : TeamId) → ¬ IsTaken c.args.file.now c.args.moves.now c.args.team c.args.group c.args.position other
    none other (inl h) = c.in_default.ensures other h
    none other (inr h) = c.in_default-taker_by_place.ensures other h

pub returns : goal.returns
returns c = none
  where
    none : ¬ IsHeld c.args.file.now c.args.moves.now c.args.team c.args.group c.args.position
    none (inl (other, inl h)) = c.in_default.ensures other h
    none (inl (other, inr h)) = c.in_default-taker_by_place.ensures other h
    none (inr h) = false≢true (sym c.if-has_other_place.false ∙ c.has_other_place.ensures.1 h)
