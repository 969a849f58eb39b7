use Rattle.std.proofs.Common.{◌≡◌, drop}
use Rattle.std.specs.Prelude.{find, option_map, ◌==◌}
use Rattle.group_draw.specs.Decoding.{fixed_position}
use Rattle.group_draw.proofs.positions.fixed_position.Given as goal

-- the places left decide
abbrev pub invariant-loop-place : goal.invariant-loop-place
invariant-loop-place l = option_map (λ place. place.position) (find (λ place. place.team.0 == l.team.0) (drop l.place-index l.file.places)) ≡ fixed_position l.file l.team
