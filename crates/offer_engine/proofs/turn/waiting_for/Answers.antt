use Rattle.std.proofs.Common.{◌≡◌, ◌-◌, ◌≤◌, length, take, drop, arith, length-drop, ◌∙◌}
use Rattle.std.proofs.lemmas.List.{take_all}
use Rattle.offer_engine.proofs.TurnCourses.{waits_for}
use Rattle.offer_engine.proofs.turn.waiting_for.Goals as goal

pub returns : goal.returns
returns c =
    let before = c.args.before.now in
    let next = c.args.next in
    let n = length before.moves in
    let rest = drop n next.moves in
    let few : length rest ≤ length next.moves - n = omega (arith, length-drop n next.moves) in
    let all : take (length next.moves - n) rest ≡ rest = take_all (length next.moves - n) rest few in
    let items : c.in_ok-added.added.items ≡ rest = (rw (c.moves.ensures, c.moves-2.ensures) at c.in_ok-added.ensures.items) ∙ all in
    waits_for before next c.new.result c.requires.0 c.requires.1 (c.new.ensures ∙ items)
