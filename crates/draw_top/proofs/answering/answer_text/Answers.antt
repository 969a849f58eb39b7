use Rattle.std.proofs.Common.{◌≡◌, [], refl, ◌∙◌, arith}
use Rattle.draw_lines.specs.Inputs.{lines_of}
use Rattle.draw_top.proofs.OneMoreLine.{goes_on, ends}
use Rattle.draw_top.proofs.answering.answer_text.Goals as goal

pub loop-line-preserved : goal.loop-line-preserved
loop-line-preserved c =
    let before = c.loop-line.invariant in
    let told = rw before.file at c.in_ok-reply.ensures.reply in
    let next = goes_on c.args.file.now (lines_of c.args.commands.now) c.loop-line.turn.moves c.loop-line.answered c.loop-line.text.items
    (lines_of c.loop-line.left.now) (lines_of c.in-Some.after.now) c.in-Some.line.now c.answer_line.new.turn.moves told.0
    c.in-Some.ensures.lines before.so_far told.1 in
    record {
      file = c.in_ok-reply.ensures.file ∙ before.file;
      count = omega (arith, c.in-Some.ensures.shorter, before.count);
      so_far = λ rest run. rw (c.in_ok-extend_from_slice.ensures.items, c.deref.ensures.value, told.2) (next rest run);
    }

pub returns : goal.returns
returns c =
    let empty : c.loop-line.left.now ≡ [] = c.in_default.ensures.lines in
    ends c.args.file.now (lines_of c.args.commands.now) c.loop-line.turn.moves c.loop-line.answered c.loop-line.text.items (lines_of c.loop-line.left.now) (rw empty refl) c.loop-line.invariant.so_far
