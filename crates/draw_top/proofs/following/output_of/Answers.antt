use Rattle.draw_top.proofs.following.output_of.Goals as goal

pub returns-in_ok-text-in-Ok : goal.returns-in_ok-text-in-Ok
returns-in_ok-text-in-Ok c = (c.in-Ok.file, rw c.split_input.ensures.head at c.in-Ok.ensures.ok, rw c.split_input.ensures.rest at c.in_ok-text-in-Ok.ensures)

pub returns-in_ok-line-in-Err : goal.returns-in_ok-line-in-Err
returns-in_ok-line-in-Err c = (c.in-Err.fault, rw c.split_input.ensures.head at (c.in-Err.ensures.fault c.in_ok-line-in-Err.ensures.fault), c.in_ok-line-in-Err.ensures.line)
