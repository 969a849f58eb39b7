use Rattle.std.proofs.Common.{arith}
use Rattle.std.proofs.lemmas.Slice.Eq.{slice_eq-Decides}
use Rattle.std.proofs.lemmas.Bool.Decides.{Decides-eqb}
use Rattle.draw_top.proofs.Words.{one_word}
use Rattle.draw_top.proofs.following.is_follow.Goals as goal

pub returns-in-len1 : goal.returns-in-len1
returns-in-len1 c =
    let same = rw c.as_str.ensures.value at c.eq.ensures in
    one_word c.word-item.result _ c.args.words.now c.eq.result (omega arith) c.word-item.is (slice_eq-Decides Decides-eqb _ _ _ same)
