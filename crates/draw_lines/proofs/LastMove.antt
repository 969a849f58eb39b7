-- The last move of a ball, and the groups that are told.
use Rattle.std.proofs.Common.{◌≡◌, ℕ, ◌<◌, ◌≤◌, List, [], ◌∷◌, ◌++◌, Option, Some, None, refl, ap, ◌∙◌, arith}
use Rattle.std.specs.Prelude.{IfSome}
use Rattle.team_files.specs.declared.kind.Kind.{Kind}
use Rattle.rule_sets.specs.Files.{DrawFile}
use Rattle.rule_sets.specs.Forms.{HasForm}
use Rattle.draw_tables.specs.declared.moves.Move.{Move}
use Rattle.draw_tables.specs.Names.{AreFileMoves, IsFileMove}
use Rattle.draw_state.specs.Replies.{IsFileGroup}
use Rattle.draw_lines.specs.Texts.{move_text, ball_text}

-- the last of moves of the file is one of the file
last_named : (file : DrawFile) (front : List Move) (m : Move) → AreFileMoves file (front ++ m ∷ []) → IsFileMove file m
last_named file [] m h = h.0
last_named file (x ∷ front) m h = last_named file front m h.1

pub last_is_named : (file : DrawFile) (ms front : List Move) (m : Move) → ms ≡ front ++ m ∷ [] → AreFileMoves file ms → IsFileMove file m
last_is_named file ms front m e h = last_named file front m (rw e at h)

ball_text-end : (file : DrawFile) (told : Option ℕ) (front : List Move) (m : Move) → ball_text file told (front ++ m ∷ []) ≡ move_text file told m
ball_text-end file told [] m = refl
ball_text-end file told (x ∷ []) m = refl
ball_text-end file told (x ∷ y ∷ front) m = ball_text-end file told (y ∷ front) m

-- the line of a ball is its last move's
pub ball_text_is : (file : DrawFile) (told : Option ℕ) (ms front : List Move) (m : Move) → ms ≡ front ++ m ∷ [] → ball_text file told ms ≡ move_text file told m
ball_text_is file told ms front m e = ap (ball_text file told) e ∙ ball_text-end file told front m

-- a group that a reply tells is of the file
pub told_of_file : (file : DrawFile) (ms : List Move) (told : Option ℕ) → IsFileGroup file ms told → IfSome told (λ group. group < file.groups)
told_of_file file ms None h = tt
told_of_file file [] (Some group) h = h
told_of_file file (Move.Drawn t ∷ ms) (Some group) h = h
told_of_file file (Move.Placed t g ∷ ms) (Some group) h = h
told_of_file file (Move.Positioned t p ∷ ms) (Some group) h = h
told_of_file file (Move.Paired r w ∷ ms) (Some group) h = h

-- there is a letter for each group of a file
pub few_groups : (file : DrawFile) → HasForm file → file.groups ≤ 26
few_groups file form = by file.kind refl
  where
    by : (k : Kind) → file.kind ≡ k → file.groups ≤ 26
    by Kind.Group is = let most = (form.group is).groups.1 in omega arith
    by Kind.Pairing is = let none = (form.pairing is).groups in omega arith
