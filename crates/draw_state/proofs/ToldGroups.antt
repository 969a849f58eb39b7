-- The group that a reply tells: it is one of the file, and it is told where a team got its position.
use Rattle.std.proofs.Common.{◌≡◌, ℕ, zero, suc, ◌<◌, Bool, true, false, List, [], ◌∷◌, ◌++◌, Option, Some, None, slice_get, refl, sym, subst}
use Rattle.std.specs.Prelude.{◌==◌, if◌then◌else◌}
use Rattle.team_files.specs.declared.team_id.TeamId.{TeamId}
use Rattle.rule_sets.specs.Files.{DrawFile}
use Rattle.draw_tables.specs.declared.moves.Move.{Move}
use Rattle.draw_tables.specs.declared.moves.Move.TheVariants.{Drawn, Placed, Positioned, Paired}
use Rattle.draw_tables.specs.declared.moves.Choice.{Choice}
use Rattle.draw_tables.specs.Lists.{IsAmong}
use Rattle.draw_tables.specs.Moves.{group_by, group_in}
use Rattle.draw_tables.specs.Names.{IsFileMove, AreFileMoves}
use Rattle.draw_tables.specs.States.{phase_of, IsMoveOf}
use Rattle.draw_tables.proofs.Lists.{same_item}
use Rattle.draw_tables.proofs.NamedTeams.{last_of_has}
use Rattle.draw_state.specs.Commands.{Adds}
use Rattle.draw_state.specs.Runs.{group_told}
use Rattle.draw_state.specs.Replies.{IsFileGroup}
use Rattle.draw_state.proofs.GroupPhases.{taken_by, waits_for_position, stands_somewhere, placed_has_group}

-- an item of the first list is one of both together
in_front : {A : Type 0} (xs ys : List A) (x : A) → IsAmong xs x → IsAmong (xs ++ ys) x
in_front {A = A} xs ys x among = (among.0, at xs among.0 among.1)
  where
    at : (zs : List A) (k : ℕ) → slice_get zs k ≡ Some x → slice_get (zs ++ ys) k ≡ Some x
    at [] k e = cc
    at (z ∷ zs) zero e = e
    at (z ∷ zs) (suc k) e = at zs k e

-- the group that moves of the file give a team is of the file
group_named : (file : DrawFile) (ms : List Move) (t : TeamId) (g : ℕ) → AreFileMoves file ms → group_in ms t ≡ Some g → g < file.groups
group_named file ms t g named e = last_of_has (group_by t) (IsFileMove file) (λ k. k < file.groups) of ms g named e
  where
    of : (m : Move) (k : ℕ) → group_by t m ≡ Some k → IsFileMove file m → k < file.groups
    of (Drawn s) k f named = cc
    of (Positioned s q) k f named = cc
    of (Paired r w) k f named = cc
    of (Placed s j) k f named = go (s.0 == t.0) f
      where
        go : (b : Bool) → (if b then Some j else None) ≡ Some k → k < file.groups
        go true h = subst (λ i. i < file.groups) (same_item j k h) named.1
        go false h = cc

-- the group that is told of a move
told_of : (file : DrawFile) (ms : List Move) (m : Move) (more : List Move) → AreFileMoves file ms
    → ((t : TeamId) (q : ℕ) → m ≡ Positioned t q → (g : ℕ) × IsAmong ms (Placed t g)) → IsFileGroup file (m ∷ more) (group_told ms (m ∷ more))
told_of file ms (Drawn t) more named stands = tt
told_of file ms (Placed t g) more named stands = tt
told_of file ms (Paired r w) more named stands = tt
told_of file ms (Positioned t q) more named stands = go (group_in ms t) refl
  where
    go : (o : Option ℕ) → group_in ms t ≡ o → IsFileGroup file (Positioned t q ∷ more) o
    go (Some g) e = group_named file ms t g named e
    go None e = let there = stands t q refl in placed_has_group ms t there.0 there.1 e

-- what a reply tells of the group is of the file
pub told_named : (file : DrawFile) (ms added : List Move) (c : Choice) → Adds file ms c added → AreFileMoves file (ms ++ added)
    → IsFileGroup file added (group_told (ms ++ added) added)
told_named file ms added c adds named =
    subst (λ xs. IsFileGroup file xs (group_told (ms ++ added) xs)) (sym adds.4) (told_of file (ms ++ added) adds.0 adds.1 named stands)
  where
    stands : (t : TeamId) (q : ℕ) → adds.0 ≡ Positioned t q → (g : ℕ) × IsAmong (ms ++ added) (Placed t g)
    stands t q e =
        let is = subst (IsMoveOf file ms c) e adds.2 in
        let there = stands_somewhere file ms t (waits_for_position file ms t (taken_by (phase_of file ms) c (Positioned t q) is.1)) in
        (there.0, in_front ms added (Placed t there.0) there.1)
