-- What a phase tells of the kind of the draw and of the team that it waits for.
use Rattle.std.proofs.Common.{◌≡◌, ℕ, Bool, true, false, List, [], ◌∷◌, Option, Some, None, refl, ap, ◌∙◌, sym}
use Rattle.std.specs.Prelude.{◌==◌, ◌&&◌, option_and_then, is_none}
use Rattle.std.specs.Option.{option_or}
use Rattle.std.proofs.lemmas.Bool.{eq-eqb, and_parts}
use Rattle.team_files.specs.declared.kind.Kind.{Kind}
use Rattle.team_files.specs.declared.team_id.TeamId.{TeamId}
use Rattle.team_files.specs.Members.{where_true}
use Rattle.rule_sets.specs.Files.{DrawFile}
use Rattle.draw_tables.specs.declared.moves.Move.{Move}
use Rattle.draw_tables.specs.declared.moves.Move.TheVariants.{Drawn, Placed, Positioned, Paired}
use Rattle.draw_tables.specs.declared.moves.Phase.{Phase}
use Rattle.draw_tables.specs.declared.moves.Phase.TheVariants.{Runner, Opponent, Team, Group, Position, Complete}
use Rattle.draw_tables.specs.Moves.{last_drawn, last_placed, placed_team, group_by, group_in, position_in}
use Rattle.draw_tables.specs.GroupPhases.{without_group, without_position, has_position_ball, open_pot, group_phase_with}
use Rattle.draw_tables.specs.PairingPhases.{waiting_runner_up, undrawn_runners_up, pairing_phase_with}
use Rattle.draw_tables.specs.States.{phase_by, phase_of}
use Rattle.draw_tables.proofs.Lists.{same_item}

-- what is kept where it passes a test is the item, and passes
kept_by : (test : TeamId → Bool) (o : Option TeamId) (t : TeamId) → option_and_then (λ s. where_true (test s) s) o ≡ Some t → (o ≡ Some t) × (test t ≡ true)
kept_by test None t e = cc
kept_by test (Some s) t e = go (test s) refl e
  where
    go : (b : Bool) → test s ≡ b → where_true b s ≡ Some t → (Some s ≡ Some t) × (test t ≡ true)
    go true is f = (f, ap test (sym (same_item s t f)) ∙ is)
    go false is f = cc

nothing : (o : Option ℕ) → is_none o ≡ true → o ≡ None
nothing None e = refl
nothing (Some n) e = cc

-- the moves give the team a group
abbrev pub HasGroup : List Move → TeamId → Type 0
HasGroup ms t = (group : ℕ) × (group_in ms t ≡ Some group)

-- the team that was placed last stands in a group
placed_stands : (ms : List Move) (t : TeamId) → last_placed ms ≡ Some t → HasGroup ms t
placed_stands [] t e = cc
placed_stands (m ∷ ms) t e = go (last_placed ms) refl e (placed_stands ms t)
  where
    or_first : (o p : Option ℕ) (group : ℕ) → p ≡ Some group → (found : ℕ) × (option_or o p ≡ Some found)
    or_first None p group is = (group, is)
    or_first (Some found) p group is = (found, refl)

    by_move : (n : Move) → placed_team n ≡ Some t → (group : ℕ) × (group_by t n ≡ Some group)
    by_move (Drawn s) f = cc
    by_move (Placed s group) f =
        let same : (s.0 == t.0) ≡ true = eq-eqb s.0 t.0 (ap (λ (x : TeamId). x.0) (same_item s t f)) in
        (group, rw same refl)
    by_move (Positioned s position) f = cc
    by_move (Paired r w) f = cc

    go : (o : Option TeamId) → last_placed ms ≡ o → option_or o (placed_team m) ≡ Some t → (last_placed ms ≡ Some t → HasGroup ms t) → HasGroup (m ∷ ms) t
    go (Some s) is f before = let found = before (is ∙ f) in (found.0, ap (λ o. option_or o (group_by t m)) found.1)
    go None is f before = let here = by_move m f in or_first (group_in ms t) (group_by t m) here.0 here.1

-- the phases of a pairing, and those of a group draw: its last drawn team has no group, its last placed one has a group and no position
abbrev pub Tells : DrawFile → List Move → Phase → Type 0
Tells file ms Runner = file.kind ≡ Kind.Pairing
Tells file ms (Opponent r) = file.kind ≡ Kind.Pairing
Tells file ms (Team pot) = file.kind ≡ Kind.Group
Tells file ms (Group t) = (file.kind ≡ Kind.Group) × (group_in ms t ≡ None)
Tells file ms (Position t) = (file.kind ≡ Kind.Group) × (position_in ms t ≡ None) × HasGroup ms t
Tells file ms Complete = Unit {0}

-- so does the phase after the moves
pub phase_tells : (file : DrawFile) (ms : List Move) → Tells file ms (phase_of file ms)
phase_tells file ms = by_kind file.kind refl
  where
    pairing : file.kind ≡ Kind.Pairing → (o : Option TeamId) (left : List TeamId) → Tells file ms (pairing_phase_with o left)
    pairing is (Some r) left = is
    pairing is None [] = tt
    pairing is None (r ∷ rs) = is

    by_position : file.kind ≡ Kind.Group → (t : TeamId) → without_position file ms ≡ Some t → Tells file ms (Position t)
    by_position is t e =
        let kept = kept_by (λ s. has_position_ball file s && is_none (position_in ms s)) (last_placed ms) t e in
        let both = and_parts (has_position_ball file t) (is_none (position_in ms t)) kept.1 in
        (is, nothing (position_in ms t) both.1, placed_stands ms t kept.0)

    group : file.kind ≡ Kind.Group → (g : Option TeamId) → without_group ms ≡ g → (p : Option TeamId) → without_position file ms ≡ p → (o : Option ℕ) → Tells file ms (group_phase_with g p o)
    group is (Some t) is_g p is_p o = (is, nothing (group_in ms t) (kept_by (λ s. is_none (group_in ms s)) (last_drawn ms) t is_g).1)
    group is None is_g (Some t) is_p o = by_position is t is_p
    group is None is_g None is_p (Some pot) = is
    group is None is_g None is_p None = tt

    by_kind : (k : Kind) → file.kind ≡ k → Tells file ms (phase_by k file ms)
    by_kind Kind.Group is = group is (without_group ms) refl (without_position file ms) refl (open_pot file ms)
    by_kind Kind.Pairing is = pairing is (waiting_runner_up ms) (undrawn_runners_up file ms)
