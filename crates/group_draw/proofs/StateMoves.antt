-- What the moves of a group draw's state say: a team takes one group and one position.
use Rattle.std.proofs.Common.{◌≡◌, ◌≢◌, ℕ, zero, suc, ◌-◌, ◌*◌, ◌<◌, ◌≤◌, Bool, true, false, not, List, [], ◌∷◌, ◌++◌, length, Option, Some, None, slice_get, ◌⊎◌, inl, inr, refl, sym, ap, ◌∙◌, subst, arith, append-nil, append_assoc}
use Rattle.std.specs.Prelude.{◌==◌, ◌&&◌, ◌||◌, option_and_then, is_none}
use Rattle.std.specs.Option.{option_or}
use Rattle.std.specs.List.{AllByRecursion as Each}
use Rattle.std.proofs.lemmas.Bool.{eq-eqb, eqb-false, ne_eqb, and_parts, not-true, or_parts, or_from}
use Rattle.std.proofs.lemmas.List.Elements.{filter_map-append}
use Rattle.std.proofs.lemmas.List.Folds.{list_any-append}
use Rattle.std.proofs.lemmas.Option.{same_Some}
use Rattle.team_files.specs.declared.kind.Kind.{Kind}
use Rattle.team_files.specs.declared.team_id.TeamId.{TeamId}
use Rattle.team_files.specs.Members.{where_true}
use Rattle.rule_sets.specs.Files.{DrawFile}
use Rattle.count_core.specs.declared.lit.Lit.{Lit}
use Rattle.count_core.specs.Problems.{mentions, repeats, are_within}
use Rattle.count_core.proofs.Rules.{within_from_each}
use Rattle.list_counts.proofs.Entries.{append_among, filter_among, in_range, map_among, get_left, later}
use Rattle.list_counts.proofs.Facts.{each_from}
use Rattle.list_counts.proofs.Atoms.{atom_within, same_atom}
use Rattle.draw_tables.specs.declared.moves.Move.{Move}
use Rattle.draw_tables.specs.declared.moves.Move.TheVariants.{Drawn, Placed, Positioned, Paired}
use Rattle.draw_tables.specs.declared.moves.Choice.{Choice}
use Rattle.draw_tables.specs.declared.moves.Choice.TheVariants as choice
use Rattle.draw_tables.specs.declared.moves.Phase.TheVariants as phase
use Rattle.draw_tables.specs.Lists.{IsAmong}
use Rattle.draw_tables.specs.Pots.{groups_of, later_positions, teams_of_pot, pot_of, is_of_pot, IsTeamOf}
use Rattle.draw_tables.specs.Moves.{last_of, last_drawn, last_placed, drawn_team, placed_team, is_drawn, group_by, group_in, position_by, position_in}
use Rattle.draw_tables.specs.GroupPhases.{without_group, without_position, has_position_ball, undrawn_of_pot, has_placed, open_pot, open_groups, groups_for, group_phase, group_phase_with}
use Rattle.draw_tables.specs.States.{phase_by, phase_of, candidates_in, move_in, IsCandidateMove, AreMovesAfter, IsState}
use Rattle.group_draw.specs.Encoding.{atom_of, group_lit, lits_of_moves, lit_of_move, NamesAtom}
use Rattle.draw_tables.proofs.HeldPositions.{last_here, last_same}
use Rattle.draw_tables.proofs.Numbers.{same_id}
use Rattle.group_draw.proofs.Teams.{of_pot}

-- ---- one move more

push_among : {A : Type 0} (xs : List A) (y x : A) → IsAmong (xs ++ y ∷ []) x → IsAmong xs x ⊎ (y ≡ x)
push_among xs y x h = go (append_among xs (y ∷ []) h.0 x h.1)
  where
    last : (k : ℕ) → slice_get (y ∷ []) k ≡ Some x → y ≡ x
    last zero e = same_Some y x e
    last (suc k) e = cc

    go : IsAmong xs x ⊎ IsAmong (y ∷ []) x → IsAmong xs x ⊎ (y ≡ x)
    go (inl g) = inl g
    go (inr g) = inr (last g.0 g.1)

among_more : {A : Type 0} (xs : List A) (y x : A) → IsAmong xs x → IsAmong (xs ++ y ∷ []) x
among_more xs y x h = (h.0, get_left xs (y ∷ []) h.0 x h.1)

module _ {A : Type 0} (f : Move → Option A) where
  pub last_among : (ms : List Move) (a : A) → last_of f ms ≡ Some a → (m : Move) × IsAmong ms m × (f m ≡ Some a)
  last_among [] a e = cc
  last_among (n ∷ ms) a e = go (last_of f ms) refl e (last_among ms a)
    where
      go : (o : Option A) → last_of f ms ≡ o → option_or o (f n) ≡ Some a → (last_of f ms ≡ Some a → (m : Move) × IsAmong ms m × (f m ≡ Some a))
          → (m : Move) × IsAmong (n ∷ ms) m × (f m ≡ Some a)
      go (Some b) is e rest = let r = rest (is ∙ e) in (r.0, later n ms r.0 r.1, r.2)
      go None is e rest = (n, (0, refl), e)

where_so : (o : Option TeamId) (test : TeamId → Bool) (s : TeamId) → option_and_then (λ t. where_true (test t) t) o ≡ Some s → (o ≡ Some s) × (test s ≡ true)
where_so None test s e = cc
where_so (Some t) test s e = go (test t) refl e
  where
    go : (b : Bool) → test t ≡ b → where_true b t ≡ Some s → (Some t ≡ Some s) × (test s ≡ true)
    go true is f = (f, ap test (sym (same_Some t s f)) ∙ is)
    go false is f = cc

nothing : {A : Type 0} (o : Option A) → is_none o ≡ true → o ≡ None
nothing None e = refl
nothing (Some a) e = cc

-- ---- what a candidate's move adds

module _ (file : DrawFile) where
  abbrev Adds : List Move → Move → Type 0
  Adds before (Drawn t) = IsTeamOf file t
  Adds before (Placed t group) = (without_group before ≡ Some t) × (group < file.groups)
  Adds before (Positioned t position) = (without_position file before ≡ Some t) × (2 ≤ position) × (position ≤ file.pots)
  Adds before (Paired r w) = ⊥

  module _ (before : List Move) where
    drawn_of : (pot : ℕ) (t : TeamId) → IsAmong (candidates_in file before (phase.Team pot)) (choice.Team t) → IsTeamOf file t
    drawn_of pot t h =
        let m = map_among (λ s. choice.Team s) (undrawn_of_pot file before pot) h.0 (choice.Team t) h.1 in
        let same : m.0 ≡ t = (let e = m.2 in cc) in
        let f = filter_among (λ s. not (is_drawn s before)) (teams_of_pot pot file) h.0 m.0 m.1 in
        subst (IsTeamOf file) same (of_pot file pot f.1.0 m.0 f.1.1)

    taken_of : (t : TeamId) (group : ℕ) → IsAmong (candidates_in file before (phase.Group t)) (choice.Group group) → group < file.groups
    taken_of t group h =
        let m = map_among (λ k. choice.Group k) (groups_for file before t) h.0 (choice.Group group) h.1 in
        let same : m.0 ≡ group = (let e = m.2 in cc) in
        subst (λ k. k < file.groups) same (within (pot_of file t) h.0 m.0 m.1)
      where
        within : (o : Option ℕ) (k g : ℕ) → slice_get (open_groups file before o) k ≡ Some g → g < file.groups
        within None k g e = cc
        within (Some pot) k g e =
            let f = filter_among (λ j. not (has_placed file before pot j)) (groups_of file) k g e in
            let r = in_range 0 file.groups f.1.0 g f.1.1 in
            let u = r.1 in
            omega arith

    given_of : (t : TeamId) (position : ℕ) → IsAmong (candidates_in file before (phase.Position t)) (choice.Position position) → (2 ≤ position) × (position ≤ file.pots)
    given_of t position h =
        let m = map_among (λ k. choice.Position k) (later_positions file) h.0 (choice.Position position) h.1 in
        let same : m.0 ≡ position = (let e = m.2 in cc) in
        let r = in_range 2 (file.pots - 1) h.0 m.0 m.1 in
        let l = r.0 in
        let u = r.1 in
        (omega arith, omega arith)

    by_phase : (g : Option TeamId) → without_group before ≡ g → (p : Option TeamId) → without_position file before ≡ p → (o : Option ℕ) (c : Choice) (m : Move)
        → IsAmong (candidates_in file before (group_phase_with g p o)) c → move_in (group_phase_with g p o) c ≡ Some m → Adds before m
    by_phase (Some t) is_g p is_p o (choice.Group k) m h e = subst (Adds before) (same_Some (Placed t k) m e) (is_g, taken_of t k h)
    by_phase (Some t) is_g p is_p o (choice.Team s) m h e = cc
    by_phase (Some t) is_g p is_p o (choice.Position k) m h e = cc
    by_phase None is_g (Some t) is_p o (choice.Position k) m h e = subst (Adds before) (same_Some (Positioned t k) m e) (is_p, (given_of t k h).0, (given_of t k h).1)
    by_phase None is_g (Some t) is_p o (choice.Team s) m h e = cc
    by_phase None is_g (Some t) is_p o (choice.Group k) m h e = cc
    by_phase None is_g None is_p (Some pot) (choice.Team t) m h e = subst (Adds before) (same_Some (Drawn t) m e) (drawn_of pot t h)
    by_phase None is_g None is_p (Some pot) (choice.Group k) m h e = cc
    by_phase None is_g None is_p (Some pot) (choice.Position k) m h e = cc
    by_phase None is_g None is_p None c m h e = cc

    adds : file.kind ≡ Kind.Group → (m : Move) → IsCandidateMove file before m → Adds before m
    adds kind m (c, is) =
        let phase_is : phase_of file before ≡ group_phase file before = ap (λ k. phase_by k file before) kind in
        by_phase (without_group before) refl (without_position file before) refl (open_pot file before) c m
        (subst (λ ph. IsAmong (candidates_in file before ph) c) phase_is is.0)
        (subst (λ ph. move_in ph c ≡ Some m) phase_is is.1)

-- ---- what the moves of a state say

-- the team has the position by a ball, and stands in a group by the moves
pub record IsPositioned (file : DrawFile) (ms : List Move) (t : TeamId) (position : ℕ) : Type 0 where
  pub low : 2 ≤ position
  pub high : position ≤ file.pots
  pub later_pot : is_of_pot file 1 t ≡ false
  pub is : position_in ms t ≡ Some position
  pub group : ℕ
  pub placed : IsAmong ms (Placed t group)

-- each team is of the file, takes one group of the file, and has one position
pub record SaysOnce (file : DrawFile) (ms : List Move) : Type 0 where
  pub drawn : (t : TeamId) → IsAmong ms (Drawn t) → IsTeamOf file t
  pub placed : (t : TeamId) (group : ℕ) → IsAmong ms (Placed t group) → IsTeamOf file t × (group < file.groups) × (group_in ms t ≡ Some group)
  pub positioned : (t : TeamId) (position : ℕ) → IsAmong ms (Positioned t position) → IsPositioned file ms t position
  pub others : (r w : TeamId) → ¬ IsAmong ms (Paired r w)
  pub lits : repeats (lits_of_moves file ms) ≡ false

-- ---- the literals of the moves

repeats_push : (xs : List Lit) (x : Lit) → repeats xs ≡ false → mentions x.atom.0 xs ≡ false → repeats (xs ++ x ∷ []) ≡ false
repeats_push [] x h g = refl
repeats_push (l ∷ ls) x h g =
    let apart = or_parts (mentions l.atom.0 ls) (repeats ls) h in
    let new = or_parts (l.atom.0 == x.atom.0) (mentions x.atom.0 ls) g in
    let other : (x.atom.0 == l.atom.0) ≡ false = ne_eqb x.atom.0 l.atom.0 (λ e. eqb-false l.atom.0 x.atom.0 new.0 (sym e)) in
    or_from (mentions l.atom.0 (ls ++ x ∷ [])) (repeats (ls ++ x ∷ []))
    (list_any-append (λ y. y.atom.0 == l.atom.0) ls (x ∷ []) ∙ or_from (mentions l.atom.0 ls) ((x.atom.0 == l.atom.0) || false) apart.0 (or_from (x.atom.0 == l.atom.0) false other refl))
    (repeats_push ls x apart.1 new.1)

module _ (file : DrawFile) where
  pub lits_push : (ms : List Move) (m : Move) → lits_of_moves file (ms ++ m ∷ []) ≡ lits_of_moves file ms ++ lits_of_moves file (m ∷ [])
  lits_push ms m = filter_map-append (lit_of_move file) ms (m ∷ [])

  lits_kept : (ms : List Move) (m : Move) → lit_of_move file m ≡ None → repeats (lits_of_moves file ms) ≡ false → repeats (lits_of_moves file (ms ++ m ∷ [])) ≡ false
  lits_kept ms m none h = rw (lits_push ms m, none, append-nil) h

  -- a team without a group is in none of the literals
  unmentioned : (s : TeamId) (group : ℕ) → group < file.groups → (ms : List Move)
      → ((t : TeamId) (k : ℕ) → IsAmong ms (Placed t k) → (t.0 ≢ s.0) × (k < file.groups))
      → mentions (atom_of file group s) (lits_of_moves file ms) ≡ false
  unmentioned s group lt [] h = refl
  unmentioned s group lt (Drawn t ∷ ms) h = unmentioned s group lt ms (λ r k g. h r k (later (Drawn t) ms (Placed r k) g))
  unmentioned s group lt (Placed t k ∷ ms) h =
      let here = h t k (0, refl) in
      or_from (atom_of file k t == atom_of file group s) (mentions (atom_of file group s) (lits_of_moves file ms))
      (ne_eqb (atom_of file k t) (atom_of file group s) (λ e. here.0 (same_atom file.groups t.0 s.0 k group here.1 lt e).0))
      (unmentioned s group lt ms (λ r j g. h r j (later (Placed t k) ms (Placed r j) g)))
  unmentioned s group lt (Positioned t p ∷ ms) h = unmentioned s group lt ms (λ r k g. h r k (later (Positioned t p) ms (Placed r k) g))
  unmentioned s group lt (Paired r w ∷ ms) h = unmentioned s group lt ms (λ t k g. h t k (later (Paired r w) ms (Placed t k) g))

  -- ---- one move more

  module _ (ms : List Move) (says : SaysOnce file ms) where
    keep_positioned : (m : Move) (t : TeamId) (position : ℕ) → position_by t m ≡ None → IsAmong ms (Positioned t position) → IsPositioned file (ms ++ m ∷ []) t position
    keep_positioned m t position none h =
        let p = says.positioned t position h in
        record {
          low = p.low;
          high = p.high;
          later_pot = p.later_pot;
          is = last_same (position_by t) ms m none ∙ p.is;
          group = p.group;
          placed = among_more ms m (Placed t p.group) p.placed;
        }

    one_drawn : (s : TeamId) → IsTeamOf file s → SaysOnce file (ms ++ Drawn s ∷ [])
    one_drawn s of_file = record {
      drawn = λ t h. team t (push_among ms (Drawn s) (Drawn t) h);
      placed = λ t g h. place t g (push_among ms (Drawn s) (Placed t g) h);
      positioned = λ t p h. position t p (push_among ms (Drawn s) (Positioned t p) h);
      others = λ r w h. other r w (push_among ms (Drawn s) (Paired r w) h);
      lits = lits_kept ms (Drawn s) refl says.lits;
    }
      where
        team : (t : TeamId) → IsAmong ms (Drawn t) ⊎ (Drawn s ≡ Drawn t) → IsTeamOf file t
        team t (inl h) = says.drawn t h
        team t (inr e) = let same : s ≡ t = cc in subst (IsTeamOf file) same of_file

        place : (t : TeamId) (g : ℕ) → IsAmong ms (Placed t g) ⊎ (Drawn s ≡ Placed t g) → IsTeamOf file t × (g < file.groups) × (group_in (ms ++ Drawn s ∷ []) t ≡ Some g)
        place t g (inl h) = let p = says.placed t g h in (p.0, p.1, last_same (group_by t) ms (Drawn s) refl ∙ p.2)
        place t g (inr e) = cc

        position : (t : TeamId) (p : ℕ) → IsAmong ms (Positioned t p) ⊎ (Drawn s ≡ Positioned t p) → IsPositioned file (ms ++ Drawn s ∷ []) t p
        position t p (inl h) = keep_positioned (Drawn s) t p refl h
        position t p (inr e) = cc

        other : (r w : TeamId) → IsAmong ms (Paired r w) ⊎ (Drawn s ≡ Paired r w) → ⊥
        other r w (inl h) = says.others r w h
        other r w (inr e) = cc

    one_placed : (s : TeamId) (k : ℕ) → without_group ms ≡ Some s → k < file.groups → SaysOnce file (ms ++ Placed s k ∷ [])
    one_placed s k waits lt = record {
      drawn = λ t h. team t (push_among ms (Placed s k) (Drawn t) h);
      placed = λ t g h. place t g (push_among ms (Placed s k) (Placed t g) h);
      positioned = λ t p h. position t p (push_among ms (Placed s k) (Positioned t p) h);
      others = λ r w h. other r w (push_among ms (Placed s k) (Paired r w) h);
      lits = rw (lits_push ms (Placed s k)) (repeats_push (lits_of_moves file ms) (group_lit file k s) says.lits (unmentioned s k lt ms (λ t g h. (differs t g h, (says.placed t g h).1))));
    }
      where
        last : (last_drawn ms ≡ Some s) × (is_none (group_in ms s) ≡ true)
        last = where_so (last_drawn ms) (λ t. is_none (group_in ms t)) s waits

        of_file : IsTeamOf file s
        of_file = let m = last_among drawn_team ms s last.0 in says.drawn s (subst (IsAmong ms) (drawn_is m.0 m.2) m.1)
          where
            drawn_is : (m : Move) → drawn_team m ≡ Some s → m ≡ Drawn s
            drawn_is (Drawn t) e = ap Drawn (same_Some t s e)
            drawn_is (Placed t g) e = cc
            drawn_is (Positioned t p) e = cc
            drawn_is (Paired r w) e = cc

        differs : (t : TeamId) (g : ℕ) → IsAmong ms (Placed t g) → t.0 ≢ s.0
        differs t g h e =
            let p = says.placed t g h in
            let none = nothing (group_in ms s) last.1 in
            let same = same_id t s e in
            let has : group_in ms s ≡ Some g = subst (λ r. group_in ms r ≡ Some g) same p.2 in
            cc

        team : (t : TeamId) → IsAmong ms (Drawn t) ⊎ (Placed s k ≡ Drawn t) → IsTeamOf file t
        team t (inl h) = says.drawn t h
        team t (inr e) = cc

        place : (t : TeamId) (g : ℕ) → IsAmong ms (Placed t g) ⊎ (Placed s k ≡ Placed t g) → IsTeamOf file t × (g < file.groups) × (group_in (ms ++ Placed s k ∷ []) t ≡ Some g)
        place t g (inl h) =
            let p = says.placed t g h in
            let other : (s.0 == t.0) ≡ false = ne_eqb s.0 t.0 (λ e. differs t g h (sym e)) in
            (p.0, p.1, last_same (group_by t) ms (Placed s k) (rw other refl) ∙ p.2)
        place t g (inr e) =
            let team_is : s ≡ t = cc in
            let group_is : k ≡ g = cc in
            let here : (s.0 == t.0) ≡ true = eq-eqb s.0 t.0 (ap (λ (x : TeamId). x.0) team_is) in
            (subst (IsTeamOf file) team_is of_file, subst (λ j. j < file.groups) group_is lt, last_here (group_by t) ms (Placed s k) g (rw here (ap Some group_is)))

        position : (t : TeamId) (p : ℕ) → IsAmong ms (Positioned t p) ⊎ (Placed s k ≡ Positioned t p) → IsPositioned file (ms ++ Placed s k ∷ []) t p
        position t p (inl h) = keep_positioned (Placed s k) t p refl h
        position t p (inr e) = cc

        other : (r w : TeamId) → IsAmong ms (Paired r w) ⊎ (Placed s k ≡ Paired r w) → ⊥
        other r w (inl h) = says.others r w h
        other r w (inr e) = cc

    one_positioned : (s : TeamId) (q : ℕ) → without_position file ms ≡ Some s → 2 ≤ q → q ≤ file.pots → SaysOnce file (ms ++ Positioned s q ∷ [])
    one_positioned s q waits low high = record {
      drawn = λ t h. team t (push_among ms (Positioned s q) (Drawn t) h);
      placed = λ t g h. place t g (push_among ms (Positioned s q) (Placed t g) h);
      positioned = λ t p h. position t p (push_among ms (Positioned s q) (Positioned t p) h);
      others = λ r w h. other r w (push_among ms (Positioned s q) (Paired r w) h);
      lits = lits_kept ms (Positioned s q) refl says.lits;
    }
      where
        last : (last_placed ms ≡ Some s) × ((has_position_ball file s && is_none (position_in ms s)) ≡ true)
        last = where_so (last_placed ms) (λ t. has_position_ball file t && is_none (position_in ms t)) s waits

        parts : (has_position_ball file s ≡ true) × (is_none (position_in ms s) ≡ true)
        parts = and_parts (has_position_ball file s) (is_none (position_in ms s)) last.1

        stands : (g : ℕ) × IsAmong ms (Placed s g)
        stands = let m = last_among placed_team ms s last.0 in from m.0 m.2 m.1
          where
            from : (m : Move) → placed_team m ≡ Some s → IsAmong ms m → (g : ℕ) × IsAmong ms (Placed s g)
            from (Drawn t) e h = cc
            from (Placed t g) e h = (g, subst (λ r. IsAmong ms (Placed r g)) (same_Some t s e) h)
            from (Positioned t p) e h = cc
            from (Paired r w) e h = cc

        differs : (t : TeamId) (p : ℕ) → IsAmong ms (Positioned t p) → t.0 ≢ s.0
        differs t p h e =
            let had = (says.positioned t p h).is in
            let none = nothing (position_in ms s) parts.1 in
            let has : position_in ms s ≡ Some p = subst (λ r. position_in ms r ≡ Some p) (same_id t s e) had in
            cc

        team : (t : TeamId) → IsAmong ms (Drawn t) ⊎ (Positioned s q ≡ Drawn t) → IsTeamOf file t
        team t (inl h) = says.drawn t h
        team t (inr e) = cc

        place : (t : TeamId) (g : ℕ) → IsAmong ms (Placed t g) ⊎ (Positioned s q ≡ Placed t g) → IsTeamOf file t × (g < file.groups) × (group_in (ms ++ Positioned s q ∷ []) t ≡ Some g)
        place t g (inl h) = let p = says.placed t g h in (p.0, p.1, last_same (group_by t) ms (Positioned s q) refl ∙ p.2)
        place t g (inr e) = cc

        position : (t : TeamId) (p : ℕ) → IsAmong ms (Positioned t p) ⊎ (Positioned s q ≡ Positioned t p) → IsPositioned file (ms ++ Positioned s q ∷ []) t p
        position t p (inl h) =
            let other : (s.0 == t.0) ≡ false = ne_eqb s.0 t.0 (λ e. differs t p h (sym e)) in
            keep_positioned (Positioned s q) t p (rw other refl) h
        position t p (inr e) =
            let team_is : s ≡ t = cc in
            let position_is : q ≡ p = cc in
            let here : (s.0 == t.0) ≡ true = eq-eqb s.0 t.0 (ap (λ (x : TeamId). x.0) team_is) in
            record {
              low = subst (λ j. 2 ≤ j) position_is low;
              high = subst (λ j. j ≤ file.pots) position_is high;
              later_pot = subst (λ r. is_of_pot file 1 r ≡ false) team_is (not-true (is_of_pot file 1 s) parts.0);
              is = last_here (position_by t) ms (Positioned s q) p (rw here (ap Some position_is));
              group = stands.0;
              placed = among_more ms (Positioned s q) (Placed t stands.0) (subst (λ r. IsAmong ms (Placed r stands.0)) team_is stands.1);
            }

        other : (r w : TeamId) → IsAmong ms (Paired r w) ⊎ (Positioned s q ≡ Paired r w) → ⊥
        other r w (inl h) = says.others r w h
        other r w (inr e) = cc

  one_more : (ms : List Move) (m : Move) → SaysOnce file ms → Adds file ms m → SaysOnce file (ms ++ m ∷ [])
  one_more ms (Drawn t) says a = one_drawn ms says t a
  one_more ms (Placed t k) says a = one_placed ms says t k a.0 a.1
  one_more ms (Positioned t p) says a = one_positioned ms says t p a.0 a.1 a.2
  one_more ms (Paired r w) says a = absurd a

  module _ (kind : file.kind ≡ Kind.Group) where
    says_after : (before ms : List Move) → SaysOnce file before → AreMovesAfter file before ms → SaysOnce file (before ++ ms)
    says_after before [] says h = rw append-nil says
    says_after before (m ∷ ms) says h =
        let whole = says_after (before ++ m ∷ []) ms (one_more before m says (adds file before kind m h.0)) h.1 in
        rw append_assoc at whole

    -- a state says of each team one group and one position
    pub state_says : (ms : List Move) → IsState file ms → SaysOnce file ms
    state_says ms state = says_after [] ms none state
      where
        none : SaysOnce file []
        none = record {
          drawn = λ t h. empty (Drawn t) h;
          placed = λ t g h. empty (Placed t g) h;
          positioned = λ t p h. empty (Positioned t p) h;
          others = λ r w h. empty (Paired r w) h;
          lits = refl;
        }
          where
            empty : {A : Type 0} (m : Move) → IsAmong [] m → A
            empty m h = let e = h.1 in cc

  -- the literals of the moves are over atoms of the file
  pub lits_within : (ms : List Move) → SaysOnce file ms → are_within (length file.teams * file.groups) (lits_of_moves file ms) ≡ true
  lits_within ms says = within_from_each (length file.teams * file.groups) (lits_of_moves file ms) (each ms (λ t g h. let p = says.placed t g h in (p.0, p.1)))
    where
      each : (ms : List Move) → ((t : TeamId) (g : ℕ) → IsAmong ms (Placed t g) → IsTeamOf file t × (g < file.groups)) → Each (λ l. l.atom.0 < length file.teams * file.groups) (lits_of_moves file ms)
      each [] h = tt
      each (Drawn t ∷ ms) h = each ms (λ r k g. h r k (later (Drawn t) ms (Placed r k) g))
      each (Placed t g ∷ ms) h =
          let here = h t g (0, refl) in
          (atom_within (length file.teams) file.groups t.0 g here.0 here.1, each ms (λ r k m. h r k (later (Placed t g) ms (Placed r k) m)))
      each (Positioned t p ∷ ms) h = each ms (λ r k g. h r k (later (Positioned t p) ms (Placed r k) g))
      each (Paired r w ∷ ms) h = each ms (λ t k g. h t k (later (Paired r w) ms (Placed t k) g))

-- where a state's moves give a team its group, both are of the file
pub names_atoms : (file : DrawFile) (kind : file.kind ≡ Kind.Group) (ms : List Move) → IsState file ms → Each (NamesAtom file) ms
names_atoms file kind ms state = each_from (NamesAtom file) ms (λ k m e. of m (k, e))
  where
    of : (m : Move) → IsAmong ms m → NamesAtom file m
    of (Drawn t) h = tt
    of (Placed t g) h = let p = (state_says file kind ms state).placed t g h in (p.0, p.1)
    of (Positioned t p) h = tt
    of (Paired r w) h = tt

-- the literals of a state's moves make a question
pub are_questions : (file : DrawFile) (ms : List Move) → file.kind ≡ Kind.Group → IsState file ms
    → (are_within (length file.teams * file.groups) (lits_of_moves file ms) ≡ true) × (repeats (lits_of_moves file ms) ≡ false)
are_questions file ms kind h = let says = state_says file kind ms h in (lits_within file ms says, says.lits)
