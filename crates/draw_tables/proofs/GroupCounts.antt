-- Counts of one: the item that is counted, and only that. Each place of a table with as many places as its file has groups times positions, each taken once, is one of the file.
use Rattle.std.proofs.Common.{◌≡◌, ◌≢◌, ℕ, zero, suc, ◌+◌, ◌*◌, ◌<◌, ◌≤◌, ◌⊎◌, inl, inr, Bool, true, false, List, [], ◌∷◌, length, Some, slice_get, cond, arith, refl, sym, ap, ◌∙◌, subst, mul-zero, mul-suc}
use Rattle.std.specs.Prelude.{◌==◌, ◌&&◌, count_by}
use Rattle.std.specs.List.{sum_by, range_with_len}
use Rattle.std.proofs.lemmas.Bool.{ne_eqb, eqb-true, eqb-false, cases_Bool, cases_lt}
use Rattle.std.proofs.lemmas.List.Sums.{sum_by-cons}
use Rattle.std.proofs.lemmas.List.FromFn.{length-range_with_len}
use Rattle.team_files.specs.declared.team.Team.{Team}
use Rattle.draw_tables.specs.declared.group_place.GroupPlace.{GroupPlace}
use Rattle.draw_tables.specs.Lists.{IsAmong}
use Rattle.draw_tables.specs.GroupTables.{is_at, number_at}
use Rattle.draw_tables.proofs.Lists.{same_item, in_range}
use Rattle.draw_tables.proofs.PotSteps.{counts, counts_not}

-- ---- counts of one

module _ {A : Type 0} (p : A → Bool) where
  -- where none is counted none passes
  none_counted : (xs : List A) → count_by p xs ≡ 0 → (k : ℕ) (x : A) → slice_get xs k ≡ Some x → p x ≡ true → ⊥
  none_counted [] e k x f holds = cc
  none_counted (y ∷ ys) e zero x f holds = let same : y ≡ x = same_item y x f in let one = counts p y ys (ap p same ∙ holds) in absurd (omega arith)
  none_counted (y ∷ ys) e (suc k) x f holds = go (cases_Bool (p y)) (λ c. none_counted ys c k x f holds)
    where
      go : (p y ≡ true) ⊎ (p y ≡ false) → (count_by p ys ≡ 0 → ⊥) → ⊥
      go (inl t) rest = let one = counts p y ys t in absurd (omega arith)
      go (inr t) rest = let none = counts_not p y ys t in rest (sym none ∙ e)

  -- where one is counted there is one
  pub one_counted : (xs : List A) → count_by p xs ≡ 1 → (x : A) × IsAmong xs x × (p x ≡ true)
  one_counted [] e = absurd (omega arith)
  one_counted (y ∷ ys) e = go (cases_Bool (p y)) (one_counted ys)
    where
      go : (p y ≡ true) ⊎ (p y ≡ false) → (count_by p ys ≡ 1 → (x : A) × IsAmong ys x × (p x ≡ true)) → (x : A) × IsAmong (y ∷ ys) x × (p x ≡ true)
      go (inl t) rest = (y, (0, refl), t)
      go (inr t) rest = let none = counts_not p y ys t in let h = rest (sym none ∙ e) in (h.0, (suc h.1.0, h.1.1), h.2)

  -- and only one
  pub only_counted : (xs : List A) → count_by p xs ≡ 1 → (i j : ℕ) (x y : A) → slice_get xs i ≡ Some x → p x ≡ true → slice_get xs j ≡ Some y → p y ≡ true → i ≡ j
  only_counted [] e i j x y f t g u = cc
  only_counted (z ∷ zs) e zero zero x y f t g u = refl
  only_counted (z ∷ zs) e zero (suc j) x y f t g u =
      let same : z ≡ x = same_item z x f in
      let one = counts p z zs (ap p same ∙ t) in
      absurd (none_counted zs (omega arith) j y g u)
  only_counted (z ∷ zs) e (suc i) zero x y f t g u =
      let same : z ≡ y = same_item z y g in
      let one = counts p z zs (ap p same ∙ u) in
      absurd (none_counted zs (omega arith) i x f t)
  only_counted (z ∷ zs) e (suc i) (suc j) x y f t g u = go (cases_Bool (p z)) (λ c. only_counted zs c i j x y f t g u)
    where
      go : (p z ≡ true) ⊎ (p z ≡ false) → (count_by p zs ≡ 1 → i ≡ j) → suc i ≡ suc j
      go (inl b) rest = let one = counts p z zs b in absurd (none_counted zs (omega arith) i x f t)
      go (inr b) rest = let none = counts_not p z zs b in ap suc (rest (sym none ∙ e))

-- ---- sums of two lists

sum_of_both : {A : Type 0} (f g : A → ℕ) (xs : List A) → sum_by (λ x. f x + g x) xs ≡ sum_by f xs + sum_by g xs
sum_of_both f g [] = refl
sum_of_both f g (x ∷ xs) =
    let a = sum_by-cons (λ y. f y + g y) x xs in
    let b = sum_by-cons f x xs in
    let c = sum_by-cons g x xs in
    let rest = sum_of_both f g xs in
    omega arith

sum_of_none : {A : Type 0} (xs : List A) → sum_by (λ _. 0) xs ≡ 0
sum_of_none [] = refl
sum_of_none (x ∷ xs) = let a = sum_by-cons (λ _. 0) x xs in let rest = sum_of_none xs in omega arith

sum_same : {A : Type 0} (f g : A → ℕ) (xs : List A) → ((x : A) → IsAmong xs x → f x ≡ g x) → sum_by f xs ≡ sum_by g xs
sum_same f g [] h = refl
sum_same f g (x ∷ xs) h =
    let a = sum_by-cons f x xs in
    let b = sum_by-cons g x xs in
    let here = h x (0, refl) in
    let rest = sum_same f g xs (λ y among. h y (suc among.0, among.1)) in
    omega arith

sum_of_ones : {A : Type 0} (f : A → ℕ) (c : ℕ) (xs : List A) → ((x : A) → IsAmong xs x → f x ≡ c) → sum_by f xs ≡ c * length xs
sum_of_ones f c [] h = sym (mul-zero c)
sum_of_ones f c (x ∷ xs) h =
    let a = sum_by-cons f x xs in
    let here = h x (0, refl) in
    let rest = sum_of_ones f c xs (λ y among. h y (suc among.0, among.1)) in
    a ∙ omega (arith, here, rest, mul-suc c (length xs))

-- the sums by rows and by columns are one
pub sums_swap : {A B : Type 0} (f : A → B → ℕ) (xs : List A) (ys : List B) → sum_by (λ x. sum_by (f x) ys) xs ≡ sum_by (λ y. sum_by (λ x. f x y) xs) ys
sums_swap f [] ys = sym (sum_of_none ys)
sums_swap f (x ∷ xs) ys =
    let a = sum_by-cons (λ z. sum_by (f z) ys) x xs in
    let rest = sums_swap f xs ys in
    let both = sum_of_both (f x) (λ y. sum_by (λ z. f z y) xs) ys in
    let each = sum_same (λ y. sum_by (λ z. f z y) (x ∷ xs)) (λ y. f x y + sum_by (λ z. f z y) xs) ys (λ y _. sum_by-cons (λ z. f z y) x xs) in
    a ∙ ap (λ n. sum_by (f x) ys + n) rest ∙ sym both ∙ sym each

-- ---- numbers of a range

-- a number below a range is not counted in it
not_below : (x a n : ℕ) → x < a → count_by (λ p. x == p) (range_with_len a n) ≡ 0
not_below x a zero lt = refl
not_below x a (suc n) lt = counts_not (λ p. x == p) a (range_with_len (a + 1) n) (ne_eqb x a (λ e. omega arith)) ∙ not_below x (a + 1) n (omega arith)

-- a number of a range counts once in it, another does not
pub in_range_once : (x a n : ℕ) → a ≤ x → x < a + n → count_by (λ p. x == p) (range_with_len a n) ≡ 1
in_range_once x a zero low high = absurd (omega arith)
in_range_once x a (suc n) low high = go (cases_Bool (x == a)) (λ more. in_range_once x (a + 1) n more (omega arith))
  where
    go : ((x == a) ≡ true) ⊎ ((x == a) ≡ false) → (a + 1 ≤ x → count_by (λ p. x == p) (range_with_len (a + 1) n) ≡ 1) → count_by (λ p. x == p) (range_with_len a (suc n)) ≡ 1
    go (inl e) later =
        let same = eqb-true x a e in
        let one = counts (λ p. x == p) a (range_with_len (a + 1) n) e in
        let rest = not_below x (a + 1) n (omega arith) in
        omega arith
    go (inr e) later =
        let apart : x ≢ a = eqb-false x a e in
        counts_not (λ p. x == p) a (range_with_len (a + 1) n) e ∙ later (omega arith)

pub out_of_range : (x a n : ℕ) → (a ≤ x → x < a + n → ⊥) → count_by (λ p. x == p) (range_with_len a n) ≡ 0
out_of_range x a zero out = refl
out_of_range x a (suc n) out = counts_not (λ p. x == p) a (range_with_len (a + 1) n) (ne_eqb x a (λ e. out (omega arith) (omega arith))) ∙ out_of_range x (a + 1) n (λ low high. out (omega arith) (omega arith))

-- ---- each place is one of the file

module _ (groups positions : ℕ) where
  -- how many of the file's places the place is
  abbrev hits : GroupPlace → ℕ
  hits x = sum_by (λ g. count_by (λ p. is_at g p x) (range_with_len 1 positions)) (range_with_len 0 groups)

  -- the positions of one group that the place is
  hits_in : (x : GroupPlace) (g : ℕ) → count_by (λ p. is_at g p x) (range_with_len 1 positions) ≡ cond (x.group == g) (count_by (λ p. x.position == p) (range_with_len 1 positions)) 0
  hits_in x g = go (x.group == g)
    where
      go : (b : Bool) → count_by (λ p. b && x.position == p) (range_with_len 1 positions) ≡ cond b (count_by (λ p. x.position == p) (range_with_len 1 positions)) 0
      go true = refl
      go false = sum_of_none (range_with_len 1 positions)

  -- so many hits where the position counts so often
  hits_by : (x : GroupPlace) (c : ℕ) → count_by (λ p. x.position == p) (range_with_len 1 positions) ≡ c → hits x ≡ sum_by (λ g. cond (x.group == g) c 0) (range_with_len 0 groups)
  hits_by x c e =
      sum_same (λ g. count_by (λ p. is_at g p x) (range_with_len 1 positions)) (λ g. cond (x.group == g) c 0) (range_with_len 0 groups)
      (λ g _. hits_in x g ∙ ap (λ n. cond (x.group == g) n 0) e)

  -- the place is one of the file
  abbrev IsIn : GroupPlace → Type 0
  IsIn x = (x.group < groups) × ((1 ≤ x.position) × (x.position ≤ positions))

  -- a place of the file is one place of it, another is none
  hit_or_not : (x : GroupPlace) → (IsIn x × (hits x ≡ 1)) ⊎ (hits x ≡ 0)
  hit_or_not x = by_position (cases_lt x.position 1) (cases_lt positions x.position)
    where
      zeros : (xs : List ℕ) → sum_by (λ g. cond (x.group == g) 0 0) xs ≡ 0
      zeros xs = sum_same (λ g. cond (x.group == g) 0 0) (λ _. 0) xs (λ g _. none (x.group == g)) ∙ sum_of_none xs
        where
          none : (b : Bool) → ◌≡◌ {A = ℕ} (cond b 0 0) 0
          none true = refl
          none false = refl

      outside : (1 ≤ x.position → x.position < 1 + positions → ⊥) → hits x ≡ 0
      outside out = hits_by x 0 (out_of_range x.position 1 positions out) ∙ zeros (range_with_len 0 groups)

      by_group : 1 ≤ x.position → x.position ≤ positions → (x.group < groups) ⊎ (groups ≤ x.group) → (IsIn x × (hits x ≡ 1)) ⊎ (hits x ≡ 0)
      by_group low high (inl lt) = inl ((lt, (low, high)), hits_by x 1 (in_range_once x.position 1 positions low (omega arith)) ∙ in_range_once x.group 0 groups (omega arith) (omega arith))
      by_group low high (inr ge) = inr (hits_by x 1 (in_range_once x.position 1 positions low (omega arith)) ∙ out_of_range x.group 0 groups (λ _ lt. absurd (omega arith)))

      by_position : (x.position < 1) ⊎ (1 ≤ x.position) → (positions < x.position) ⊎ (x.position ≤ positions) → (IsIn x × (hits x ≡ 1)) ⊎ (hits x ≡ 0)
      by_position (inl lt) b = inr (outside (λ low high. absurd (omega arith)))
      by_position (inr ge) (inl lt) = inr (outside (λ low high. absurd (omega arith)))
      by_position (inr ge) (inr le) = by_group ge le (cases_lt x.group groups)

  at_most_all : (table : List GroupPlace) → sum_by hits table ≤ length table
  at_most_all [] = omega arith
  at_most_all (x ∷ table) = let a = sum_by-cons hits x table in let rest = at_most_all table in go a rest (hit_or_not x)
    where
      go : sum_by hits (x ∷ table) ≡ hits x + sum_by hits table → sum_by hits table ≤ length table → (IsIn x × (hits x ≡ 1)) ⊎ (hits x ≡ 0) → sum_by hits (x ∷ table) ≤ suc (length table)
      go a rest (inl h) = let one = h.1 in omega arith
      go a rest (inr h) = omega arith

  -- where there are as many hits as places each place is one of the file
  all_hit : (table : List GroupPlace) → sum_by hits table ≡ length table → (k : ℕ) (x : GroupPlace) → slice_get table k ≡ Some x → IsIn x
  all_hit [] e k x f = cc
  all_hit (y ∷ table) e k x f = go (sum_by-cons hits y table) (at_most_all table) (hit_or_not y) k f (all_hit table)
    where
      go : sum_by hits (y ∷ table) ≡ hits y + sum_by hits table → sum_by hits table ≤ length table → (IsIn y × (hits y ≡ 1)) ⊎ (hits y ≡ 0)
          → (k : ℕ) → slice_get (y ∷ table) k ≡ Some x → (sum_by hits table ≡ length table → (k : ℕ) (x : GroupPlace) → slice_get table k ≡ Some x → IsIn x) → IsIn x
      go a most (inl h) zero f rest = let same : y ≡ x = same_item y x f in subst IsIn same h.0
      go a most (inl h) (suc k) f rest = let one = h.1 in rest (omega arith) k x f
      go a most (inr h) k f rest = absurd (omega arith)

  -- all places of the file, counted by places of the table
  grid : (table : List GroupPlace) → sum_by (λ g. sum_by (λ p. number_at table g p) (range_with_len 1 positions)) (range_with_len 0 groups) ≡ sum_by hits table
  grid table =
      sum_same (λ g. sum_by (λ p. number_at table g p) (range_with_len 1 positions)) (λ g. sum_by (λ x. count_by (λ p. is_at g p x) (range_with_len 1 positions)) table) (range_with_len 0 groups)
      (λ g _. sums_swap (λ p x. cond (is_at g p x) 1 0) (range_with_len 1 positions) table)
      ∙ sums_swap (λ g x. count_by (λ p. is_at g p x) (range_with_len 1 positions)) (range_with_len 0 groups) table

  -- where each place of the file is taken once, and there are no more places than these, each is one of the file
  pub all_in_place : (table : List GroupPlace) → length table ≡ positions * groups
      → ((g p : ℕ) → g < groups → 1 ≤ p → p ≤ positions → number_at table g p ≡ 1)
      → (x : GroupPlace) → IsAmong table x → IsIn x
  all_in_place table size once x among = all_hit table (sym (grid table) ∙ whole ∙ sym size) among.0 x among.1
    where
      row : (g : ℕ) → g < groups → sum_by (λ p. number_at table g p) (range_with_len 1 positions) ≡ positions
      row g lt =
          let ones = sum_of_ones (λ p. number_at table g p) 1 (range_with_len 1 positions) (λ p among. let h = in_range 1 positions among.0 p among.1 in let high = h.1 in once g p lt h.0 (omega arith)) in
          let long = length-range_with_len 1 positions in
          omega arith

      whole : sum_by (λ g. sum_by (λ p. number_at table g p) (range_with_len 1 positions)) (range_with_len 0 groups) ≡ positions * groups
      whole =
          sum_of_ones (λ g. sum_by (λ p. number_at table g p) (range_with_len 1 positions)) positions (range_with_len 0 groups) (λ g among. let h = in_range 0 groups among.0 g among.1 in let high = h.1 in row g (omega arith))
          ∙ ap (λ n. positions * n) (length-range_with_len 0 groups)

-- ---- how many teams a group draw has

-- teams that are each of one of the pots, where each pot has so many
pub teams_by_pots : (pots size : ℕ) (ts : List Team) → ((t : Team) → IsAmong ts t → (1 ≤ t.pot) × (t.pot ≤ pots))
    → ((pot : ℕ) → 1 ≤ pot → pot ≤ pots → count_by (λ (t : Team). t.pot == pot) ts ≡ size) → length ts ≡ size * pots
teams_by_pots pots size ts in_pots full =
    let by_pot = sum_of_ones (λ pot. count_by (λ (t : Team). t.pot == pot) ts) size (range_with_len 1 pots) (λ pot among. let h = in_range 1 pots among.0 pot among.1 in let high = h.1 in full pot h.0 (omega arith)) in
    let long = length-range_with_len 1 pots in
    let swap = sums_swap (λ pot (t : Team). cond (t.pot == pot) 1 0) (range_with_len 1 pots) ts in
    let by_team = sum_of_ones (λ (t : Team). count_by (λ pot. t.pot == pot) (range_with_len 1 pots)) 1 ts (λ t among. let h = in_pots t among in let high = h.1 in in_range_once t.pot 1 pots h.0 (omega arith)) in
    let one : 1 * length ts ≡ length ts = omega arith in
    sym one ∙ sym by_team ∙ sym swap ∙ by_pot ∙ ap (λ n. size * n) long
