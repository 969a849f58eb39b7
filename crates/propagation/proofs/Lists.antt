-- Literals that are entered at their atoms.
use Rattle.std.proofs.Common.{◌≡◌, ◌≢◌, ℕ, ◌+◌, ◌<◌, ◌≤◌, ◌^◌, Bool, true, false, cond, List, [], ◌∷◌, ◌++◌, length, length-append, length-take, take, drop, get_or, refl, sym, ap, ◌∙◌, arith}
use Rattle.std.specs.Prelude.{slice_set, ◌==◌, ◌&&◌}
use Rattle.std.proofs.lemmas.List.{append_assoc, get_or-set_same, get_or-set_other, get_or_default, get_or_past, drop_all, drop_more, take_more}
use Rattle.count_core.specs.declared.lit.Lit.{Lit}
use Rattle.count_core.specs.declared.count_rule.CountRule.{CountRule}
use Rattle.count_core.specs.Problems.{mentions, repeats}
use Rattle.count_core.specs.Assignments.{under_sign}
use Rattle.count_core.proofs.Lists.{count_cons, each_map, each_push}
use Rattle.propagation.specs.declared.occurrence.Occurrence.{Occurrence}
use Rattle.propagation.specs.Constraints.{nth, no_constraint}
use Rattle.propagation.specs.Occurrences.{OccurrenceList, no_list, items_at, room_at, HasRoomAt, HaveRoomFor, HaveSameItems, IsEmptyAt, number_listed, number_in, number_if, IsAppended, AreEntered, AreListed, AreShort}
use Rattle.propagation.proofs.Basics.{bit, neither, same_is, apart_is, apart_back, nth_push, each_append}

-- ---- the list of one atom is written

module _ (lists : List OccurrenceList) (k : ℕ) (v old d : OccurrenceList) (lt : k < length lists) (was : old ≡ get_or lists k d) where
  old_items : items_at lists k ≡ old.items
  old_items = ap (λ (q : OccurrenceList). q.items) (get_or_default lists k no_list d lt ∙ sym was)

  old_room : room_at lists k ≡ old.room
  old_room = ap (λ (q : OccurrenceList). q.room) (get_or_default lists k no_list d lt ∙ sym was)

  new_items : items_at (slice_set lists k v) k ≡ v.items
  new_items = ap (λ (q : OccurrenceList). q.items) (get_or-set_same lists k v no_list lt)

  new_room : room_at (slice_set lists k v) k ≡ v.room
  new_room = ap (λ (q : OccurrenceList). q.room) (get_or-set_same lists k v no_list lt)

  other_items : (a : ℕ) → a ≢ k → items_at (slice_set lists k v) a ≡ items_at lists a
  other_items a ne = ap (λ (q : OccurrenceList). q.items) (get_or-set_other lists k a v no_list ne)

  other_room : (a : ℕ) → a ≢ k → room_at (slice_set lists k v) a ≡ room_at lists a
  other_room a ne = ap (λ (q : OccurrenceList). q.room) (get_or-set_other lists k a v no_list ne)

  -- it gets more room
  module _ (items : v.items ≡ old.items) (more : old.room ≤ v.room) where
    pub reserved_items : HaveSameItems lists (slice_set lists k v)
    reserved_items a = go (a == k) refl
      where
        go : (t : Bool) → (a == k) ≡ t → items_at (slice_set lists k v) a ≡ items_at lists a
        go true e = rw (same_is a k e) (new_items ∙ items ∙ sym old_items)
        go false e = other_items a (apart_is a k e)

    reserved_room : (a : ℕ) → room_at lists a ≤ room_at (slice_set lists k v) a
    reserved_room a = go (a == k) refl
      where
        go : (t : Bool) → (a == k) ≡ t → room_at lists a ≤ room_at (slice_set lists k v) a
        go true e = rw (same_is a k e) (omega (arith, new_room, old_room, more))
        go false e = (let f = other_room a (apart_is a k e) in omega (arith, f))

    keeps_room : (l : Lit) → HasRoomAt lists l → HasRoomAt (slice_set lists k v) l
    keeps_room l h = rw (reserved_items l.atom.0) (omega (arith, h, reserved_room l.atom.0))

    -- the literal at place i is over the atom
    pub reserved_next : (ls : List Lit) (i : ℕ) (d : Lit) → i < length ls → (get_or ls i d).atom.0 ≡ k → length v.items < v.room → HaveRoomFor lists (take i ls) → HaveRoomFor (slice_set lists k v) (take (i + 1) ls)
    reserved_next ls i d low at room h =
        rw (take_more ls i d low) (each_push (HasRoomAt (slice_set lists k v)) (take i ls) (get_or ls i d) (each_map (HasRoomAt lists) (HasRoomAt (slice_set lists k v)) (take i ls) keeps_room h) (rw (at, new_items, new_room) room))

  -- it gets an occurrence
  module _ (o : Occurrence) (pushed : v.items ≡ old.items ++ o ∷ []) where
    listed_more : (b : Bool) (n a : ℕ) → number_listed b n (items_at (slice_set lists k v) a) ≡ number_listed b n (items_at lists a) + bit ((k == a) && ((o.constraint == n) && under_sign o.positive b))
    listed_more b n a = go (k == a) refl
      where
        at_end : (xs : List Occurrence) → number_listed b n (xs ++ o ∷ []) ≡ number_listed b n xs + bit ((o.constraint == n) && under_sign o.positive b)
        at_end [] = refl
        at_end (x ∷ xs) =
            let f = count_cons (λ (y : Occurrence). (y.constraint == n) && under_sign y.positive b) x (xs ++ o ∷ []) in
            let g = count_cons (λ (y : Occurrence). (y.constraint == n) && under_sign y.positive b) x xs in
            omega (arith, f, g, at_end xs)

        go : (t : Bool) → (k == a) ≡ t → number_listed b n (items_at (slice_set lists k v) a) ≡ number_listed b n (items_at lists a) + bit (t && ((o.constraint == n) && under_sign o.positive b))
        go true e = (let same = same_is k a e in rw (← same, new_items, pushed, old_items) (at_end old.items))
        go false e = rw (other_items a (apart_back k a e)) (omega arith)

    pub pushed_appended : (n : ℕ) (was : List Occurrence) (a : ℕ) → o.constraint ≡ n → IsAppended n was (items_at lists a) → IsAppended n was (items_at (slice_set lists k v) a)
    pushed_appended n was a own (os, is, of) = go (a == k) refl
      where
        go : (t : Bool) → (a == k) ≡ t → IsAppended n was (items_at (slice_set lists k v) a)
        go true e =
            let same = same_is a k e in
            let before : old.items ≡ was ++ os = sym old_items ∙ rw (← same) is in
            (os ++ o ∷ [], rw (same, new_items, pushed, before) (append_assoc was os (o ∷ [])), each_push (λ (p : Occurrence). p.constraint ≡ n) os o of own)
        go false e = (os, other_items a (apart_is a k e) ∙ is, of)

    -- other atoms keep their room
    others_room : (ls : List Lit) → mentions k ls ≡ false → HaveRoomFor lists ls → HaveRoomFor (slice_set lists k v) ls
    others_room [] e h = tt
    others_room (l ∷ ls) e h =
        let parts = neither (l.atom.0 == k) (mentions k ls) e in
        let ne = apart_is l.atom.0 k parts.0 in
        (rw (other_items l.atom.0 ne, other_room l.atom.0 ne) h.0, others_room ls parts.1 h.1)

-- ---- one turn of the loop that enters a constraint's literals

module _ (lists was : List OccurrenceList) (ls : List Lit) (i number : ℕ) (d : Lit) (v old x : OccurrenceList) (low : i < length ls) (lt : (get_or ls i d).atom.0 < length lists) (is : old ≡ get_or lists (get_or ls i d).atom.0 x) (pushed : v.items ≡ old.items ++ record { constraint = number; positive = (get_or ls i d).positive } ∷ []) where
  pub enter_numbers : ((b : Bool) (n a : ℕ) → number_listed b n (items_at lists a) + number_if (number == n) b a (drop i ls) ≡ number_listed b n (items_at was a) + number_if (number == n) b a ls)
      → (b : Bool) (n a : ℕ) → number_listed b n (items_at (slice_set lists (get_or ls i d).atom.0 v) a) + number_if (number == n) b a (drop (i + 1) ls) ≡ number_listed b n (items_at was a) + number_if (number == n) b a ls
  enter_numbers h b n a =
      let more = listed_more lists (get_or ls i d).atom.0 v old x lt is (record { constraint = number; positive = (get_or ls i d).positive }) pushed b n a in
      let before = rw (drop_more ls i d low) at (h b n a) in
      let split = count_cons (λ (l : Lit). (l.atom.0 == a) && under_sign l.positive b) (get_or ls i d) (drop (i + 1) ls) in
      rw more (go (number == n) ((get_or ls i d).atom.0 == a) (under_sign (get_or ls i d).positive b) before split)
    where
      go : (t u s : Bool) → number_listed b n (items_at lists a) + cond t (number_in b a (get_or ls i d ∷ drop (i + 1) ls)) 0 ≡ number_listed b n (items_at was a) + number_if (number == n) b a ls
          → number_in b a (get_or ls i d ∷ drop (i + 1) ls) ≡ bit (u && s) + number_in b a (drop (i + 1) ls)
          → number_listed b n (items_at lists a) + bit (u && (t && s)) + cond t (number_in b a (drop (i + 1) ls)) 0 ≡ number_listed b n (items_at was a) + number_if (number == n) b a ls
      go true u s e f = omega arith
      go false true s e f = omega arith
      go false false s e f = omega arith

  apart_rest : repeats (drop i ls) ≡ false → (mentions (get_or ls i d).atom.0 (drop (i + 1) ls) ≡ false) × (repeats (drop (i + 1) ls) ≡ false)
  apart_rest h = neither (mentions (get_or ls i d).atom.0 (drop (i + 1) ls)) (repeats (drop (i + 1) ls)) (rw (drop_more ls i d low) at h)

  pub enter_distinct : repeats (drop i ls) ≡ false → repeats (drop (i + 1) ls) ≡ false
  enter_distinct h = (apart_rest h).1

  pub enter_room : repeats (drop i ls) ≡ false → HaveRoomFor lists (drop i ls) → HaveRoomFor (slice_set lists (get_or ls i d).atom.0 v) (drop (i + 1) ls)
  enter_room distinct h =
      let rest = rw (drop_more ls i d low) at h in
      others_room lists (get_or ls i d).atom.0 v old x lt is (record { constraint = number; positive = (get_or ls i d).positive }) pushed (drop (i + 1) ls) (apart_rest distinct).0 rest.1

pub number_past : (t b : Bool) (a : ℕ) (ls : List Lit) (i : ℕ) → length ls ≤ i → number_if t b a (drop i ls) ≡ 0
number_past true b a ls i past = rw (drop_all i ls past) refl
number_past false b a ls i past = refl

-- ---- one constraint more

-- where a constraint is pushed, its numbers are those of the old ones and, at its own number, its own
pub number_push : (rules : List CountRule) (r : CountRule) (b : Bool) (n a : ℕ) → number_in b a (nth (rules ++ r ∷ []) n).lits ≡ number_in b a (nth rules n).lits + number_if (length rules == n) b a r.lits
number_push rules r b n a = rw (nth_push rules r no_constraint n) (go (length rules == n) refl)
  where
    go : (t : Bool) → (length rules == n) ≡ t → number_in b a (cond t r (nth rules n)).lits ≡ number_in b a (nth rules n).lits + number_if t b a r.lits
    go true e = (let past = same_is (length rules) n e in rw (get_or_past rules n no_constraint (omega arith)) (omega arith))
    go false e = omega arith

pub listed_push : (atoms : ℕ) (rules : List CountRule) (r : CountRule) (before mid after : List OccurrenceList) → AreListed atoms rules before → HaveSameItems before mid → length after ≡ atoms → AreEntered mid after (length rules) r.lits → AreListed atoms (rules ++ r ∷ []) after
listed_push atoms rules r before mid after h same len entered = record {
  atoms_number = len;
  numbers = λ b n a. (let f = rw (same a) at (entered.numbers b n a) in omega (arith, f, number_push rules r b n a, h.numbers b n a));
  below = λ a. rw (longer, (entered.appended a).1, same a) (each_append (λ (o : Occurrence). o.constraint < length rules + 1) (items_at before a) (entered.appended a).0
      (each_map (λ (o : Occurrence). o.constraint < length rules) (λ (o : Occurrence). o.constraint < length rules + 1) (items_at before a) (λ o lt. omega arith) (h.below a))
      (each_map (λ (o : Occurrence). o.constraint ≡ length rules) (λ (o : Occurrence). o.constraint < length rules + 1) (entered.appended a).0 (λ o is. omega arith) (entered.appended a).2));
}
  where
    longer : length (rules ++ r ∷ []) ≡ length rules + 1
    longer = omega (arith, length-append rules (r ∷ []))

pub short_push : (rules : List CountRule) (r : CountRule) → AreShort rules → length r.lits < 2 ^ 63 → AreShort (rules ++ r ∷ [])
short_push rules r h lt n = rw (nth_push rules r no_constraint n) (go (length rules == n))
  where
    go : (t : Bool) → length (cond t r (nth rules n)).lits < 2 ^ 63
    go true = lt
    go false = h n

pub listed_start : (atoms : ℕ) (lists : List OccurrenceList) → length lists ≡ atoms → ((a : ℕ) → IsEmptyAt lists a) → AreListed atoms [] lists
listed_start atoms lists len empty = record {
  atoms_number = len;
  numbers = λ b n a. rw (empty a) refl;
  below = λ a. rw (empty a) tt;
}

-- ---- one turn of the loop that enters all rules

module _ (rules : List CountRule) (i : ℕ) (r : CountRule) (low : i < length rules) (is : r ≡ get_or rules i r) where
  front : take (i + 1) rules ≡ take i rules ++ r ∷ []
  front = take_more rules i r low ∙ ap (λ q. take i rules ++ q ∷ []) (sym is)

  number : length (take i rules) ≡ i
  number = omega (arith, length-take i rules)

  pub rules_next : (atoms : ℕ) (before mid after : List OccurrenceList) → AreListed atoms (take i rules) before → HaveSameItems before mid → length after ≡ atoms → AreEntered mid after i r.lits → AreListed atoms (take (i + 1) rules) after
  rules_next atoms before mid after h same len entered = rw front (listed_push atoms (take i rules) r before mid after h same len (rw number entered))

  pub short_next : AreShort (take i rules) → length r.lits < 2 ^ 63 → AreShort (take (i + 1) rules)
  short_next h lt = rw front (short_push (take i rules) r h lt)
