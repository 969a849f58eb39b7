-- The pieces of bytes are the bytes cut into lines, and no other list is; and what stands before and after the separator.
use Rattle.std.proofs.Common.{◌≡◌, ◌≢◌, ℕ, ◌==◌, ◌⊎◌, inl, inr, Bool, true, false, if◌then◌else◌, List, [], ◌∷◌, ◌++◌, codes, map, length, length-append, append_assoc, refl, sym, ap, ◌∙◌, subst, arith}
use Rattle.std.proofs.lemmas.Bool.{eqb-true, eqb-false, ne_eqb}
use Rattle.std.proofs.lemmas.Slice.Eq.{bytes_eq-Decides}
use Rattle.std.proofs.lemmas.List.{append-nil}
use Rattle.std.proofs.lemmas.List.Elements.{All-nil, All-cons, All-head, All-tail}
use Rattle.draw_lines.specs.Inputs.{pieces, pieces_after, last_piece, joined, HasFeedOnlyLast, EndsWithFeed, AreLinesOf, PiecesAreLines, line_of, is_separator, before_separator, after_separator, HaveNoSeparator, HeadBeforeSeparator}

-- no byte is a line feed
abbrev NoFeed : List ℕ → Type 0
NoFeed [] = Unit {0}
NoFeed (b ∷ bs) = (b ≢ 10) × NoFeed bs

-- some bytes without a line feed, one, and the others
abbrev HasFeed : List ℕ → Type 0
HasFeed bytes = (front : List ℕ) × (back : List ℕ) × NoFeed front × (bytes ≡ front ++ 10 ∷ back)

-- a list with an element is not empty
not_nil : {A : Type 0} (xs : List A) (y : A) (ys : List A) → [] ≡ xs ++ y ∷ ys → ⊥
not_nil [] y ys e = cc
not_nil (x ∷ xs) y ys e = cc

-- no list without a line feed has one
no_feed_in : (front back : List ℕ) → NoFeed (front ++ 10 ∷ back) → ⊥
no_feed_in [] back none = none.0 refl
no_feed_in (f ∷ front) back none = no_feed_in front back none.1

-- one more byte that is no line feed
no_feed_more : (line : List ℕ) (b : ℕ) → NoFeed line → b ≢ 10 → NoFeed (line ++ b ∷ [])
no_feed_more [] b none other = (other, tt)
no_feed_more (x ∷ line) b none other = (none.0, no_feed_more line b none.1 other)

-- bytes have no line feed, or a first one
first_feed : (bytes : List ℕ) → NoFeed bytes ⊎ HasFeed bytes
first_feed [] = inl tt
first_feed (b ∷ bs) = go (b == 10) refl (first_feed bs)
  where
    go : (t : Bool) → (b == 10) ≡ t → NoFeed bs ⊎ HasFeed bs → NoFeed (b ∷ bs) ⊎ HasFeed (b ∷ bs)
    go true e later = let feed : b ≡ 10 = eqb-true b 10 e in inr ([], bs, tt, ap (λ c. c ∷ bs) feed)
    go false e (inl none) = inl (eqb-false b 10 e, none)
    go false e (inr found) = inr (b ∷ found.0, found.1, (eqb-false b 10 e, found.2), ap (λ cs. b ∷ cs) found.3)

-- the only line feed of a line is its end
only_at_end : (line : List ℕ) → NoFeed line → HasFeedOnlyLast (line ++ 10 ∷ [])
only_at_end [] none [] back e = cc
only_at_end [] none (f ∷ front) back e = let short : [] ≡ front ++ 10 ∷ back = cc in absurd (not_nil front 10 back short)
only_at_end (b ∷ line) none [] back e = let feed : b ≡ 10 = cc in absurd (none.0 feed)
only_at_end (b ∷ line) none (f ∷ front) back e = let rest : line ++ 10 ∷ [] ≡ front ++ 10 ∷ back = cc in only_at_end line none.1 front back rest

-- a line that ends, in front of lines of which each but the last ends
ended_before : (line : List ℕ) (ps : List (List ℕ))
    → ((before after : List (List ℕ)) (p next : List ℕ) → ps ≡ before ++ p ∷ next ∷ after → EndsWithFeed p)
    → (before after : List (List ℕ)) (p next : List ℕ) → (line ++ 10 ∷ []) ∷ ps ≡ before ++ p ∷ next ∷ after → EndsWithFeed p
ended_before line ps h [] after p next e = let same : p ≡ line ++ 10 ∷ [] = cc in (line, same)
ended_before line ps h (q ∷ before) after p next e = let rest : ps ≡ before ++ p ∷ next ∷ after = cc in h before after p next rest

-- a line that ends, in front of lines, gives lines
line_before : (line bytes : List ℕ) (ps : List (List ℕ)) → NoFeed line → AreLinesOf bytes ps → AreLinesOf (line ++ 10 ∷ bytes) ((line ++ 10 ∷ []) ∷ ps)
line_before line bytes ps none r = record {
  join = append_assoc line (10 ∷ []) (joined ps) ∙ ap (λ bs. line ++ 10 ∷ bs) r.join;
  not_empty = All-cons (λ q. q ≢ []) (line ++ 10 ∷ []) ps (λ e. not_nil line 10 [] (sym e)) r.not_empty;
  inside = All-cons HasFeedOnlyLast (line ++ 10 ∷ []) ps (only_at_end line none) r.inside;
  ended = ended_before line ps r.ended;
}

-- one piece has none after it
alone : (piece : List ℕ) (before after : List (List ℕ)) (p next : List ℕ) → piece ∷ [] ≡ before ++ p ∷ next ∷ after → ⊥
alone piece before after p next e = absurd (omega (arith, ap length e, length-append before (p ∷ next ∷ after)))

-- a last line without a line feed
line_last : (line : List ℕ) → NoFeed line → AreLinesOf line (last_piece line)
line_last [] none = record {
  join = refl;
  not_empty = All-nil (λ q. q ≢ []);
  inside = All-nil HasFeedOnlyLast;
  ended = λ before after p next e. absurd (not_nil before p (next ∷ after) e);
}
line_last (b ∷ bs) none = record {
  join = append-nil (b ∷ bs);
  not_empty = All-cons (λ q. q ≢ []) (b ∷ bs) [] (λ e. cc) (All-nil (λ q. q ≢ []));
  inside = All-cons HasFeedOnlyLast (b ∷ bs) [] (λ front back e. absurd (no_feed_in front back (subst NoFeed e none))) (All-nil HasFeedOnlyLast);
  ended = λ before after p next e. absurd (alone (b ∷ bs) before after p next e);
}

-- the pieces are lines, where `line` was read of the first one
lines_after : (line bytes : List ℕ) → NoFeed line → AreLinesOf (line ++ bytes) (pieces_after line bytes)
lines_after line [] none = rw append-nil (line_last line none)
lines_after line (b ∷ bs) none = go (b == 10) refl (lines_after [] bs tt) (lines_after (line ++ b ∷ []) bs)
  where
    go : (t : Bool) → (b == 10) ≡ t → AreLinesOf bs (pieces_after [] bs)
        → (NoFeed (line ++ b ∷ []) → AreLinesOf ((line ++ b ∷ []) ++ bs) (pieces_after (line ++ b ∷ []) bs))
        → AreLinesOf (line ++ b ∷ bs) (if t then (line ++ b ∷ []) ∷ pieces_after [] bs else pieces_after (line ++ b ∷ []) bs)
    go true e here later = let feed : b ≡ 10 = eqb-true b 10 e in rw feed (line_before line bs (pieces_after [] bs) none here)
    go false e here later = rw (append_assoc line (b ∷ []) bs) at (later (no_feed_more line b none (eqb-false b 10 e)))

-- bytes without a line feed are of the line that is read
read_on : (line xs ys : List ℕ) → NoFeed xs → pieces_after line (xs ++ ys) ≡ pieces_after (line ++ xs) ys
read_on line [] ys none = rw append-nil refl
read_on line (x ∷ xs) ys none =
    let other : (x == 10) ≡ false = ne_eqb x 10 none.0 in
    let h = read_on (line ++ x ∷ []) xs ys none.1 in
    rw other (h ∙ ap (λ l. pieces_after l ys) (append_assoc line (x ∷ []) xs))

-- a line that ends is read as the first piece
read_line : (line bytes : List ℕ) → NoFeed line → pieces ((line ++ 10 ∷ []) ++ bytes) ≡ (line ++ 10 ∷ []) ∷ pieces bytes
read_line line bytes none = ap pieces (append_assoc line (10 ∷ []) bytes) ∙ read_on [] line (10 ∷ bytes) none

-- lines of bytes are lines of what they join to
of_joined : (bytes : List ℕ) (ps : List (List ℕ)) → AreLinesOf bytes ps → AreLinesOf (joined ps) ps
of_joined bytes ps r = record { join = refl; not_empty = r.not_empty; inside = r.inside; ended = r.ended }

-- what follows the first line is lines
lines_behind : (p : List ℕ) (ps : List (List ℕ)) → AreLinesOf (joined (p ∷ ps)) (p ∷ ps) → AreLinesOf (joined ps) ps
lines_behind p ps r = record {
  join = refl;
  not_empty = All-tail (λ q. q ≢ []) p ps r.not_empty;
  inside = All-tail HasFeedOnlyLast p ps r.inside;
  ended = λ before after q next e. r.ended (p ∷ before) after q next (ap (λ qs. p ∷ qs) e);
}

-- a piece that is not empty is the last piece of its bytes
last_is : (p : List ℕ) → p ≢ [] → p ∷ [] ≡ last_piece p
last_is [] some = absurd (some refl)
last_is (b ∷ bs) some = refl

-- a line without a line feed is the last
only_last : (p : List ℕ) (ps : List (List ℕ)) → NoFeed p → AreLinesOf (joined (p ∷ ps)) (p ∷ ps) → p ∷ ps ≡ pieces (joined (p ∷ ps))
only_last p [] none r = last_is p (All-head (λ q. q ≢ []) p [] r.not_empty) ∙ sym (read_on [] p [] none)
only_last p (next ∷ ps) none r =
    let end = r.ended [] ps p next refl in
    absurd (no_feed_in end.0 [] (subst NoFeed end.1 none))

-- lines are the pieces of what they join to
only_lines : (ps : List (List ℕ)) → AreLinesOf (joined ps) ps → ps ≡ pieces (joined ps)
only_lines [] r = refl
only_lines (p ∷ ps) r = go (first_feed p) (only_lines ps (lines_behind p ps r))
  where
    go : NoFeed p ⊎ HasFeed p → ps ≡ pieces (joined ps) → p ∷ ps ≡ pieces (joined (p ∷ ps))
    go (inl none) later = only_last p ps none r
    go (inr found) later =
        let end = All-head HasFeedOnlyLast p ps r.inside found.0 found.1 found.3 in
        let line : p ≡ found.0 ++ 10 ∷ [] = found.3 ∙ ap (λ bs. found.0 ++ 10 ∷ bs) end in
        rw line (ap (λ qs. (found.0 ++ 10 ∷ []) ∷ qs) later ∙ sym (read_line found.0 (joined ps) found.2))

pub pieces_are_lines : PiecesAreLines
pieces_are_lines = record {
  cut = λ bytes. lines_after [] bytes tt;
  only = λ bytes ps r. only_lines ps (of_joined bytes ps r) ∙ ap pieces r.join;
}

-- the pieces before the first separator
before_is : (before : List (List ℕ)) (at : List ℕ) (after : List (List ℕ)) → is_separator at ≡ true → HaveNoSeparator before → before_separator (before ++ at ∷ after) ≡ before
before_is [] at after here first = rw here refl
before_is (p ∷ ps) at after here first =
    let other = All-head (λ q. is_separator q ≡ false) p ps first in
    rw other (ap (λ qs. p ∷ qs) (before_is ps at after here (All-tail (λ q. is_separator q ≡ false) p ps first)))

-- the pieces after the first separator
after_is : (before : List (List ℕ)) (at : List ℕ) (after : List (List ℕ)) → is_separator at ≡ true → HaveNoSeparator before → after_separator (before ++ at ∷ after) ≡ after
after_is [] at after here first = rw here refl
after_is (p ∷ ps) at after here first =
    let other = All-head (λ q. is_separator q ≡ false) p ps first in
    rw other (after_is ps at after here (All-tail (λ q. is_separator q ≡ false) p ps first))

-- without a separator all pieces stand before it
all_before : (ps : List (List ℕ)) → HaveNoSeparator ps → before_separator ps ≡ ps
all_before [] none = refl
all_before (p ∷ ps) none =
    let other = All-head (λ q. is_separator q ≡ false) p ps none in
    rw other (ap (λ qs. p ∷ qs) (all_before ps (All-tail (λ q. is_separator q ≡ false) p ps none)))

-- without a separator no piece stands after it
none_after : (ps : List (List ℕ)) → HaveNoSeparator ps → after_separator ps ≡ []
none_after [] none = refl
none_after (p ∷ ps) none =
    let other = All-head (λ q. is_separator q ≡ false) p ps none in
    rw other (none_after ps (All-tail (λ q. is_separator q ≡ false) p ps none))

pub head_before_separator : HeadBeforeSeparator
head_before_separator = record {
  separator = λ piece e. (bytes_eq-Decides (line_of piece) (codes "--")).0 e;
  dashes = λ piece e. (bytes_eq-Decides (line_of piece) (codes "--")).1 e;
  head = λ input before at after r. ap (λ ps. joined (before_separator ps)) r.whole ∙ ap joined (before_is before at after r.here r.first);
  commands = λ input before at after r. ap (λ ps. map line_of (after_separator ps)) r.whole ∙ ap (map line_of) (after_is before at after r.here r.first);
  all_head = λ input none. ap joined (all_before (pieces input) none) ∙ (lines_after [] input tt).join;
  no_commands = λ input none. ap (map line_of) (none_after (pieces input) none);
}
