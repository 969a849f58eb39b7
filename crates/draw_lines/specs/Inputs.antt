-- Inputs: lines, the head and the command lines (this project's own form).
use Rattle.std.specs.Prelude.{◌≡◌, ◌≢◌, ℕ, ◌==◌, bytes_eq, codes, Bool, true, false, if◌then◌else◌, List, [], ◌∷◌, ◌++◌, map, All}

-- the bytes that were read of a last line that has no line feed
abbrev pub last_piece : List ℕ → List (List ℕ)
last_piece [] = []
last_piece (b ∷ bs) = (b ∷ bs) ∷ []

-- the pieces, where `line` was read of the first one
abbrev pub pieces_after : List ℕ → List ℕ → List (List ℕ)
pieces_after line [] = last_piece line
pieces_after line (b ∷ bs) = if b == 10 then (line ++ b ∷ []) ∷ pieces_after [] bs else pieces_after (line ++ b ∷ []) bs

-- The bytes cut after each line feed: one piece a line, with its end.
abbrev pub pieces : List ℕ → List (List ℕ)
pieces bytes = pieces_after [] bytes

-- the bytes without a last byte x
abbrev pub without_last : ℕ → List ℕ → List ℕ
without_last x [] = []
without_last x (b ∷ []) = if b == x then [] else b ∷ []
without_last x (b ∷ c ∷ bs) = b ∷ without_last x (c ∷ bs)

-- A line: a piece without its line feed, and then without one CR.
abbrev pub line_of : List ℕ → List ℕ
line_of piece = without_last 13 (without_last 10 piece)

abbrev pub lines_of : List ℕ → List (List ℕ)
lines_of bytes = map line_of (pieces bytes)

-- the first piece of the bytes, and what follows it, byte for byte
abbrev pub IsFirstPiece : List ℕ → List ℕ → List ℕ → Type 0
IsFirstPiece bytes piece rest = pieces bytes ≡ piece ∷ pieces rest

-- the first line of the bytes, and what follows its piece
abbrev pub IsFirstLine : List ℕ → List ℕ → List ℕ → Type 0
IsFirstLine bytes line rest =
    (piece : List ℕ) × IsFirstPiece bytes piece rest × (line ≡ line_of piece)

-- the separator is the line --
abbrev pub is_separator : List ℕ → Bool
is_separator piece = bytes_eq (line_of piece) (codes "--")

-- the pieces before the first separator
abbrev pub before_separator : List (List ℕ) → List (List ℕ)
before_separator [] = []
before_separator (p ∷ ps) = if is_separator p then [] else p ∷ before_separator ps

-- the pieces after the first separator
abbrev pub after_separator : List (List ℕ) → List (List ℕ)
after_separator [] = []
after_separator (p ∷ ps) = if is_separator p then ps else after_separator ps

-- the pieces one after another
abbrev pub joined : List (List ℕ) → List ℕ
joined [] = []
joined (p ∷ ps) = p ++ joined ps

-- a line feed stands in the piece only as its last byte
abbrev pub HasFeedOnlyLast : List ℕ → Type 0
HasFeedOnlyLast piece = (front back : List ℕ) → piece ≡ front ++ 10 ∷ back → back ≡ []

-- the last byte of the piece is a line feed
abbrev pub EndsWithFeed : List ℕ → Type 0
EndsWithFeed piece = (front : List ℕ) × (piece ≡ front ++ 10 ∷ [])

-- The bytes cut into lines: the pieces join to the bytes, none is empty, none has a line feed but as its last byte, and only the last may lack one.
pub record AreLinesOf (bytes : List ℕ) (ps : List (List ℕ)) : Type 0 where
  pub join : joined ps ≡ bytes
  pub not_empty : All (λ p. p ≢ []) ps
  pub inside : All HasFeedOnlyLast ps
  pub ended : (before after : List (List ℕ)) (p next : List ℕ) → ps ≡ before ++ p ∷ next ∷ after → EndsWithFeed p

-- The pieces are the bytes cut into lines, and no other list is.
pub record PiecesAreLines : Type 0 where
  pub cut : (bytes : List ℕ) → AreLinesOf bytes (pieces bytes)
  pub only : (bytes : List ℕ) (ps : List (List ℕ)) → AreLinesOf bytes ps → ps ≡ pieces bytes

-- The head is the bytes before the separator line.
abbrev pub head_of : List ℕ → List ℕ
head_of input = joined (before_separator (pieces input))

-- The command lines are the lines after the separator.
abbrev pub command_lines : List ℕ → List (List ℕ)
command_lines input = map line_of (after_separator (pieces input))

-- the last byte of the text is not b
abbrev pub DoesNotEndWith : ℕ → List ℕ → Type 0
DoesNotEndWith b text = (front : List ℕ) → text ≢ front ++ b ∷ []

-- A line loses its end and nothing else: a line feed, a carriage return and a line feed, or a carriage return; never two carriage returns.
pub record LinesLoseTheirEnds : Type 0 where
  pub feed : (text : List ℕ) → DoesNotEndWith 13 text → line_of (text ++ 10 ∷ []) ≡ text
  pub return_and_feed : (text : List ℕ) → line_of (text ++ 13 ∷ 10 ∷ []) ≡ text
  pub return_alone : (text : List ℕ) → line_of (text ++ 13 ∷ []) ≡ text
  pub no_end : (text : List ℕ) → DoesNotEndWith 13 text → DoesNotEndWith 10 text → line_of text ≡ text
  pub one_return : (text : List ℕ) → line_of (text ++ 13 ∷ 13 ∷ 10 ∷ []) ≡ text ++ 13 ∷ []

-- no piece is a separator
abbrev pub HaveNoSeparator : List (List ℕ) → Type 0
HaveNoSeparator ps = All (λ p. is_separator p ≡ false) ps

-- the pieces of the input: those before its first separator, that separator, and those after it
pub record AreCutAtSeparator (input : List ℕ) (before : List (List ℕ)) (separator : List ℕ) (after : List (List ℕ)) : Type 0 where
  pub whole : pieces input ≡ before ++ separator ∷ after
  pub here : is_separator separator ≡ true
  pub first : HaveNoSeparator before

-- The head is what stands before the first separator, the line --, and the command lines are the lines after it. Without a separator all is head.
pub record HeadBeforeSeparator : Type 0 where
  pub separator : (piece : List ℕ) → is_separator piece ≡ true → line_of piece ≡ codes "--"
  pub dashes : (piece : List ℕ) → line_of piece ≡ codes "--" → is_separator piece ≡ true
  pub head : (input : List ℕ) (before : List (List ℕ)) (at : List ℕ) (after : List (List ℕ)) → AreCutAtSeparator input before at after → head_of input ≡ joined before
  pub commands : (input : List ℕ) (before : List (List ℕ)) (at : List ℕ) (after : List (List ℕ)) → AreCutAtSeparator input before at after → command_lines input ≡ map line_of after
  pub all_head : (input : List ℕ) → HaveNoSeparator (pieces input) → head_of input ≡ input
  pub no_commands : (input : List ℕ) → HaveNoSeparator (pieces input) → command_lines input ≡ []
