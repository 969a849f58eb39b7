-- The digits in front of a text are those of one number.
use Rattle.std.proofs.Common.{◌≡◌, ℕ, zero, suc, ◌+◌, ◌-◌, ◌*◌, ◌<◌, ◌≤◌, ◌^◌, List, [], ◌∷◌, ◌++◌, length, take, drop, get_or, refl, sym, ap, subst, ◌∙◌, arith, take-append-drop, inl, inr}
use Rattle.std.specs.Fmt.{decimal}
use Rattle.std.specs.Int.{IsInRange, IsOutOfRange}
use Rattle.std.specs.Char.{digit_value}
use Rattle.std.specs.Str.Parse.{AllDigits, digits_value, digits_value_after}
use Rattle.std.proofs.lemmas.Str.Parse.{digit_from_value, digit_at, numerals_by_value, tells_digits}
use Rattle.std.proofs.lemmas.Str.{digit_value_digit}
use Rattle.std.proofs.lemmas.Fmt.{decimal_is_IsNumeral, decimal_injective, decimal-digits_value, decimal_nonempty, decimal_digit, first_decimal}
use Rattle.std.proofs.lemmas.List.{drop_more, at_drop_more, drop_all, at_drop_all}
use Rattle.list_texts.specs.ListTexts.{FitsNumber}
use Rattle.list_texts.specs.Fronts.{EndsNumber, IsNumberAt, NoNumberAt, BeginAsNumber, DoNotBeginAsNumber, AreDigitsOf, AreNoDigits}
use Rattle.list_texts.proofs.Fronts.{IsOne}

-- ---- one cut behind digits

one_cut : (a x b y : List ℕ) → AllDigits 10 a → EndsNumber x → AllDigits 10 b → EndsNumber y → a ++ x ≡ b ++ y → (a ≡ b) × (x ≡ y)
one_cut [] x [] y da ex db ey e = (refl, e)
one_cut [] [] (c ∷ b) y da ex db ey e = cc
one_cut [] (d ∷ x) (c ∷ b) y da ex db ey e = let same : d ≡ c = cc in absurd (ex (subst (IsInRange 48 57) (sym same) (digit_from_value c db.0)))
one_cut (c ∷ a) x [] [] da ex db ey e = cc
one_cut (c ∷ a) x [] (d ∷ y) da ex db ey e = let same : c ≡ d = cc in absurd (ey (subst (IsInRange 48 57) same (digit_from_value c da.0)))
one_cut (c ∷ a) x (d ∷ b) y da ex db ey e =
    let same : c ≡ d = cc in
    let rest = one_cut a x b y da.1 ex db.1 ey (ap (drop 1) e) in
    ((λ i. same i ∷ rest.0 i), rest.1)

pub digits_of : (n : ℕ) → n < 2 ^ 64 → AllDigits 10 (decimal n)
digits_of n small = (decimal_is_IsNumeral n small).0.1

pub one_number : IsOne decimal FitsNumber EndsNumber
one_number text n m r s h g =
    let nf : n < 2 ^ 32 = h.fits in
    let mf : m < 2 ^ 32 = g.fits in
    let nn : n < 2 ^ 64 = omega arith in
    let mm : m < 2 ^ 64 = omega arith in
    let cut = one_cut (decimal n) r (decimal m) s (digits_of n nn) h.ends (digits_of m mm) g.ends (sym h.whole ∙ g.whole) in
    (decimal_injective n m nn mm cut.0, cut.1)

-- ---- the digits that stand in front

digits_by_index : (n : ℕ) (text : List ℕ) → n ≤ length text → ((k : ℕ) → k < n → IsInRange 48 57 (get_or text k 0)) → AllDigits 10 (take n text)
digits_by_index zero text le h = tt
digits_by_index (suc n) [] le h = absurd (omega arith)
digits_by_index (suc n) (c ∷ text) le h =
    let first : IsInRange 48 57 c = h 0 (omega arith) in
    (omega (arith, digit_value_digit c first, first.0, first.1), digits_by_index n text (omega arith) (λ k lt. h (suc k) (omega arith)))

ends_at : (n : ℕ) (text : List ℕ) → n ≤ length text → (n < length text → IsInRange 48 57 (get_or text n 0) → ⊥) → EndsNumber (drop n text)
ends_at zero [] le h = tt
ends_at zero (c ∷ text) le h = h (omega arith)
ends_at (suc n) [] le h = absurd (omega arith)
ends_at (suc n) (c ∷ text) le h = ends_at n text (omega arith) (λ lt. h (omega arith))

module _ (text : List ℕ) (n : ℕ) (bound : n ≤ length text) (are : (k : ℕ) → k < n → IsInRange 48 57 (get_or text k 0)) (end : n < length text → IsInRange 48 57 (get_or text n 0) → ⊥) where
  pub number_stands : (front back : List ℕ) (number : ℕ) → front ≡ take n text → back ≡ drop n text → AreDigitsOf (2 ^ 32) front number → IsNumberAt text number back
  number_stands front back number front_is back_is h = record {
    whole = sym (take-append-drop n text) ∙ (λ i. (sym front_is ∙ h.0) i ++ sym back_is i);
    fits = h.1;
    ends = subst EndsNumber (sym back_is) (ends_at n text bound end);
  }

  pub no_number_stands : (front : List ℕ) → front ≡ take n text → AreNoDigits (2 ^ 32) front → NoNumberAt text
  no_number_stands front front_is none number rest h =
      let nf : number < 2 ^ 32 = h.fits in
      let nn : number < 2 ^ 64 = omega arith in
      let cut = one_cut (take n text) (drop n text) (decimal number) rest (digits_by_index n text bound are) (ends_at n text bound end) (digits_of number nn) h.ends (take-append-drop n text ∙ h.whole) in
      none number (front_is ∙ cut.0, h.fits)

-- ---- the number of digits

value_not_less : (n : ℕ) (ds : List ℕ) → n ≤ digits_value_after 10 n ds
value_not_less n [] = omega arith
value_not_less n (c ∷ cs) = let h = value_not_less (n * 10 + digit_value c) cs in omega arith

-- digits that are of a number have its value
pub value_of : (digits : List ℕ) (number : ℕ) → AreDigitsOf (2 ^ 64) digits number → digits_value 10 digits ≡ number
value_of digits number h = ap (digits_value 10) h.0 ∙ (decimal_is_IsNumeral number h.1).1

-- no number is too large, where so many digits have a value that is
pub too_large : (digits rest : List ℕ) (value : ℕ) → digits_value_after 10 value rest ≡ digits_value 10 digits → 2 ^ 64 ≤ value → AreNoDigits (2 ^ 64) digits
too_large digits rest value so_far large number h = omega (arith, value_not_less value rest, value_of digits number h, h.1)

-- a byte that is no digit stands in the digits of no number
pub not_digits : (digits : List ℕ) (i : ℕ) → i < length digits → (IsInRange 48 57 (get_or digits i 0) → ⊥) → AreNoDigits (2 ^ 64) digits
not_digits digits i lt none number h = none (digit_at digits i (subst (AllDigits 10) (sym h.0) (digits_of number h.1)) lt)

-- digits with no leading zero are those of their value
pub are_digits : (digits : List ℕ) (value : ℕ) → AllDigits 10 digits → value ≡ digits_value 10 digits → 0 < length digits → (get_or digits 0 0 ≡ 48 → length digits ≡ 1) → value < 2 ^ 64 → AreDigitsOf (2 ^ 64) digits value
are_digits digits value d is some lead small =
    let below : digits_value 10 digits < 2 ^ 64 = omega arith in
    (sym (ap decimal is ∙ decimal-digits_value (numerals_by_value _ tells_digits) digits d some lead below), small)

-- no number has no digits
no_digits : (digits : List ℕ) → length digits ≡ 0 → AreNoDigits (2 ^ 64) digits
no_digits digits none number h = omega (arith, ap length h.0, decimal_nonempty number h.1)

leading_zero : (digits : List ℕ) (number : ℕ) → get_or digits 0 0 ≡ 48 → 1 < length digits → digits ≡ decimal number → number < 2 ^ 64 → ⊥
leading_zero digits zero first long is small = omega (arith, ap length (is ∙ decimal_digit 0 (omega arith)))
leading_zero digits (suc n) first long is small = omega (arith, ap (λ l. get_or l 0 0) is, first_decimal (suc n) (omega arith) small)

-- the digits of a number do not begin with 0, where they are more than one
no_leading_zero : (digits : List ℕ) → get_or digits 0 0 ≡ 48 → 1 < length digits → AreNoDigits (2 ^ 64) digits
no_leading_zero digits first long number h = leading_zero digits number first long h.0 h.1

pub no_beginning : (digits : List ℕ) → DoNotBeginAsNumber digits → AreNoDigits (2 ^ 64) digits
no_beginning digits (inl none) = no_digits digits none
no_beginning digits (inr zero_first) = no_leading_zero digits zero_first.0 zero_first.1

-- ---- one digit more

pub next_value : (value i : ℕ) (digits : List ℕ) → i < length digits → IsInRange 48 57 (get_or digits i 0) → digits_value_after 10 value (drop i digits) ≡ digits_value 10 digits
    → digits_value_after 10 (value * 10 + (get_or digits i 0 - 48)) (drop (i + 1) digits) ≡ digits_value 10 digits
next_value value i digits lt is so_far =
    let c = get_or digits i 0 in
    let d : digit_value c ≡ c - 48 = omega (arith, digit_value_digit c is) in
    let step : digits_value_after 10 value (drop i digits) ≡ digits_value_after 10 (value * 10 + digit_value c) (drop (i + 1) digits) = at_drop_more (digits_value_after 10 value) digits i 0 lt in
    sym (ap (λ x. digits_value_after 10 (value * 10 + x) (drop (i + 1) digits)) d) ∙ sym step ∙ so_far

pub next_digits : (i : ℕ) (digits : List ℕ) → i < length digits → IsInRange 48 57 (get_or digits i 0) → (AllDigits 10 (drop i digits) → AllDigits 10 digits) → AllDigits 10 (drop (i + 1) digits) → AllDigits 10 digits
next_digits i digits lt is all rest = all (subst (AllDigits 10) (sym (drop_more digits i 0 lt)) (omega (arith, digit_value_digit (get_or digits i 0) is), rest))

-- all of the digits were read
pub all_read : (digits : List ℕ) (i value : ℕ) → length digits ≤ i → digits_value_after 10 value (drop i digits) ≡ digits_value 10 digits → (AllDigits 10 (drop i digits) → AllDigits 10 digits)
    → BeginAsNumber digits → value < 2 ^ 64 → AreDigitsOf (2 ^ 64) digits value
all_read digits i value le so_far all begin small =
    are_digits digits value (all (subst (AllDigits 10) (sym (drop_all i digits le)) tt)) (sym (at_drop_all (digits_value_after 10 value) digits i le) ∙ so_far) begin.0 begin.1 small

pub out_of_range : (b : ℕ) → IsOutOfRange 48 57 b → IsInRange 48 57 b → ⊥
out_of_range b (inl below) is = omega (arith, is.0)
out_of_range b (inr above) is = omega (arith, is.1)

-- digits of a number that is too large are those of no smaller one
pub not_small : (digits : List ℕ) (number : ℕ) → AreDigitsOf (2 ^ 64) digits number → 2 ^ 32 ≤ number → AreNoDigits (2 ^ 32) digits
not_small digits number h large small g =
    let below : small < 2 ^ 64 = omega (arith, g.1) in
    let same : number ≡ small = decimal_injective number small h.1 below (sym h.0 ∙ g.0) in
    omega (arith, g.1)

-- the digits of no number are those of no small one
pub none_small : (digits : List ℕ) → AreNoDigits (2 ^ 64) digits → AreNoDigits (2 ^ 32) digits
none_small digits none number h = none number (h.0, omega (arith, h.1))
