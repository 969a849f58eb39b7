use Rattle.std.proofs.Common.{◌≡◌, ◌<◌, ◌^◌, drop}
use Rattle.std.specs.Str.Parse.{AllDigits, digits_value, digits_value_after}
use Rattle.list_texts.proofs.words.number_of.Given as goal

-- the value so far and the rest give the value, and if the rest are digits, all are
abbrev pub invariant-loop-digit : goal.invariant-loop-digit
invariant-loop-digit l = record {
  value : digits_value_after 10 l.value (drop l.digit-index l.digits) ≡ digits_value 10 l.digits;
  small : l.value < 2 ^ 64;
  digits : AllDigits 10 (drop l.digit-index l.digits) → AllDigits 10 l.digits;
}
