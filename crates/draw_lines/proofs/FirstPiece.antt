-- Pieces of an input, and lines without their ends.
use Rattle.std.proofs.Common.{◌≡◌, ℕ, suc, ◌+◌, ◌<◌, ◌==◌, Bool, true, false, if◌then◌else◌, List, [], ◌∷◌, ◌++◌, append_assoc, length, take, drop, get_or, refl, sym, ap, ◌∙◌, eq-eqb, arith}
use Rattle.std.proofs.Math.Seq.{drop-cons, take-suc}
use Rattle.std.proofs.lemmas.Bool.Decides.{nat_tests}
use Rattle.draw_lines.specs.Inputs.{without_last, line_of, DoesNotEndWith, LinesLoseTheirEnds, pieces, pieces_after}

put : (c : ℕ) (t : Bool) (xs ys : List ℕ) → c ∷ (if t then xs else ys) ≡ (if t then c ∷ xs else c ∷ ys)
put c true xs ys = refl
put c false xs ys = refl

-- a last byte that is x falls away
without_last-end : (x b : ℕ) (xs : List ℕ) → without_last x (xs ++ b ∷ []) ≡ (if b == x then xs else xs ++ b ∷ [])
without_last-end x b [] = refl
without_last-end x b (c ∷ []) = put c (b == x) [] (b ∷ [])
without_last-end x b (c ∷ d ∷ xs) = ap (λ ys. c ∷ ys) (without_last-end x b (d ∷ xs)) ∙ put c (b == x) (d ∷ xs) (d ∷ xs ++ b ∷ [])

pub last_falls : (x b : ℕ) (xs ys : List ℕ) → ys ≡ xs ++ b ∷ [] → b ≡ x → xs ≡ without_last x ys
last_falls x b xs ys e same =
    let t : (b == x) ≡ true = eq-eqb b x same in
    let h = rw t at (without_last-end x b xs) in
    rw e (sym h)

pub last_stays : (x b : ℕ) (xs ys : List ℕ) → ys ≡ xs ++ b ∷ [] → (b ≡ x → ⊥) → ys ≡ without_last x ys
last_stays x b xs ys e other =
    let t : (b == x) ≡ false = grind (arith, nat_tests) in
    let h = rw t at (without_last-end x b xs) in
    rw e (sym h)

-- without a last byte x all stays
all_stays : (x : ℕ) (text : List ℕ) → DoesNotEndWith x text → text ≡ without_last x text
all_stays x [] other = refl
all_stays x (b ∷ []) other = last_stays x b [] (b ∷ []) refl (λ same. other [] (ap (λ c. c ∷ []) same))
all_stays x (b ∷ c ∷ bs) other = ap (λ ys. b ∷ ys) (all_stays x (c ∷ bs) (λ front e. other (b ∷ front) (ap (λ ys. b ∷ ys) e)))

-- a carriage return and a line feed fall away
both_fall : (text : List ℕ) → line_of (text ++ 13 ∷ 10 ∷ []) ≡ text
both_fall text =
    let feed = last_falls 10 10 (text ++ 13 ∷ []) (text ++ 13 ∷ 10 ∷ []) (sym (append_assoc text (13 ∷ []) (10 ∷ []))) refl in
    ap (without_last 13) (sym feed) ∙ sym (last_falls 13 13 text (text ++ 13 ∷ []) refl refl)

pub lines_lose_their_ends : LinesLoseTheirEnds
lines_lose_their_ends = record {
  feed = λ text other. ap (without_last 13) (sym (last_falls 10 10 text (text ++ 10 ∷ []) refl refl)) ∙ sym (all_stays 13 text other);
  return_and_feed = both_fall;
  return_alone = λ text. ap (without_last 13) (sym (last_stays 10 13 text (text ++ 13 ∷ []) refl (λ e. cc))) ∙ sym (last_falls 13 13 text (text ++ 13 ∷ []) refl refl);
  no_end = λ text no_return no_feed. ap (without_last 13) (sym (all_stays 10 text no_feed)) ∙ sym (all_stays 13 text no_return);
  one_return = λ text. ap line_of (sym (append_assoc text (13 ∷ []) (13 ∷ 10 ∷ []))) ∙ both_fall (text ++ 13 ∷ []);
}

-- the first piece ends at the first line feed
pub cut_here : (xs front back : List ℕ) (i : ℕ) → i < length xs → get_or xs i 0 ≡ 10 → front ≡ take (i + 1) xs → back ≡ drop (i + 1) xs → pieces_after (take i xs) (drop i xs) ≡ pieces xs → pieces xs ≡ front ∷ pieces back
cut_here xs front back i lt feed front_is back_is inv =
    let s : suc i ≡ i + 1 = omega arith in
    let d : drop i xs ≡ get_or xs i 0 ∷ drop (suc i) xs = drop-cons xs i 0 lt in
    let d2 = rw (feed, s) at d in
    let t : take (suc i) xs ≡ take i xs ++ get_or xs i 0 ∷ [] = take-suc xs i 0 lt in
    let t2 = rw (feed, s) at t in
    let h = rw d2 at inv in
    rw (front_is, back_is, t2) (sym h)
