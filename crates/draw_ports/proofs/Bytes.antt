-- Bytes that go out or come in piece by piece.
use Rattle.std.proofs.Common.{ℕ, ◌+◌, ◌++◌, List, length, take, drop, Option, ap, ◌∙◌, ◌≡◌, ◌-◌, ◌<◌, ◌≤◌, min, [], length-take, length-drop, length-append, drop-drop, take-append-drop, arith}
use Rattle.std.proofs.KnownBytes.{Appends-trans, Consumes-trans}
use Rattle.std.proofs.Math.Seq.{take-add}
use Rattle.std.proofs.lemmas.List.{take_at, drop_all}
use Rattle.std.specs.Io.KnownBytes.{Appends, Consumes}
use Rattle.draw_ports.specs.Causes.{TakesSome}

-- the next n bytes go out behind the first i
pub Appends-next : (a b c : Option (List ℕ)) (i n : ℕ) (xs : List ℕ) → Appends a b (take i xs) → Appends b c (take n (drop i xs)) → Appends a c (take (i + n) xs)
Appends-next a b c i n xs first next = rw (take-add) (Appends-trans a b c _ _ first next)

-- a read of the next n bytes gives them, and they are gone
pub front_taken : (xs into part : List ℕ) (at n size most : ℕ) → part ≡ take ((at + n) - at) (drop at xs) → size ≡ length xs → at ≤ size → n ≡ min (min most (length into)) (size - at) → 0 < most
    → (drop at xs ≡ take n (part ++ drop n into) ++ drop (at + n) xs) × (n ≡ 0 → 0 < length (part ++ drop n into) → drop (at + n) xs ≡ [])
front_taken xs into part at n size most part_is size_is within n_is some =
    let len : length part ≡ n = rw part_is (simp (length-take, length-drop) (omega arith)) in
    let same : part ≡ take n (drop at xs) = part_is ∙ ap (λ k. take k (drop at xs)) (omega arith) in
    (rw (take_at part (drop n into) n len, same, ← drop-drop n at xs, take-append-drop), λ none room. drop_all (at + n) xs (omega (arith, length-append part (drop n into), length-drop n into)))

-- what two reads took, one after the other, was taken
pub TakesSome-next : (a b c : Option (List ℕ)) (xs ys : List ℕ) → Consumes a b xs → Consumes b c ys → TakesSome a c
TakesSome-next a b c xs ys first next = (xs ++ ys, Consumes-trans a b c xs ys first next)
