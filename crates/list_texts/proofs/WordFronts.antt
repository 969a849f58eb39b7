-- One literal and one hint stand in front of a text.
use Rattle.std.proofs.Common.{◌≡◌, ℕ, Bool, true, false, List, ◌∷◌, ◌++◌, drop, get_or, refl, sym, ap, ◌∙◌, arith}
use Rattle.std.specs.Fmt.{decimal}
use Rattle.count_core.specs.declared.lit.Lit.{Lit}
use Rattle.count_core.specs.declared.hint.Hint.{Hint}
use Rattle.count_core.specs.declared.hint.Hint.TheVariants.{Rule, Step as Earlier}
use Rattle.list_texts.specs.ListTexts.{FitsNumber, FitsLit, FitsHint, lit_text, hint_text}
use Rattle.list_texts.specs.Fronts.{EndsNumber, spaced_number, mark, marked_number, FitsMarked, IsByteAt, NoByteAt, IsNumberAt, NoNumberAt, IsSpacedNumberAt, NoSpacedNumberAt, IsMarkAt, NoMarkAt, IsMarkedNumberAt, NoMarkedNumberAt, IsLitAt, NoLitAt, IsHintAt, NoHintAt}
use Rattle.list_texts.proofs.Fronts.{IsOne}
use Rattle.list_texts.proofs.Numbers.{one_number}

-- a space ends a number, and so does a line feed
pub space_ends : (rest : List ℕ) → EndsNumber (32 ∷ rest)
space_ends rest h = omega (arith, h.0)

pub feed_ends : (rest : List ℕ) → EndsNumber (10 ∷ rest)
feed_ends rest h = omega (arith, h.0)

-- ---- a number behind one space

at_number : (n : ℕ) (rest : List ℕ) → FitsNumber n → EndsNumber rest → IsNumberAt (decimal n ++ rest) n rest
at_number n rest fits ends = record { whole = refl; fits = fits; ends = ends }

pub one_spaced : IsOne spaced_number FitsNumber EndsNumber
one_spaced text n m r s h g =
    one_number (decimal n ++ r) n m r s (at_number n r h.fits h.ends) (record { whole = ap (drop 1) (sym h.whole ∙ g.whole); fits = g.fits; ends = g.ends })

pub no_space : (text : List ℕ) → NoByteAt 32 text → NoSpacedNumberAt text
no_space text none n rest h = none (decimal n ++ rest) h.whole

pub no_number : (text left : List ℕ) → IsByteAt 32 text left → NoNumberAt left → NoSpacedNumberAt text
no_number text left is none n rest h = none n rest (record { whole = ap (drop 1) (sym is ∙ h.whole); fits = h.fits; ends = h.ends })

pub spaced : (text left : List ℕ) (n : ℕ) (rest : List ℕ) → IsByteAt 32 text left → IsNumberAt left n rest → IsSpacedNumberAt text n rest
spaced text left n rest is h = record { whole = is ∙ ap (λ l. 32 ∷ l) h.whole; fits = h.fits; ends = h.ends }

-- ---- a number behind one of two bytes

same_mark : (one other : ℕ) → (one ≡ other → ⊥) → (b c : Bool) → mark one other b ≡ mark one other c → b ≡ c
same_mark one other apart true true e = refl
same_mark one other apart true false e = absurd (apart e)
same_mark one other apart false true e = absurd (apart (sym e))
same_mark one other apart false false e = refl

module _ (one other : ℕ) where
  pub no_mark_here : (text left : List ℕ) → IsByteAt 32 text left → NoByteAt one left → NoByteAt other left → NoMarkAt one other text
  no_mark_here text left is first second true rest e = first rest (ap (drop 1) (sym is ∙ e))
  no_mark_here text left is first second false rest e = second rest (ap (drop 1) (sym is ∙ e))

  pub no_mark_space : (text : List ℕ) → NoByteAt 32 text → NoMarkAt one other text
  no_mark_space text none b rest e = none (mark one other b ∷ rest) e

  pub no_mark : (text : List ℕ) → NoMarkAt one other text → NoMarkedNumberAt one other text
  no_mark text none p rest h = none p.0 (decimal p.1 ++ rest) h.whole

  pub no_marked : (text left : List ℕ) (b : Bool) → IsMarkAt one other text b left → NoNumberAt left → NoMarkedNumberAt one other text
  no_marked text left b is none p rest h = none p.1 rest (record { whole = ap (drop 2) (sym is ∙ h.whole); fits = h.fits; ends = h.ends })

  pub marked : (text left : List ℕ) (b : Bool) (n : ℕ) (rest : List ℕ) → IsMarkAt one other text b left → IsNumberAt left n rest → IsMarkedNumberAt one other text (b, n) rest
  marked text left b n rest is h = record { whole = is ∙ ap (λ l. 32 ∷ mark one other b ∷ l) h.whole; fits = h.fits; ends = h.ends }

  pub one_marked : (one ≡ other → ⊥) → IsOne (marked_number one other) FitsMarked EndsNumber
  one_marked apart text p q r s h g =
      let e : marked_number one other p ++ r ≡ marked_number one other q ++ s = sym h.whole ∙ g.whole in
      let marks : mark one other p.0 ≡ mark one other q.0 = ap (λ l. get_or l 1 0) e in
      let numbers = one_number (decimal p.1 ++ r) p.1 q.1 r s (at_number p.1 r h.fits h.ends) (record { whole = ap (drop 2) e; fits = g.fits; ends = g.ends }) in
      ((λ i. (same_mark one other apart p.0 q.0 marks i, numbers.0 i)), numbers.1)

-- ---- literals

signs_differ : ◌≡◌ {A = ℕ} 43 45 → ⊥
signs_differ e = omega arith

pub as_marked_lit : (text : List ℕ) (lit : Lit) (rest : List ℕ) → IsLitAt text lit rest → IsMarkedNumberAt 43 45 text (lit.positive, lit.atom.0) rest
as_marked_lit text lit rest h = record { whole = h.whole; fits = h.fits; ends = h.ends }

pub lit_stands : (text : List ℕ) (b : Bool) (n : ℕ) (rest : List ℕ) → IsMarkedNumberAt 43 45 text (b, n) rest → IsLitAt text (record { atom = record { 0 = n }; positive = b }) rest
lit_stands text b n rest h = record { whole = h.whole; fits = h.fits; ends = h.ends }

pub no_lit : (text : List ℕ) → NoMarkedNumberAt 43 45 text → NoLitAt text
no_lit text none lit rest h = none (lit.positive, lit.atom.0) rest (as_marked_lit text lit rest h)

pub one_lit : IsOne lit_text FitsLit EndsNumber
one_lit text l k r s h g =
    let both = one_marked 43 45 signs_differ text (l.positive, l.atom.0) (k.positive, k.atom.0) r s (as_marked_lit text l r h) (as_marked_lit text k s g) in
    ((λ i. record { atom = record { 0 = (both.0 i).1 }; positive = (both.0 i).0 }), both.1)

pub after_lit : (lit : Lit) (rest : List ℕ) → EndsNumber (lit_text lit ++ rest)
after_lit lit rest h = omega (arith, h.0)

slash_no_sign : (b : Bool) → 47 ≡ mark 43 45 b → ⊥
slash_no_sign true e = omega arith
slash_no_sign false e = omega arith

pub no_lit_at_slash : (rest : List ℕ) → NoLitAt (32 ∷ 47 ∷ rest)
no_lit_at_slash rest lit more h = slash_no_sign lit.positive (ap (λ l. get_or l 1 0) h.whole)

pub no_lit_at_feed : (rest : List ℕ) → NoLitAt (10 ∷ rest)
no_lit_at_feed rest lit more h = let e : ◌≡◌ {A = ℕ} 10 32 = ap (λ l. get_or l 0 0) h.whole in omega arith

-- ---- hints

kinds_differ : ◌≡◌ {A = ℕ} 114 115 → ⊥
kinds_differ e = omega arith

abbrev hint_pair : Hint → Bool × ℕ
hint_pair (Rule n) = (true, n)
hint_pair (Earlier n) = (false, n)

as_marked_hint : (text : List ℕ) (hint : Hint) (rest : List ℕ) → IsHintAt text hint rest → IsMarkedNumberAt 114 115 text (hint_pair hint) rest
as_marked_hint text (Rule n) rest h = record { whole = h.whole; fits = h.fits; ends = h.ends }
as_marked_hint text (Earlier n) rest h = record { whole = h.whole; fits = h.fits; ends = h.ends }

pub rule_hint_stands : (text : List ℕ) (n : ℕ) (rest : List ℕ) → IsMarkedNumberAt 114 115 text (true, n) rest → IsHintAt text (Rule n) rest
rule_hint_stands text n rest h = record { whole = h.whole; fits = h.fits; ends = h.ends }

pub step_hint_stands : (text : List ℕ) (n : ℕ) (rest : List ℕ) → IsMarkedNumberAt 114 115 text (false, n) rest → IsHintAt text (Earlier n) rest
step_hint_stands text n rest h = record { whole = h.whole; fits = h.fits; ends = h.ends }

pub no_hint : (text : List ℕ) → NoMarkedNumberAt 114 115 text → NoHintAt text
no_hint text none hint rest h = none (hint_pair hint) rest (as_marked_hint text hint rest h)

same_hint : (h k : Hint) → hint_pair h ≡ hint_pair k → h ≡ k
same_hint (Rule n) (Rule m) e = ap (λ p. Rule p.1) e
same_hint (Rule n) (Earlier m) e = let kinds : true ≡ false = ap (λ p. p.0) e in cc
same_hint (Earlier n) (Rule m) e = let kinds : false ≡ true = ap (λ p. p.0) e in cc
same_hint (Earlier n) (Earlier m) e = ap (λ p. Earlier p.1) e

pub one_hint : IsOne hint_text FitsHint EndsNumber
one_hint text h k r s a b =
    let both = one_marked 114 115 kinds_differ text (hint_pair h) (hint_pair k) r s (as_marked_hint text h r a) (as_marked_hint text k s b) in
    (same_hint h k both.0, both.1)

pub after_hint : (hint : Hint) (rest : List ℕ) → EndsNumber (hint_text hint ++ rest)
after_hint (Rule n) rest = λ h. omega (arith, h.0)
after_hint (Earlier n) rest = λ h. omega (arith, h.0)

feed_no_hint : (hint : Hint) (rest more : List ℕ) → 10 ∷ rest ≡ hint_text hint ++ more → ⊥
feed_no_hint (Rule n) rest more e = let f : ◌≡◌ {A = ℕ} 10 32 = ap (λ l. get_or l 0 0) e in omega arith
feed_no_hint (Earlier n) rest more e = let f : ◌≡◌ {A = ℕ} 10 32 = ap (λ l. get_or l 0 0) e in omega arith

pub no_hint_at_feed : (rest : List ℕ) → NoHintAt (10 ∷ rest)
no_hint_at_feed rest hint more h = feed_no_hint hint rest more h.whole
