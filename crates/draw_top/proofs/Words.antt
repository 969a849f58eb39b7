-- One word that is a text.
use Rattle.std.proofs.Common.{◌≡◌, ℕ, List, [], ◌∷◌, length, get_or, arith, sym, ◌∙◌, ap, Bool}
use Rattle.std.specs.Prelude.{String, string_bytes, map, IsTrue, ◌↔◌}
use Rattle.std.specs.declared.alloc.Global.{Global}
use Rattle.std.proofs.lemmas.Bool.Decides.{Decides-like}

module _ (word : String Global) (text : List ℕ) where
  only_word : (words : List (String Global)) → length words ≡ 1 → word ≡ get_or words 0 word → string_bytes word ≡ text → map string_bytes words ≡ text ∷ []
  only_word [] one first is = absurd (omega arith)
  only_word (w ∷ []) one first is = ap (λ s. s ∷ []) (ap string_bytes (sym first) ∙ is)
  only_word (w ∷ v ∷ words) one first is = absurd (omega arith)

  word_is : (words : List (String Global)) → length words ≡ 1 → word ≡ get_or words 0 word → map string_bytes words ≡ text ∷ [] → string_bytes word ≡ text
  word_is [] one first is = absurd (omega arith)
  word_is (w ∷ []) one first is = ap string_bytes first ∙ cc
  word_is (w ∷ v ∷ words) one first is = absurd (omega arith)

  -- a test of the one word is a test of the words
  pub one_word : (words : List (String Global)) (same : Bool) → length words ≡ 1 → word ≡ get_or words 0 word → (IsTrue same ↔ (string_bytes word ≡ text)) → IsTrue same ↔ (map string_bytes words ≡ text ∷ [])
  one_word words same one first h = Decides-like same (only_word words one first) (word_is words one first) h
