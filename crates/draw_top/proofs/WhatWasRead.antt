-- What was read to its end is what the source held.
use Rattle.std.proofs.Common.{◌≡◌, ℕ, ◌≤◌, List, ◌++◌, Option, Some, None, Result, Ok, Err, inl, inr, refl, sym, ap, subst, ◌∙◌, append-nil, length, arith}
use Rattle.std.specs.Prelude.{IfSome, IsSomeAnd}
use Rattle.std.specs.Io.KnownBytes.{Consumes, IsAtEnd, Appends}
use Rattle.draw_ports.specs.Causes.{AppendsSome}
use Rattle.team_files.specs.declared.fault.FileFault.{FileFault}
use Rattle.team_files.specs.Heads.{Head, head_of as read_head}
use Rattle.rule_sets.specs.Files.{DrawFile, file_of, IsFileOf, IsFileFault}
use Rattle.draw_lines.specs.Inputs.{head_of}
use Rattle.draw_top.specs.Outside.{Gains, GainsSome}
use Rattle.draw_top.specs.Follow.{IsAnswerOf, IsRefusalOf, HasFile}
use Rattle.draw_top.specs.declared.status.Status.{Status}
use Rattle.draw_top.specs.Modes.{Follow, limit_of}
use Rattle.draw_top.specs.Endings.{IsDecided}

-- what the source told is what was read
pub read_all_of : (input : List ℕ) (left rest : Option (List ℕ)) (P : List ℕ → Type 0) → Consumes left rest input → IsAtEnd rest → P input → IfSome left P
read_all_of input None rest P p q h = tt
read_all_of input (Some x) None P p q h = absurd p
read_all_of input (Some x) (Some y) P p q h = let same : x ≡ input = p ∙ ap (λ l. input ++ l) q ∙ append-nil input in subst P (sym same) h

-- what the source tells is so of what was read
pub told : (input : List ℕ) (left rest : Option (List ℕ)) (P : List ℕ → Type 0) → Consumes left rest input → IsAtEnd rest → IsSomeAnd left P → P input
told input None rest P p q h = absurd h
told input (Some x) None P p q h = absurd p
told input (Some x) (Some y) P p q h = let same : x ≡ input = p ∙ ap (λ l. input ++ l) q ∙ append-nil input in subst P same h

module _ (IsSo : List ℕ → List ℕ → Type 0) (input text : List ℕ) (left rest old new : Option (List ℕ)) where
  pub gains : Consumes left rest input → IsAtEnd rest → IsSo input text → Appends old new text → Gains IsSo left old new
  gains p q h e = read_all_of input left rest (λ i. (t : List ℕ) × IsSo i t × Appends old new t) p q (text, h, e)

  pub gains_some : Consumes left rest input → IsAtEnd rest → IsSo input text → AppendsSome old new text → GainsSome IsSo left old new
  gains_some p q h e = read_all_of input left rest (λ i. (t : List ℕ) × IsSo i t × AppendsSome old new t) p q (text, h, e)

-- one reading gives a value or a fault, and not both
either : {D H F : Type 0} (read : Option D) (step : D → Result H F) (d e : D) (h : H) (f : F) → read ≡ Some d → read ≡ Some e → step d ≡ Ok h → step e ≡ Err f → ⊥
either read step d e h f a b p q = let same : d ≡ e = cc in let ok : step e ≡ Ok h = rw same at p in let clash = sym ok ∙ q in cc

pub both : {D H F : Type 0} (read : Option D) (step : D → Result H F) (d e : D) (h g : H) → read ≡ Some d → read ≡ Some e → step d ≡ Ok h → step e ≡ Ok g → h ≡ g
both read step d e h g a b p q = let same : d ≡ e = cc in let ok : step e ≡ Ok h = rw same at p in let clash = sym ok ∙ q in cc

differ : {H F : Type 0} (r : Result H F) (h : H) (f : F) → r ≡ Ok h → r ≡ Err f → ⊥
differ r h f p q = let clash = sym p ∙ q in cc

absent : {D : Type 0} (r : Option D) (d : D) → r ≡ Some d → r ≡ None → ⊥
absent r d p q = let clash = sym p ∙ q in cc

-- Bytes have a file or a fault, and not both.
pub excluded : (bytes : List ℕ) (file : DrawFile) (fault : FileFault) → IsFileOf bytes file → IsFileFault bytes fault → ⊥
excluded bytes file fault h (inl (inl n)) = absent _ h.1.0 h.1.1.value (n.1 h.1.1.utf8)
excluded bytes file fault h (inl (inr g)) = either _ read_head h.1.0 g.0 h.0 fault h.1.1.value g.1.value h.1.2 g.2
excluded bytes file fault h (inr g) =
    let same : h.0 ≡ g.0 = both _ read_head h.1.0 g.1.0 h.0 g.0 h.1.1.value g.1.1.value h.1.2 g.1.2 in
    let P : Head → Type 0 = λ x. file_of x ≡ Ok file in
    differ (file_of g.0) file fault (subst P same h.2) g.2

-- An input that has a file is not refused.
pub not_refused : (input text : List ℕ) → HasFile input → IsRefusalOf input text → ⊥
not_refused input text h r = excluded (head_of input) h.0 r.0 h.1 r.1

-- An input that has no file is not answered.
pub not_answered : (input text : List ℕ) → (HasFile input → ⊥) → IsAnswerOf input text → ⊥
not_answered input text h r = h (r.0, r.1)

-- ---- an input that is answered or refused calls for no other status

pub answer_decides : (input text : List ℕ) (called : Status)
    → length input ≤ limit_of Follow → IsAnswerOf input text → IsDecided Follow input called → Status.Ok ≡ called
answer_decides input text Status.Ok fits is decided = refl
answer_decides input text Status.FileRefused fits is decided = absurd (not_answered input text decided.1 is)
answer_decides input text Status.TooLong fits is decided = absurd (omega arith)
answer_decides input text called fits is decided = absurd decided

pub refusal_decides : (input text : List ℕ) (called : Status)
    → length input ≤ limit_of Follow → IsRefusalOf input text → IsDecided Follow input called → Status.FileRefused ≡ called
refusal_decides input text Status.FileRefused fits is decided = refl
refusal_decides input text Status.Ok fits is decided = absurd (not_refused input text decided.1 is)
refusal_decides input text Status.TooLong fits is decided = absurd (omega arith)
refusal_decides input text called fits is decided = absurd decided
