-- The words of a program, behind its name.
use Rattle.std.proofs.Common.{◌≡◌, List, length, drop, vec_len, Result, IfOk, Vec, ap, ◌∙◌}
use Rattle.std.proofs.lemmas.Result.{IfOk-weaker}
use Rattle.std.proofs.lemmas.Iterator.Adapters.{YieldsList-from_vec, YieldsList-from_skip, fact_from_collect}
use Rattle.std.specs.Bool.{⊤}
use Rattle.std.specs.Iterator.{DrainsIf}
use Rattle.std.specs.Iterator.Adapters.{skip_source, skip_count, skip_steps}
use Rattle.std.specs.declared.iter.Skip.{Skip}
use Rattle.std.specs.declared.vec.IntoIter.{IntoIter}
use Rattle.std.specs.Vec.Iter.{into_iter_items, into_iter_len, into_iter_steps}

-- what is collected of a vector's items when the first is skipped
pub collected_behind : {A Z E : Type 0} (r : Result (Vec A Z) E) (all : IntoIter A Z) (behind : Skip (IntoIter A Z))
    → skip_source behind ≡ all → skip_count behind ≡ 1
    → IfOk r (λ v. (xs : List A) × DrainsIf (skip_steps (into_iter_steps {X = A} {Z = Z})) ⊤ behind xs × ((v.items ≡ xs) × (vec_len v ≡ length xs)))
    → IfOk r (λ v. v.items ≡ drop 1 (into_iter_items all))
collected_behind {A} {Z} r all behind source count ran =
    let Collected : List A → Vec A Z → Type 0 = λ xs v. (v.items ≡ xs) × (vec_len v ≡ length xs) in
    let items : into_iter_items (skip_source behind) ≡ into_iter_items all = ap (λ it. into_iter_items it) source in
    let len : into_iter_len (skip_source behind) ≡ length (into_iter_items all) = ap (λ it. into_iter_len it) source ∙ all.rest.ok.0 in
    IfOk-weaker r (Collected (drop 1 (into_iter_items all))) (λ v. v.items ≡ drop 1 (into_iter_items all)) (λ v made. made.0)
    (fact_from_collect Collected r ran (YieldsList-from_skip 1 (YieldsList-from_vec (into_iter_items all) items len) count))
