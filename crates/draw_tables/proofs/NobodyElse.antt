-- Where a table gives each of so many teams once and nothing more, it gives nobody else.
use Rattle.std.proofs.Common.{◌≡◌, ◌≢◌, ℕ, zero, suc, ◌+◌, ◌⊎◌, inl, inr, Bool, true, false, List, [], ◌∷◌, length, Some, slice_get, arith, refl, sym, ap, ◌∙◌}
use Rattle.std.specs.Prelude.{◌==◌, if◌then◌else◌}
use Rattle.std.proofs.lemmas.Bool.{eqb-true, ne_eqb}
use Rattle.team_files.specs.declared.team_id.TeamId.{TeamId}
use Rattle.draw_tables.specs.Lists.{IsAmong}
use Rattle.draw_tables.specs.Verdicts.{times_given}
use Rattle.draw_tables.proofs.Lists.{same_item}
use Rattle.draw_tables.proofs.Numbers.{same_id}
use Rattle.draw_tables.proofs.TimesGiven.{it_counts, other_counts_not}
use Rattle.draw_tables.proofs.PotOrder.{IsInOrder}

-- the table without a team
abbrev without : TeamId → List TeamId → List TeamId
without w [] = []
without w (t ∷ ts) = if t.0 == w.0 then without w ts else t ∷ without w ts

size_without : (w : TeamId) (ts : List TeamId) → length (without w ts) + times_given w ts ≡ length ts
size_without w [] = refl
size_without w (t ∷ ts) = go (t.0 == w.0) refl (size_without w ts)
  where
    go : (b : Bool) → (t.0 == w.0) ≡ b → length (without w ts) + times_given w ts ≡ length ts
        → length (if b then without w ts else t ∷ without w ts) + times_given w (t ∷ ts) ≡ suc (length ts)
    go true e later = let h = it_counts w t ts e in omega arith
    go false e later = let h = other_counts_not w t ts e in omega arith

times_without : (w v : TeamId) (ts : List TeamId) → v.0 ≢ w.0 → times_given v (without w ts) ≡ times_given v ts
times_without w v [] n = refl
times_without w v (t ∷ ts) n = go (t.0 == w.0) refl (times_without w v ts n)
  where
    kept : (b : Bool) → (t.0 == v.0) ≡ b → times_given v (without w ts) ≡ times_given v ts → times_given v (t ∷ without w ts) ≡ times_given v (t ∷ ts)
    kept true e later = it_counts v t (without w ts) e ∙ ap (λ k. 1 + k) later ∙ sym (it_counts v t ts e)
    kept false e later = other_counts_not v t (without w ts) e ∙ later ∙ sym (other_counts_not v t ts e)

    go : (b : Bool) → (t.0 == w.0) ≡ b → times_given v (without w ts) ≡ times_given v ts
        → times_given v (if b then without w ts else t ∷ without w ts) ≡ times_given v (t ∷ ts)
    go true e later =
        let is = eqb-true t.0 w.0 e in
        later ∙ sym (other_counts_not v t ts (ne_eqb t.0 v.0 (λ s. n (sym s ∙ is))))
    go false e later = kept (t.0 == v.0) refl later

among_without : (w x : TeamId) (ts : List TeamId) (k : ℕ) → slice_get ts k ≡ Some x → (x ≡ w) ⊎ IsAmong (without w ts) x
among_without w x [] k e = cc
among_without w x (t ∷ ts) k e = go (t.0 == w.0) refl k e (among_without w x ts)
  where
    up : (x ≡ w) ⊎ IsAmong (without w ts) x → (x ≡ w) ⊎ IsAmong (t ∷ without w ts) x
    up (inl s) = inl s
    up (inr found) = inr (suc found.0, found.1)

    go : (b : Bool) → (t.0 == w.0) ≡ b → (k : ℕ) → slice_get (t ∷ ts) k ≡ Some x
        → ((k : ℕ) → slice_get ts k ≡ Some x → (x ≡ w) ⊎ IsAmong (without w ts) x)
        → (x ≡ w) ⊎ IsAmong (if b then without w ts else t ∷ without w ts) x
    go true e zero f later = inl (sym (same_item t x f) ∙ same_id t w (eqb-true t.0 w.0 e))
    go true e (suc k) f later = later k f
    go false e zero f later = inr (0, f)
    go false e (suc k) f later = up (later k f)

-- as many places as teams that are given once leave none for another
pub nobody_else : (ws ts : List TeamId) → IsInOrder ws → ((w : TeamId) → IsAmong ws w → times_given w ts ≡ 1)
    → length ts ≡ length ws → (x : TeamId) → IsAmong ts x → IsAmong ws x
nobody_else [] [] order each size x among = among
nobody_else [] (t ∷ ts) order each size x among = absurd (omega arith)
nobody_else (w ∷ ws) ts order each size x among =
    let fewer = size_without w ts in
    let one = each w (0, refl) in
    in_rest (nobody_else ws (without w ts) order.1 each_left (omega arith) x) (among_without w x ts among.0 among.1)
  where
    each_left : (v : TeamId) → IsAmong ws v → times_given v (without w ts) ≡ 1
    each_left v found =
        let lt = order.0 found.0 v found.1 in
        times_without w v ts (λ s. omega arith) ∙ each v (suc found.0, found.1)

    in_rest : (IsAmong (without w ts) x → IsAmong ws x) → (x ≡ w) ⊎ IsAmong (without w ts) x → IsAmong (w ∷ ws) x
    in_rest later (inl s) = (0, ap Some (sym s))
    in_rest later (inr found) = let stands = later found in (suc stands.0, stands.1)
