-- Half of the teams of a pairing are runners-up, at least one.
use Rattle.std.proofs.Common.{◌≡◌, ℕ, ◌+◌, ◌*◌, ◌≤◌, ◌≢◌, ◌⊎◌, zero, suc, inl, inr, List, [], ◌∷◌, length, cond, arith, refl}
use Rattle.std.specs.Prelude.{◌==◌}
use Rattle.std.specs.List.{All}
use Rattle.std.proofs.lemmas.List.Sums.{sum_by-cons}
use Rattle.std.proofs.lemmas.List.Elements.{All-head, All-tail}
use Rattle.team_files.specs.declared.team.Team.{Team}
use Rattle.team_files.specs.Heads.{pot_size}
use Rattle.rule_sets.specs.Files.{DrawFile}
use Rattle.rule_sets.specs.Forms.{HasCommonForm, HasPairingForm, IsInPot}
use Rattle.draw_tables.specs.Pots.{runners_up}
use Rattle.draw_tables.proofs.PotOrder.{pot_length}

-- one team more
one_more : (pot : ℕ) (t : Team) (ts : List Team) → pot_size pot (t ∷ ts) ≡ cond (t.pot == pot) 1 0 + pot_size pot ts
one_more pot t ts = sum_by-cons (λ (u : Team). cond (u.pot == pot) 1 0) t ts

-- of two pots it is the first or the second
one_or_two : (n : ℕ) → 1 ≤ n → n ≤ 2 → (n ≡ 1) ⊎ (n ≡ 2)
one_or_two zero low high = absurd (omega arith)
one_or_two (suc zero) low high = inl refl
one_or_two (suc (suc n)) low high = inr (omega arith)

-- a team counts in one of the two pots
counts_one : (t : Team) → (t.pot ≡ 1) ⊎ (t.pot ≡ 2) → cond (t.pot == 1) 1 0 + cond (t.pot == 2) 1 0 ≡ 1
counts_one t (inl e) = rw e refl
counts_one t (inr e) = rw e refl

-- each team counts once
both_pots : (ts : List Team) → All (IsInPot 2) ts → pot_size 1 ts + pot_size 2 ts ≡ length ts
both_pots [] h = refl
both_pots (t ∷ ts) h =
    let one = one_more 1 t ts in
    let two = one_more 2 t ts in
    let pot = All-head (IsInPot 2) t ts h in
    let here = counts_one t (one_or_two t.pot pot.0 pot.1) in
    let rest = both_pots ts (All-tail (IsInPot 2) t ts h) in
    omega arith

-- half of the teams are runners-up, at least one
pub half : (file : DrawFile) → HasCommonForm file → HasPairingForm file → (length file.teams ≡ 2 * length (runners_up file)) × (1 ≤ length (runners_up file))
half file common pairing =
    let all = both_pots file.teams (rw pairing.pots at common.in_pots) in
    let runners = pot_length 2 file in
    let same = pairing.same_size in
    let some : pot_size 1 file.teams ≢ 0 = pairing.not_empty in
    (omega arith, omega arith)
