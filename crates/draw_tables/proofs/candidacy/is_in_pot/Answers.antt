use Rattle.std.proofs.lemmas.Bool.{eqb-true, eq-eqb}
use Rattle.std.proofs.lemmas.Bool.Decides.{nat_tests}
use Rattle.std.proofs.Common.{◌≡◌, ℕ, ◌<◌, ◌≤◌, nat_lt, true, List, Some, slice_get, length, arith, sym, ◌∙◌, ap, zero-add}
use Rattle.std.proofs.lemmas.Option.{slice_get_within}
use Rattle.team_files.specs.declared.team.Team.{Team}
use Rattle.team_files.specs.declared.team_id.TeamId.{TeamId}
use Rattle.draw_tables.specs.Lists.{IsAmong}
use Rattle.draw_tables.specs.Pots.{pot_from}
use Rattle.draw_tables.proofs.PotMembers.{pot_among, among_pot}
use Rattle.draw_tables.proofs.candidacy.is_in_pot.Goals as goal

-- what passes the test is less
not_less : (a b : ℕ) → nat_lt a b ≡ true → b ≤ a → ⊥
not_less a b e le = grind (arith, nat_tests)

module _ (pot : ℕ) (ts : List Team) (x : TeamId) where
  stands_in : (t : Team) → slice_get ts x.0 ≡ Some t → t.pot ≡ pot → IsAmong (pot_from pot 0 ts) x
  stands_in t e p = rw zero-add at (pot_among pot 0 ts x.0 t e p)

  within : IsAmong (pot_from pot 0 ts) x → x.0 < length ts
  within h = let found = among_pot pot 0 ts x h in let lt = slice_get_within ts found.0 found.1 found.2.stands in omega (arith, found.2.number)

  pot_of : (t : Team) → slice_get ts x.0 ≡ Some t → IsAmong (pot_from pot 0 ts) x → t.pot ≡ pot
  pot_of t e h =
      let found = among_pot pot 0 ts x h in
      let place : x.0 ≡ found.0 = omega (arith, found.2.number) in
      let here = rw place at e in
      let same : Some t ≡ Some found.1 = sym here ∙ found.2.stands in
      let alike : t ≡ found.1 = cc in
      ap (λ u. u.pot) alike ∙ found.2.pot_is

pub returns-then-team-number : goal.returns-then-team-number
returns-then-team-number c = (
  λ e. rw (← c.teams-teams.ensures) (stands_in c.args.pot c.teams-teams.result.now c.args.team c.get.result.now c.get.ensures (eqb-true _ _ e)),
  λ h. eq-eqb _ _ (pot_of c.args.pot c.teams-teams.result.now c.args.team c.get.result.now c.get.ensures (rw (← c.teams-teams.ensures) at h)),
)

pub returns-else-team-number : goal.returns-else-team-number
returns-else-team-number c = (
  λ e. absurd (not_less c.args.team.0 c.number.result e (omega arith)),
  λ h.
      let here = rw (← c.teams-teams.ensures) at h in
      let lt = within c.args.pot c.teams-teams.result.now c.args.team here in
      absurd (omega (arith, c.number.ensures.number)),
)
