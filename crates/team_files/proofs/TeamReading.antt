-- The members of the teams, read one team at a time.
use Rattle.std.proofs.Common.{◌≡◌, ℕ, ◌+◌, ◌<◌, List, [], ◌∷◌, ◌++◌, length, map, drop, get_or, refl, ap, append_assoc, Result, Ok, Err}
use Rattle.std.proofs.lemmas.List.{drop_more}
use Rattle.serde_json.specs.Data.{Data}
use Rattle.team_files.specs.declared.kind.Kind.{Kind}
use Rattle.team_files.specs.declared.fault.FileFault.{FileFault}
use Rattle.team_files.specs.declared.fields.TeamFields.{TeamFields}
use Rattle.team_files.specs.Answers.{after}
use Rattle.team_files.specs.Heads.{team_fields, all_team_fields}

module _ {X : Type 0} (view : X → Data) (kind : Kind) (pots : ℕ) where
  -- what is read of the teams from i on, behind the members so far
  abbrev pub read_from : List X → ℕ → List TeamFields → Result (List TeamFields) FileFault
  read_from vs i so_far = after (all_team_fields kind pots (map view (drop i vs))) (λ teams. Ok (so_far ++ teams))

  -- the members of one more team stand behind those so far
  pub one_more : (vs : List X) (i : ℕ) (v : X) (so_far : List TeamFields) (f : TeamFields)
      → i < length vs → v ≡ get_or vs i v → team_fields kind pots (view v) ≡ Ok f
      → read_from vs (i + 1) (so_far ++ f ∷ []) ≡ read_from vs i so_far
  one_more vs i v so_far f within at read = rw (drop_more vs i v within) (rw (← at) (rw read (go (all_team_fields kind pots (map view (drop (i + 1) vs))))))
    where
      go : (r : Result (List TeamFields) FileFault) → after r (λ teams. Ok ((so_far ++ f ∷ []) ++ teams)) ≡ after (after r (λ teams. Ok (f ∷ teams))) (λ teams. Ok (so_far ++ teams))
      go (Err g) = refl
      go (Ok ts) = ap (λ l. Ok l) (append_assoc so_far (f ∷ []) ts)
