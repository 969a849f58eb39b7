-- What is possible: some legal table extends the moves. The offer of a state.
use Rattle.std.specs.Prelude.{◌≡◌, ◌↔◌, ◌⊎◌, List, [], ◌∷◌, ◌++◌, Some}
use Rattle.rule_sets.specs.Files.{DrawFile}
use Rattle.draw_tables.specs.declared.moves.Move.{Move}
use Rattle.draw_tables.specs.declared.moves.Move.TheVariants.{Drawn, Placed, Positioned, Paired}
use Rattle.draw_tables.specs.declared.moves.Choice.{Choice}
use Rattle.draw_tables.specs.declared.table.Table.{Table}
use Rattle.draw_tables.specs.declared.table.Table.TheVariants.{Group, Pairs}
use Rattle.draw_tables.specs.GroupTables.{group_of, position_of}
use Rattle.draw_tables.specs.Pairings.{GivesOpponent}
use Rattle.draw_tables.specs.Tables.{IsLegal}
use Rattle.draw_tables.specs.Lists.{IsAmong}
use Rattle.draw_tables.specs.States.{candidates, IsMoveOf, IsCandidateMove}

-- the table agrees with the move; a drawn ball says nothing of the table, and no table agrees with a move of another kind of draw
abbrev pub AgreesWith : DrawFile → Table → Move → Type 0
AgreesWith file table (Drawn t) = Unit {0}
AgreesWith file (Group groups) (Placed t group) = group_of groups.places t ≡ Some group
AgreesWith file (Group groups) (Positioned t position) =
    position_of groups.places t ≡ Some position
AgreesWith file (Pairs pairs) (Paired r w) = GivesOpponent file pairs.winners r w
AgreesWith file table m = ⊥

-- The table extends the moves: it agrees with each of them.
abbrev pub Extends : DrawFile → Table → List Move → Type 0
Extends file table [] = Unit {0}
Extends file table (m ∷ ms) = AgreesWith file table m × Extends file table ms

-- The moves can be completed: some legal table extends them.
abbrev pub IsCompletable : DrawFile → List Move → Type 0
IsCompletable file ms = (table : Table) × IsLegal file table × Extends file table ms

-- The choice is possible after the moves: some legal table extends them with the choice's move added.
abbrev pub IsPossible : DrawFile → List Move → Choice → Type 0
IsPossible file ms c = (m : Move) × IsMoveOf file ms c m × IsCompletable file (ms ++ m ∷ [])

-- The picked ones are those of the list that have the property, in the list's order.
abbrev pub Picks : {A : Type 0} → (A → Type 0) → List A → List A → Type 0
Picks P [] [] = Unit {0}
Picks P [] (o ∷ os) = ⊥
Picks {A} P (c ∷ cs) os =
    (P c × ((rest : List A) × (os ≡ c ∷ rest) × Picks P cs rest)) ⊎ (¬ P c × Picks P cs os)

-- The offer of the state: its possible candidates, in their order.
abbrev pub IsOffer : DrawFile → List Move → List Choice → Type 0
IsOffer file ms offered = Picks (IsPossible file ms) (candidates file ms) offered

-- ---- laws

-- Two offers of one state are the same.
abbrev pub OneOffer : Type 0
OneOffer = (file : DrawFile) (ms : List Move) (os qs : List Choice)
    → IsOffer file ms os → IsOffer file ms qs → os ≡ qs

-- The offer has exactly the possible choices.
abbrev pub OfferedWherePossible : Type 0
OfferedWherePossible = (file : DrawFile) (ms : List Move) (os : List Choice) (c : Choice)
    → IsOffer file ms os → (IsAmong os c ↔ IsPossible file ms c)

-- There is an offer where it is decided of each candidate's move whether the moves with it can be completed.
abbrev pub OfferWhereDecided : Type 0
OfferWhereDecided = (file : DrawFile) (ms : List Move)
    → ((m : Move) → IsCandidateMove file ms m
    → IsCompletable file (ms ++ m ∷ []) ⊎ ¬ IsCompletable file (ms ++ m ∷ []))
    → (os : List Choice) × IsOffer file ms os
