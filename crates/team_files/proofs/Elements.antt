-- The elements of a list of values.
use Rattle.std.proofs.Common.{◌≡◌, List, [], ◌∷◌, refl, ap}
use Rattle.serde_json.specs.Data.{Data}
use Rattle.serde_json.specs.View.{items_of}
use Rattle.team_files.specs.Members.{elements}

-- what a value shows of a list are the list's elements
pub elements_of : (ds : List Data) → elements (items_of ds) ≡ ds
elements_of [] = refl
elements_of (d ∷ ds) = ap (λ es. d ∷ es) (elements_of ds)
