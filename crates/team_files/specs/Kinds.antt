-- The kinds of draws and their names.
use Rattle.std.specs.Prelude.{ℕ, Bool, bytes_eq, codes, if◌then◌else◌, List, Option, Some, None}
use Rattle.team_files.specs.declared.kind.Kind.{Kind}

-- the kind's name, as it stands in a head and in the opening of an answer
abbrev pub kind_text : Kind → List ℕ
kind_text Kind.Group = codes "group"
kind_text Kind.Pairing = codes "pairing"

-- the kind with the name
abbrev pub kind_named : List ℕ → Option Kind
kind_named text =
    if bytes_eq text (kind_text Kind.Group) then Some Kind.Group else (
    if bytes_eq text (kind_text Kind.Pairing) then Some Kind.Pairing else None)

-- the name is that of a kind that is not built
abbrev pub is_not_built : List ℕ → Bool
is_not_built text = bytes_eq text (codes "league")
