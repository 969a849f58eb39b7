-- Lists: that one has an item.
use Rattle.std.specs.Prelude.{◌≡◌, ℕ, List, Some, slice_get}

-- the list has the item
abbrev pub IsAmong : {A : Type 0} → List A → A → Type 0
IsAmong xs x = (k : ℕ) × (slice_get xs k ≡ Some x)
