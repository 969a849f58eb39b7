-- What a step of reading says: a value, or the fault that stands before it.
use Rattle.std.specs.Prelude.{◌≡◌, ◌≢◌, Option, Some, None, Result, Ok, Err}
use Rattle.team_files.specs.declared.fault.FileFault.{FileFault}

-- the first step's fault, else what the second makes of its value
abbrev pub after : {A B : Type 0}
    → Result A FileFault → (A → Result B FileFault) → Result B FileFault
after (Ok a) next = next a
after (Err fault) next = Err fault

-- the fault where there is one, else the rest
abbrev pub unless : {A : Type 0} → Option FileFault → Result A FileFault → Result A FileFault
unless (Some fault) rest = Err fault
unless None rest = rest

-- the fault is what is said, unless it is that memory ran out
abbrev pub Tells : {A : Type 0} → FileFault → Result A FileFault → Type 0
Tells fault said = fault ≢ FileFault.NoMemory → said ≡ Err fault

-- the call answers what is said, unless memory ran out
abbrev pub Gives : {A : Type 0} → Result A FileFault → Result A FileFault → Type 0
Gives (Ok a) said = said ≡ Ok a
Gives (Err fault) said = Tells fault said
