-- How a run takes its bytes from the source and gives its text to the sink.
-- Here left, wrote and faults are what the source or the sink told before; .._now is what it tells after.
use Rattle.std.specs.Prelude.{◌≡◌, ℕ, ◌<◌, ◌≤◌, ◌⊎◌, List, length, Option, IfSome}
use Rattle.std.specs.Io.KnownBytes.{Appends, Consumes, IsAtEnd}
use Rattle.draw_ports.specs.Causes.{Rose, AppendsSome}
use Rattle.solve.specs.declared.status.Status.{Status}

-- The bytes are what the source held, and were read to its end within the limit.
pub record IsRead (limit : ℕ) (bytes : List ℕ) (left left_now : Option (List ℕ)) (faults faults_now : ℕ)
    : Type 0 where
  pub all : Consumes left left_now bytes
  pub end : IsAtEnd left_now
  pub fits : length bytes ≤ limit
  pub quiet : faults_now ≡ faults

-- The status tells why no bytes were read.
abbrev pub IsUnread : ℕ → Status → Option (List ℕ) → ℕ → ℕ → Type 0
IsUnread limit Status.ReadFault left faults faults_now = Rose faults faults_now
IsUnread limit Status.NoMemory left faults faults_now = faults_now ≡ faults
IsUnread limit Status.TooLong left faults faults_now =
    IfSome left (λ bytes. limit < length bytes) × (faults_now ≡ faults)
IsUnread limit status left faults faults_now = ⊥

-- The text was put whole and the status is the wanted one, or the sink failed on the way.
abbrev pub IsPut : List ℕ → Status → Status → Option (List ℕ) → Option (List ℕ) → ℕ → ℕ → Type 0
IsPut text wanted status wrote wrote_now faults faults_now =
    ((status ≡ wanted) × Appends wrote wrote_now text × (faults_now ≡ faults))
    ⊎ ((status ≡ Status.WriteFault) × AppendsSome wrote wrote_now text × Rose faults faults_now)
