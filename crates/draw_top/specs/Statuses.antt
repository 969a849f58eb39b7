-- The numbers of the statuses.
use Rattle.std.specs.Prelude.{ℕ}
use Rattle.draw_top.specs.declared.status.Status.{Status}

abbrev pub status_number : Status → ℕ
status_number Status.Ok = 0
status_number Status.Usage = 1
status_number Status.FileRefused = 2
status_number Status.ReadFault = 3
status_number Status.WriteFault = 4
status_number Status.NoMemory = 5
status_number Status.TooLong = 6
status_number Status.NotValid = 7
