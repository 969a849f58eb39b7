-- The numbers of the statuses.
use Rattle.std.specs.Prelude.{ℕ}
use Rattle.solve.specs.declared.status.Status.{Status}
use Rattle.solve.specs.declared.status.Status.TheVariants.{Answered, Usage, Refused, ReadFault, WriteFault, NoMemory, TooLong}

abbrev pub status_number : Status → ℕ
status_number Answered = 0
status_number Usage = 1
status_number Refused = 2
status_number ReadFault = 3
status_number WriteFault = 4
status_number NoMemory = 5
status_number TooLong = 6
