-- The numbers of the statuses.
use Rattle.std.specs.Prelude.{ℕ}
use Rattle.stepcheck.specs.declared.status.Status.{Status}
use Rattle.stepcheck.specs.declared.status.Status.TheVariants.{Accepted, Usage, Refused, ReadFault, WriteFault, NoMemory, TooLong, Bad}

abbrev pub status_number : Status → ℕ
status_number Accepted = 0
status_number Usage = 1
status_number Refused = 2
status_number ReadFault = 3
status_number WriteFault = 4
status_number NoMemory = 5
status_number TooLong = 6
status_number Bad = 7
