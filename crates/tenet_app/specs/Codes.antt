-- The exit status of the program for each way in which a run may end.
use Rattle.std.specs.Prelude.{ℕ}
use Rattle.tenet_app.specs.declared.status.Status.{Status}
use Rattle.tenet_app.specs.declared.status.Status.TheVariants as status

abbrev pub code_of : Status → ℕ
code_of status.Done = 0
code_of status.Memory = 1
code_of status.Words = 2
code_of status.ReadFault = 3
code_of status.WriteFault = 4
code_of (status.Refused line cause) = 5
code_of status.TooLong = 6
