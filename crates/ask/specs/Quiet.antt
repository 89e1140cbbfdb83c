-- An answer goes to standard output, and nothing else does. So where the words are wrong, a line of the file is refused or memory is short, no byte
-- is written there.
use Rattle.std.specs.Prelude.{◌≡◌, Bool, true, false, Result, Ok, Err}
use Rattle.ask.specs.declared.status.Status.{Status}
use Rattle.ask.specs.declared.status.Status.TheVariants.{Yes, No, Words, File, Memory, Refused}
use Rattle.ask.specs.declared.trouble.Trouble.{Trouble}
use Rattle.ask.specs.declared.trouble.Trouble.TheVariants as trouble

-- whether a run that ends so has written no answer, or no part of one
abbrev pub is_quiet : Status → Bool
is_quiet Yes = false
is_quiet No = false
is_quiet File = false
is_quiet Words = true
is_quiet Memory = true
is_quiet Refused = true

-- whether writing failed
abbrev pub is_unwritten : Trouble → Bool
is_unwritten trouble.Write = true
is_unwritten _ = false

-- what a quiet end leaves as it was, and what any trouble leaves so but a failed write
abbrev pub QuietEnd : {K : Type 0} → Status → K → K → Type 0
QuietEnd status old new = is_quiet status ≡ true → new ≡ old

abbrev pub QuietTold : {K : Type 0} → Result Status Trouble → K → K → Type 0
QuietTold (Ok status) old new = QuietEnd status old new
QuietTold (Err trouble) old new = is_unwritten trouble ≡ false → new ≡ old
