-- A text that is written to a sink in pieces, some of which are gathered first. `written` is what had been written to the sink
-- before and after, `gathered` what was gathered before and after, and `faults` the sink's count. The text was written whole, or a
-- prefix of it was; a write failed only where the count of faults rose.
use Rattle.std.specs.Prelude.{ℕ, ◌≤◌, Option, Result, Ok, Err, List, ◌++◌}
use Rattle.std.specs.Io.KnownBytes.{Appends}
use Rattle.byte_ends.specs.Faults.{FaultsRise}
use Rattle.byte_ends.specs.Gathering.{Gathers, WritesPart}
use Rattle.byte_ends.specs.declared.sink.WriteFault.{WriteFault as SinkFailed}
use Rattle.text_writer.specs.declared.fault.ReportFault.{ReportFault}
use Rattle.text_writer.specs.declared.fault.ReportFault.TheVariants.{Memory, WriteFault}

-- why a text wasn't told whole
abbrev pub IsWhy : ReportFault → ℕ → ℕ → Type 0
IsWhy Memory faults faults' = faults ≤ faults'
IsWhy WriteFault faults faults' = FaultsRise faults faults'

-- all of the text was gathered after what was gathered before
pub record Told (written written' : Option (List ℕ)) (gathered gathered' : List ℕ) (faults faults' : ℕ) (text : List ℕ) : Type 0 where
  pub gathers : Gathers written written' gathered gathered' text
  pub counts : faults ≤ faults'

-- the text was told; or a prefix of what was gathered before and of the text was written
abbrev pub Tells : {X : Type 0} → Result X ReportFault → Option (List ℕ) → Option (List ℕ) → List ℕ → List ℕ → ℕ → ℕ → List ℕ → Type 0
Tells (Ok done) written written' gathered gathered' faults faults' text = Told written written' gathered gathered' faults faults' text
Tells (Err why) written written' gathered gathered' faults faults' text = WritesPart written written' (gathered ++ text) × IsWhy why faults faults'

-- the text was written whole, or a prefix of it
abbrev pub WritesText : {X : Type 0} → Result X ReportFault → Option (List ℕ) → Option (List ℕ) → ℕ → ℕ → List ℕ → Type 0
WritesText (Ok done) written written' faults faults' text = Appends written written' text × (faults ≤ faults')
WritesText (Err why) written written' faults faults' text = WritesPart written written' text × IsWhy why faults faults'

-- the same of what wants no memory: the text was told or written, or the sink failed
abbrev pub TellsOrFails : {X : Type 0} → Result X SinkFailed → Option (List ℕ) → Option (List ℕ) → List ℕ → List ℕ → ℕ → ℕ → List ℕ → Type 0
TellsOrFails (Ok done) written written' gathered gathered' faults faults' text = Told written written' gathered gathered' faults faults' text
TellsOrFails (Err fault) written written' gathered gathered' faults faults' text = WritesPart written written' (gathered ++ text) × FaultsRise faults faults'

abbrev pub WritesOrFails : {X : Type 0} → Result X SinkFailed → Option (List ℕ) → Option (List ℕ) → ℕ → ℕ → List ℕ → Type 0
WritesOrFails (Ok done) written written' faults faults' text = Appends written written' text × (faults ≤ faults')
WritesOrFails (Err fault) written written' faults faults' text = WritesPart written written' text × FaultsRise faults faults'
