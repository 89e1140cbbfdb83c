-- What the word `make` answers. A number and a size determine a plan, the plan has one run by turns, and the text that is due is
-- the summary of that run. Nothing is read. A fault of writing is answered only where the count of faults of the sink rose, and
-- then a prefix of the text was written. What is said of bytes holds where the sink makes them known.
use Rattle.std.specs.Prelude.{◌≡◌, ℕ, nat_le, ◌&&◌, if◌then◌else◌, ◌⊎◌, Option, Some, None, Result, Ok, Err, List, [], ◌∷◌, reverse, codes}
use Rattle.std.specs.Io.KnownBytes.{Appends, Keeps}
use Rattle.byte_ends.specs.Faults.{FaultsRise}
use Rattle.byte_ends.specs.Gathering.{WritesPart}
use Rattle.call_script.specs.Tasks.{network_of}
use Rattle.channel_report.specs.Summary.{summary_of}
use Rattle.text_writer.specs.declared.fault.ReportFault.{ReportFault}
use Rattle.text_writer.specs.declared.fault.ReportFault.TheVariants as fault
use Rattle.interleave_core.specs.channels.Laws.{IsGuaranteedRun}
use Rattle.load_maker.specs.Made.{made_parts}
use Rattle.load_maker.specs.TurnRuns.{IsTurnsRun}
use Rattle.run_record.specs.declared.done.Done.{Done}
use Rattle.scenario_reader.specs.Decimal.{is_number, value_of}
use Rattle.tenet_app.specs.Playing.{is_this_word}
use Rattle.tenet_app.specs.declared.status.Status.{Status}
use Rattle.tenet_app.specs.declared.status.Status.TheVariants as status

-- ---- what is due

-- this status, and the summary of the run by turns of the load's plan
pub record DueOfLoad (number size : ℕ) (answer : Status) (text : List ℕ) : Type 0 where
  pub run : List Done
  pub by_turns : IsTurnsRun (network_of (made_parts number size)) run
  pub done : answer ≡ status.Done
  pub summary : text ≡ summary_of number size (made_parts number size) (reverse run)

-- ---- what a status says

-- the plan was run by turns; the run has the whole guarantee at its beginning and after each of its entries; and its summary was written
pub record MakesDone (number size : ℕ) (written written' : Option (List ℕ)) : Type 0 where
  pub run : List Done
  pub by_turns : IsTurnsRun (network_of (made_parts number size)) run
  pub guaranteed : IsGuaranteedRun (made_parts number size) run
  pub appends : Appends written written' (summary_of number size (made_parts number size) (reverse run))

-- a prefix of the text that is due was written
pub record FrontOfLoad (number size : ℕ) (written written' : Option (List ℕ)) : Type 0 where
  pub text : List ℕ
  pub due : DueOfLoad number size status.Done text
  pub front : WritesPart written written' text

-- `written` is what the sink told before and after, `faults` its count
abbrev pub Makes : ℕ → ℕ → Status → Option (List ℕ) → Option (List ℕ) → ℕ → ℕ → Type 0
Makes number size status.Done written written' faults faults' = MakesDone number size written written'
Makes number size status.Memory written written' faults faults' = Keeps written written' ⊎ FrontOfLoad number size written written'
Makes number size status.WriteFault written written' faults faults' = FaultsRise faults faults' × FrontOfLoad number size written written'
Makes number size status.Words written written' faults faults' = ⊥
Makes number size status.ReadFault written written' faults faults' = ⊥
Makes number size (status.Refused line told) written written' faults faults' = ⊥
Makes number size status.TooLong written written' faults faults' = ⊥

-- what writing the summary says: it was written whole; or memory ran out, or the sink failed
abbrev pub Summarizes : {X : Type 0} → ℕ → ℕ → Result X ReportFault → Option (List ℕ) → Option (List ℕ) → ℕ → ℕ → Type 0
Summarizes number size (Ok done) written written' faults faults' = Makes number size status.Done written written' faults faults'
Summarizes number size (Err fault.Memory) written written' faults faults' = Makes number size status.Memory written written' faults faults'
Summarizes number size (Err fault.WriteFault) written written' faults faults' = Makes number size status.WriteFault written written' faults faults'

-- ---- laws

-- a text that is due with this status
pub record DueAs (number size : ℕ) (answer : Status) : Type 0 where
  pub text : List ℕ
  pub due : DueOfLoad number size answer text

pub record LoadsDetermine : Type 0 where
  -- where the sink doesn't fail, an answer that `make` may give is due for the number and the size, or memory ran out
  pub answers : (number size : ℕ) (answer : Status) (written written' : Option (List ℕ)) (faults faults' : ℕ) → (FaultsRise faults faults' → ⊥) → Makes number size answer written written' faults faults' → (answer ≡ status.Memory) ⊎ DueAs number size answer
  -- and no two are due
  pub one : (number size : ℕ) (answer other : Status) (text text_other : List ℕ) → DueOfLoad number size answer text → DueOfLoad number size other text_other → (answer ≡ other) × (text ≡ text_other)

-- ---- the words

-- the number from `low` to `high` that a word is: in decimal, with no sign and no leading 0, unless it is 0 itself
abbrev pub number_from : ℕ → ℕ → List ℕ → Option ℕ
number_from low high word = if is_number word && (nat_le low (value_of word) && nat_le (value_of word) high) then Some (value_of word) else None

abbrev pub both_of : Option ℕ → Option ℕ → Option (ℕ × ℕ)
both_of None other = None
both_of (Some one) None = None
both_of (Some one) (Some other) = Some (one, other)

-- make NUMBER SIZE: the number and the size
abbrev pub make_words : List (List ℕ) → Option (ℕ × ℕ)
make_words [] = None
make_words (word ∷ []) = None
make_words (first ∷ second ∷ []) = None
make_words (word ∷ number ∷ size ∷ []) = if is_this_word (codes "make") word then both_of (number_from 0 2147483647 number) (number_from 1 1024 size) else None
make_words (first ∷ second ∷ third ∷ fourth ∷ others) = None
