-- Laws of a link's rows and their packets, of every admissible history, and the bridge from histories to journals.
use Rattle.std.specs.Prelude.{ℕ, ◌^◌, ◌≤◌, ◌↔◌, List, length}
use Rattle.link_steps.specs.declared.replies.Entry.{Entry}
use Rattle.link_steps.specs.declared.shape.LinkShape.{LinkShape}
use Rattle.link_steps.specs.Admissible.{IsAdmissible}
use Rattle.link_steps.specs.Belonging.{AreNumberedFrom, PacketsHaveRows}
use Rattle.link_steps.specs.Journals.{history_of, IsLegalJournal}
use Rattle.link_steps.specs.Legal.{IsLegal}
use Rattle.link_steps.specs.Lists.{Each}
use Rattle.link_steps.specs.Scan.{clock_of, scan_of}
use Rattle.link_steps.specs.Slots.{HasSlots, TicksAreSoon}
use Rattle.link_steps.specs.Split.{Link}
use Rattle.link_steps.specs.WindowRows.{StandTogether}

-- the packets of every history have the arrival numbers from 1 on, in their order
abbrev pub PacketsAreNumbered : Type 0
PacketsAreNumbered = (shape : LinkShape) (h : List Entry) → AreNumberedFrom 0 (scan_of shape h).packets

-- each packet of a channel has one row, held or gone, and no other, and the row has its level and its eligible tick
abbrev pub EachPacketHasARow : Type 0
EachPacketHasARow = (shape : LinkShape) (h : List Entry) → IsAdmissible shape h → PacketsHaveRows shape h

-- the rows that bring packets into a window as long as the bound of a level stand together in one list that passes
abbrev pub RowsOfAWindowStandTogether : Type 0
RowsOfAWindowStandTogether = (shape : LinkShape) (h : List Entry) (m t : ℕ) → IsAdmissible shape h → 1 ≤ m → m ≤ length shape.bounds → StandTogether shape h m t

-- no row that is held has more packets here than slots
abbrev pub PacketsFitTheirSlots : Type 0
PacketsFitTheirSlots = (shape : LinkShape) (h : List Entry) → IsAdmissible shape h → Each (HasSlots shape h) (scan_of shape h).rows

-- no eligible tick reaches 2^63, while the clock is at most 2^61
abbrev pub EligibleTicksAreSoon : Type 0
EligibleTicksAreSoon = (shape : LinkShape) (h : List Entry) → clock_of h ≤ 2 ^ 61 → IsAdmissible shape h → TicksAreSoon shape h

-- a journal is legal exactly where its history is
abbrev pub JournalsAreHistories : Type 0
JournalsAreHistories = (link : Link) (journal : List Entry) → IsLegalJournal link journal ↔ IsLegal link (history_of journal)
