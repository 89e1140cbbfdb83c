-- A row of a table is found and changed by its channel. Here is what a change asks of the row.
use Rattle.std.specs.Prelude.{◌≡◌, ℕ, ◌-◌, ◌<◌, ◌≤◌, ◌^◌, Bool, true, Option, Some, None, List, [], find, length, map}
use Rattle.net_units.specs.Numbers.{level_number}
use Rattle.net_units.specs.declared.numbers.ChanNo.{ChanNo}
use Rattle.net_units.specs.declared.numbers.Level.{Level}
use Rattle.traffic_contract.specs.Admission.{total, admits}
use Rattle.traffic_contract.specs.Eligible.{newest}
use Rattle.link_steps.specs.declared.replies.Phase.TheVariants.{Tentative, Committed}
use Rattle.link_steps.specs.declared.replies.Refusal.TheVariants.{Stray}
use Rattle.link_steps.specs.declared.replies.Why.TheVariants.{NoRow}
use Rattle.link_steps.specs.Buffer.{slots_of, held_packets, held_units}
use Rattle.link_steps.specs.Account.{AccountRow, is_account_of, is_account_at_hop, account_terms, account_arrived, account_arrived_row}
use Rattle.link_steps.specs.declared.asks.Packet.{Packet}
use Rattle.link_steps.specs.Refusals.{RefusalRule, not_in_phase}
use Rattle.link_steps.specs.Reservation.{admitted, committed}
use Rattle.link_server.specs.TableAccount.{TableAccount}
use Rattle.link_steps.specs.Service.{Arrival}
use Rattle.link_server.specs.Departed.{AreCounted}
use Rattle.link_server.specs.Strays.{arrive_refusal}

-- the channel has a row, and P holds of it
pub record HasRow (P : AccountRow → Type 0) (chan : ChanNo) (rows : List AccountRow) : Type 0 where
  pub row : AccountRow
  pub found : find (is_account_of chan) rows ≡ Some row
  pub holds : P row

-- it is this row, and it is at its first hop, or at a later one
pub record IsRowAtHop (chan : ChanNo) (first : Bool) (rows : List AccountRow) (row : AccountRow) : Type 0 where
  pub found : find (is_account_of chan) rows ≡ Some row
  pub at_hop : is_account_at_hop chan first row ≡ true

-- the row is tentative, and may be committed at the level with that bound before: it has no more slots then
pub record MayCommit (bounds : List ℕ) (level : Level) (up_bound : ℕ) (row : AccountRow) : Type 0 where
  pub tentative : None ≡ not_in_phase Tentative row.terms
  pub upto : level_number row.terms.level ≤ level_number level
  pub fewer : slots_of bounds (committed level up_bound row.terms) ≤ slots_of bounds row.terms

-- the row is committed, and no packet of it is planned and left
pub record MayPlan (row : AccountRow) : Type 0 where
  pub phase : None ≡ not_in_phase Committed row.terms
  pub none_left : length row.left ≡ 0

-- the row is committed, and its newest eligible tick is soon
pub record MayClose (row : AccountRow) : Type 0 where
  pub phase : None ≡ not_in_phase Committed row.terms
  pub soon : newest row.recent < 2 ^ 63

-- the refusal of a packet, where its channel has this row and these packets are here
abbrev pub arrive_rule : List ℕ → List Arrival → Packet → Option AccountRow → RefusalRule
arrive_rule bounds here packet None = Some (Stray NoRow)
arrive_rule bounds here packet (Some row) = arrive_refusal bounds packet row.terms row.taken (held_packets row.lead here)

-- the row refuses the packet for none of the packets that may be here, by what the rows count of them
abbrev pub HasPlace : TableAccount → Packet → AccountRow → Type 0
HasPlace table packet row = (here : List Arrival) → AreCounted here table.rows table.departed → None ≡ arrive_rule table.server.bounds here packet (Some row)

-- a row that takes the packet has its newest eligible tick soon
abbrev pub AreSoonWith : ℕ → ℕ → Packet → TableAccount → Type 0
AreSoonWith clock number packet table =
    (row : AccountRow) → find (is_account_of packet.chan) table.rows ≡ Some row → HasPlace table packet row → newest (account_arrived_row clock number packet row).recent < 2 ^ 63

-- it takes the packet as this one
pub record TakesAs (clock number : ℕ) (packet : Packet) (table : TableAccount) (taken : Arrival) (row : AccountRow) : Type 0 where
  pub placed : HasPlace table packet row
  pub is : taken ≡ account_arrived clock number packet row

-- the row may be added to the table: it is tentative and plans nothing, its channel has no row, its levels are the link's, the
-- rows pass with it, and its units are free
pub record MayAdd (table : TableAccount) (row : AccountRow) : Type 0 where
  pub phase : row.terms.phase ≡ Tentative
  pub none_left : row.left ≡ []
  pub new : find (is_account_of row.terms.chan) table.rows ≡ None
  pub level : level_number row.terms.level ≤ length table.server.bounds
  pub reach : level_number row.terms.reach ≤ length table.server.bounds
  pub passes : admits table.server (map admitted (map account_terms table.rows)) row.terms.contract (level_number row.terms.level) ≡ true
  pub free : held_units table.server.bounds row.terms ≤ table.buffer - total (held_units table.server.bounds) (map account_terms table.rows)
