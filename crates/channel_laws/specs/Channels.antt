-- The packets of a channel at a link: those that name it and have a number, which counts them from 1. (A best-effort packet has
-- the number 0.) Where a channel is offered a reservation at most once at a link, all its packets there belong to one row.
use Rattle.std.specs.Prelude.{◌≡◌, ◌≢◌, ◌≤◌, ℕ, suc, Bool, true, false, nat_eq, nat_lt, ◌&&◌, if◌then◌else◌, Option, List, [], ◌∷◌, filter, map, reverse}
use Rattle.net_units.specs.Numbers.{channel_number, level_number}
use Rattle.net_units.specs.declared.Kind.{Kind}
use Rattle.net_units.specs.declared.numbers.LinkNo.{LinkNo}
use Rattle.traffic_contract.specs.Contract.{Traffic, IsContract}
use Rattle.traffic_contract.specs.Keeping.{keeps_newest_first}
use Rattle.link_steps.specs.declared.asks.Ask.{Ask}
use Rattle.link_steps.specs.declared.asks.Ask.TheVariants.{Reserve}
use Rattle.link_steps.specs.declared.replies.Entry.{Entry}
use Rattle.link_steps.specs.declared.replies.Reply.{Reply}
use Rattle.link_steps.specs.declared.replies.Reply.TheVariants.{Offer}
use Rattle.link_steps.specs.Lists.{Each}
use Rattle.link_steps.specs.Rows.{Row}
use Rattle.link_steps.specs.Scan.{Scan}
use Rattle.link_steps.specs.Service.{Arrival}

-- what a channel's reserve at a link names
pub record HopTerms : Type 0 where
  pub contract : Traffic
  pub kind : Kind
  pub first : Bool
  pub next : Option LinkNo

abbrev pub is_of_channel : ℕ → Arrival → Bool
is_of_channel c p = nat_eq (channel_number p.chan) c && nat_lt 0 p.number

abbrev pub channel_packets : ℕ → List Arrival → List Arrival
channel_packets c packets = filter (is_of_channel c) packets

abbrev pub tick_of_packet : Arrival → ℕ
tick_of_packet p = p.eligible

-- the eligible ticks of a channel at a link, in the order of its packets
abbrev pub ticks_at : ℕ → List Arrival → List ℕ
ticks_at c packets = map tick_of_packet (channel_packets c packets)

abbrev pub channel_of : Row → ℕ
channel_of row = channel_number row.terms.chan

-- ---- offers of a channel in a history

abbrev pub offers_with : ℕ → ℕ → Ask → Reply → ℕ
offers_with c n (Reserve chan contract kind delay up_reach first next) (Offer level reach) = if nat_eq (channel_number chan) c then suc n else n
offers_with c n _ _ = n

unfoldable pub offers_to : ℕ → List Entry → ℕ
offers_to c [] = 0
offers_to c (e ∷ past) = offers_with c (offers_to c past) e.ask e.reply

-- a reserve of the channel names these terms
pub record NamesTerms (terms : HopTerms) (contract : Traffic) (kind : Kind) (first : Bool) (next : Option LinkNo) : Type 0 where
  pub contract_is : contract ≡ terms.contract
  pub kind_is : kind ≡ terms.kind
  pub first_is : first ≡ terms.first
  pub next_is : next ≡ terms.next

abbrev pub OffersTerms : HopTerms → ℕ → Ask → Reply → Type 0
OffersTerms terms c (Reserve chan contract kind delay up_reach first next) (Offer level reach) = channel_number chan ≡ c → NamesTerms terms contract kind first next
OffersTerms terms c _ _ = Unit {0}

-- so does each of a history that was answered with an offer
abbrev pub AllOfferTerms : HopTerms → ℕ → List Entry → Type 0
AllOfferTerms terms c h = Each (λ e. OffersTerms terms c e.ask e.reply) h

-- ---- the row of a channel and its packets

-- the packets are numbered from the number after n on
abbrev pub AreNumberedAfter : ℕ → List Arrival → Type 0
AreNumberedAfter n [] = Unit {0}
AreNumberedAfter n (p ∷ packets) = (p.number ≡ suc n) × AreNumberedAfter (suc n) packets

pub record RowTells (terms : HopTerms) (c : ℕ) (row : Row) (own : List Arrival) : Type 0 where
  pub chan : channel_of row ≡ c
  pub contract_is : row.terms.contract ≡ terms.contract
  pub kind_is : row.terms.kind ≡ terms.kind
  pub first_is : row.terms.first ≡ terms.first
  pub next_is : row.terms.next ≡ terms.next
  pub valid : IsContract terms.contract
  pub keeps : keeps_newest_first terms.contract row.ticks ≡ true
  pub eligible : reverse row.ticks ≡ map tick_of_packet own
  pub numbered : AreNumberedAfter 0 own
  pub levels : Each (λ p. p.level ≡ level_number row.terms.level) own
  pub nexts : Each (λ p. p.next ≡ terms.next) own
  pub unplanned : terms.first ≡ false → row.plan ≡ []

abbrev pub IsElsewhere : ℕ → Row → Type 0
IsElsewhere c row = channel_of row ≢ c

abbrev pub IsOnly : ℕ → Row → Row → Type 0
IsOnly c row other = channel_of other ≡ c → other ≡ row

-- no row and no packet is of the channel
pub record IsFree (c : ℕ) (scan : Scan) : Type 0 where
  pub rows : Each (IsElsewhere c) scan.rows
  pub packets : channel_packets c scan.packets ≡ []

-- its packets are those of one row, and no other held row is of the channel. The row may be gone
pub record HasOneRow (terms : HopTerms) (c : ℕ) (scan : Scan) : Type 0 where
  pub row : Row
  pub tells : RowTells terms c row (channel_packets c scan.packets)
  pub only : Each (IsOnly c row) scan.rows

pub record ChannelStands (terms : HopTerms) (c offers : ℕ) (scan : Scan) : Type 0 where
  pub free : offers ≡ 0 → IsFree c scan
  pub known : offers ≡ 1 → HasOneRow terms c scan

-- ---- sizes

-- the packet is no larger than the contract allows
abbrev pub SizeWithin : HopTerms → Arrival → Type 0
SizeWithin terms p = p.size ≤ terms.contract.smax
