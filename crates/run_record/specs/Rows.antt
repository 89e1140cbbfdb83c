-- The rows of a run: one for each packet that a tick reports as sent. A row names the packet, the hop that it has departed
-- from, when it arrived there, when it was eligible and when it departed, which is the tick after the one that reports it. The
-- offers show which hop of its channel a link is: the links that have made one to the channel are its hops, in the order of
-- time. The rows stand in the order of channel, packet and hop. Those that agree in all three, which no run of a plan has,
-- stand in the order of their departures.
use Rattle.std.specs.Prelude.{ℕ, zero, suc, ◌<◌, ◌^◌, Bool, false, nat_eq, if◌then◌else◌, min, Option, Some, None, List, [], ◌∷◌, ◌++◌}
use Rattle.std.specs.Ordering.{is_lt, nat_cmp, ordering_then}
use Rattle.std.specs.declared.cmp.Ordering.{Ordering}
use Rattle.net_units.specs.Numbers.{channel_number, link_number}
use Rattle.net_units.specs.declared.numbers.ChanNo.{ChanNo}
use Rattle.net_units.specs.declared.numbers.LinkNo.{LinkNo}
use Rattle.link_steps.specs.declared.asks.Ask.{Ask}
use Rattle.link_steps.specs.declared.asks.Ask.TheVariants.{Reserve}
use Rattle.link_steps.specs.declared.replies.Reply.{Reply}
use Rattle.link_steps.specs.declared.replies.Reply.TheVariants.{Offer, Ticked}
use Rattle.link_steps.specs.declared.replies.Sent.{Sent}
use Rattle.run_record.specs.declared.done.Done.{Done}
use Rattle.run_record.specs.declared.rows.HopRow.{HopRow}

-- ---- hops

-- the channel to which a link makes an offer, if it makes one
abbrev pub offer_by : Ask → Reply → Option ChanNo
offer_by (Reserve chan contract kind delay up_reach first next) (Offer level reach) = Some chan
offer_by _ _ = None

-- whether it is the one of this number
abbrev pub is_to : ℕ → Option ChanNo → Bool
is_to c None = false
is_to c (Some chan) = nat_eq (channel_number chan) c

-- the links that have made an offer to the channel, by their numbers, in the order of time
unfoldable pub links_of : ℕ → List Done → List ℕ
links_of c [] = []
links_of c (done ∷ later) = if is_to c (offer_by done.ask done.reply) then link_number done.link ∷ links_of c later else links_of c later

-- the place of a number in a list, from 1; 0 where it isn't there
abbrev pub next_place : ℕ → ℕ
next_place zero = zero
next_place (suc place) = suc (suc place)

unfoldable pub place_in : ℕ → List ℕ → ℕ
place_in n [] = zero
place_in n (m ∷ ms) = if nat_eq m n then 1 else next_place (place_in n ms)

-- the hop that is over the link of this number, where these links have made offers
abbrev pub hop_among : ℕ → List ℕ → ℕ
hop_among n links = min 255 (place_in n links)

-- ---- departures

-- the row of a packet that a tick at this clock tells as sent, by a link, where these links have made offers to its channel
abbrev pub row_of : List ℕ → LinkNo → ℕ → Sent → HopRow
row_of links link clock sent = record {
  chan = sent.packet.chan;
  number = sent.packet.number;
  hop = hop_among (link_number link) links;
  link = link;
  size = sent.packet.size;
  at = sent.at;
  eligible = sent.eligible;
  departed = suc clock;
}

-- the row that an entry of a run tells
abbrev pub row_by : List Done → LinkNo → ℕ → Option Sent → List HopRow
row_by run link clock None = []
row_by run link clock (Some sent) = row_of (links_of (channel_number sent.packet.chan) run) link clock sent ∷ []

abbrev pub rows_by : List Done → LinkNo → Reply → List HopRow
rows_by run link (Ticked clock full sent best_sent best_lost) = row_by run link clock sent
rows_by run link _ = []

-- those that some of its entries tell, in the order of time
unfoldable pub departures_in : List Done → List Done → List HopRow
departures_in run [] = []
departures_in run (done ∷ later) = rows_by run done.link done.reply ++ departures_in run later

-- a tick is told early enough that the one after it is a number
abbrev pub IsEarly : Reply → Type 0
IsEarly (Ticked clock full sent best_sent best_lost) = clock < 2 ^ 63
IsEarly _ = Unit {0}

-- ---- their order

-- by channel, then by packet, then by hop
abbrev pub compare : HopRow → HopRow → Ordering
compare x y = ordering_then (ordering_then (nat_cmp (channel_number x.chan) (channel_number y.chan)) (nat_cmp x.number y.number)) (nat_cmp x.hop y.hop)

abbrev pub comes_before : HopRow → HopRow → Bool
comes_before x y = is_lt (compare x y)

-- a row before the first one that it doesn't come after
unfoldable pub put_row : HopRow → List HopRow → List HopRow
put_row row [] = row ∷ []
put_row row (other ∷ rows) = if comes_before other row then other ∷ put_row row rows else row ∷ other ∷ rows

unfoldable pub in_order : List HopRow → List HopRow
in_order [] = []
in_order (row ∷ rows) = put_row row (in_order rows)

-- the rows of a run, whose entries are listed in the order of time
abbrev pub rows_of : List Done → List HopRow
rows_of run = in_order (departures_in run run)
