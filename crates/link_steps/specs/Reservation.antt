-- A reservation is what the setup of a channel has fixed at one link. It begins with a reserve that was answered
-- with an offer, and is tentative. A relax commits it at its level; a release makes it closing. Its level is the
-- offered one until it is relaxed, and the one in the relax from then on.
use Rattle.std.specs.Prelude.{ℕ, Bool, true, false, nat_eq, ◌&&◌, Option}
use Rattle.net_units.specs.Numbers.{channel_number, level_number}
use Rattle.net_units.specs.declared.Kind.{Kind}
use Rattle.net_units.specs.declared.numbers.ChanNo.{ChanNo}
use Rattle.net_units.specs.declared.numbers.Level.{Level}
use Rattle.net_units.specs.declared.numbers.LinkNo.{LinkNo}
use Rattle.traffic_contract.specs.Admission.{Admitted}
use Rattle.traffic_contract.specs.Contract.{Traffic}
use Rattle.link_steps.specs.declared.replies.Phase.{Phase}
use Rattle.link_steps.specs.declared.replies.Phase.TheVariants.{Tentative, Committed, Closing}

-- `first` says that this link is the channel's first hop, and `next` is the link after it. `up_reach` and
-- `up_bound` are the bounds, in ticks, of the reach and of the allotted level at the hop before; `up_bound` is
-- fixed by the relax. `count` is fixed by the release: the packets that were taken or will still be taken
pub record Reservation : Type 0 where
  pub chan : ChanNo
  pub contract : Traffic
  pub kind : Kind
  pub first : Bool
  pub next : Option LinkNo
  pub phase : Phase
  pub level : Level
  pub reach : Level
  pub up_reach : ℕ
  pub up_bound : ℕ
  pub count : ℕ

-- whether two phases are the same
abbrev pub is_phase : Phase → Phase → Bool
is_phase Tentative Tentative = true
is_phase Committed Committed = true
is_phase Closing Closing = true
is_phase _ _ = false

-- a tentative reservation at the offered level
abbrev pub tentative : ChanNo → Traffic → Kind → Bool → Option LinkNo → ℕ → Level → Level → Reservation
tentative chan contract kind first next up_reach level reach = record {
  chan = chan;
  contract = contract;
  kind = kind;
  first = first;
  next = next;
  phase = Tentative;
  level = level;
  reach = reach;
  up_reach = up_reach;
  up_bound = 0;
  count = 0;
}

-- the reservation committed at a level, with the bound allotted at the hop before
abbrev pub committed : Level → ℕ → Reservation → Reservation
committed level up_bound terms = record terms { phase = Committed; level = level; up_bound = up_bound }

-- the reservation released, with the count of its packets
abbrev pub closing : ℕ → Reservation → Reservation
closing count terms = record terms { phase = Closing; count = count }

-- whether it is this channel's
abbrev pub is_of : ChanNo → Reservation → Bool
is_of chan terms = nat_eq (channel_number terms.chan) (channel_number chan)

-- whether two answers are the same
abbrev pub is_same : Bool → Bool → Bool
is_same true b = b
is_same false true = false
is_same false false = true

-- whether it is this channel's, at its first hop or at a later one
abbrev pub is_at_hop : ChanNo → Bool → Reservation → Bool
is_at_hop chan first terms = is_of chan terms && is_same terms.first first

-- the reservation as the admission test sees it: its contract and its level
abbrev pub admitted : Reservation → Admitted
admitted terms = record { contract = terms.contract; level = level_number terms.level }
