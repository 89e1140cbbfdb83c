-- A link for worked histories: it sends a unit in a tick, carries packets of up to 4 units, propagates in 2 ticks,
-- has 100 units of buffer, and levels with the bounds 10, 20 and 40. A contract for them: packets at least 5 ticks
-- apart, 2 in any 20 ticks, of up to 2 units.
use Rattle.std.proofs.Common.{ℕ, suc, zero, ◌+◌, ◌≤◌, true, List, [], ◌∷◌, None, Some, refl, lit≤, lit<, false}
use Rattle.net_units.specs.declared.Kind.TheVariants.{Rate}
use Rattle.net_units.specs.declared.numbers.ChanNo.{ChanNo}
use Rattle.net_units.specs.declared.numbers.LinkNo.{LinkNo}
use Rattle.traffic_contract.specs.Contract.{Traffic, terms_of}
use Rattle.link_steps.specs.declared.asks.Ask.{Ask}
use Rattle.link_steps.specs.declared.asks.Ask.TheVariants.{Reserve, Relax, Tick}
use Rattle.link_steps.specs.declared.replies.Reply.{Reply}
use Rattle.link_steps.specs.declared.replies.Reply.TheVariants.{Ticked, Offer}
use Rattle.link_steps.specs.declared.replies.Sent.{Sent}
use Rattle.traffic_contract.specs.declared.admission.Test.TheVariants.{Whole}
use Rattle.link_steps.specs.declared.shape.LinkShape.{LinkShape}
use Rattle.link_steps.specs.Levels.{level_of}

abbrev pub link_a : LinkNo
link_a = record { number = 0; small = lit< tt }

-- the same link with another buffer
abbrev pub with_buffer : (units : ℕ) → units ≤ 262144 → LinkShape
with_buffer units fits = record {
  link = link_a;
  rate = 1;
  cap = 4;
  prop = 2;
  buffer = units;
  bounds = 10 ∷ 20 ∷ 40 ∷ [];
  test = Whole;
  best = 0;
  best_most = lit≤ tt;
  rate_least = lit≤ tt;
  rate_most = lit≤ tt;
  cap_least = lit≤ tt;
  cap_most = lit≤ tt;
  prop_most = lit≤ tt;
  buffer_most = fits;
  bounds_rise = refl;
  blocking_fits = lit≤ tt;
}

-- the link
abbrev pub shape_a : LinkShape
shape_a = with_buffer 100 (lit≤ tt)

-- the contract
abbrev pub voice : Traffic
voice = terms_of 5 10 20 2

-- and one for packets of up to 4 units
abbrev pub wide : Traffic
wide = terms_of 5 10 20 4

abbrev pub chan1 : ChanNo
chan1 = record { number = 1; small = lit< tt }

abbrev pub chan2 : ChanNo
chan2 = record { number = 2; small = lit< tt }

abbrev pub chan3 : ChanNo
chan3 = record { number = 3; small = lit< tt }

abbrev pub chan4 : ChanNo
chan4 = record { number = 4; small = lit< tt }

abbrev pub chan5 : ChanNo
chan5 = record { number = 5; small = lit< tt }

abbrev pub chan9 : ChanNo
chan9 = record { number = 9; small = lit< tt }

-- a reserve at the only hop of a route, with rate-jitter control
abbrev pub reserve : ChanNo → Traffic → ℕ → Ask
reserve chan contract delay = Reserve chan contract Rate delay 0 true None

-- a relax at the first hop
abbrev pub relax : ChanNo → ℕ → Ask
relax chan level = Relax chan (level_of level) 0

-- an offer of the level and the reach of these numbers
abbrev pub offer : ℕ → ℕ → Reply
offer level reach = Offer (level_of level) (level_of reach)

-- ticks in a row, and the replies where none of them drops or sends a packet
unfoldable pub ticks : ℕ → List Ask
ticks zero = []
ticks (suc n) = Tick ∷ ticks n

unfoldable pub quiet : ℕ → ℕ → List Reply
quiet t zero = []
quiet t (suc n) = Ticked t 0 None false false ∷ quiet (suc t) n

-- a packet that leaves the last hop at this tick, after it arrived at the tick `at`, from a level with this bound
abbrev pub left : ChanNo → ℕ → ℕ → ℕ → ℕ → ℕ → ℕ → Sent
left chan number size at eligible leaves bound = record {
  packet = record { chan = chan; number = number; size = size; due = eligible + bound + 2 };
  at = at;
  eligible = eligible;
  arrives = leaves + 2;
  next = None;
}

-- the reply of a tick in which no packet is dropped and this one leaves
abbrev pub sends : ℕ → Sent → Reply
sends t sent = Ticked t 0 (Some sent) false false
