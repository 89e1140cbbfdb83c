-- The link serves the packets that it has taken, one at a time and tick by tick. A packet that has started goes
-- on for the ticks that its size takes, and is never interrupted. When no packet occupies the link, one of those
-- that are eligible and haven't started starts: of the least level, among these the one that was eligible first,
-- and among these the one that arrived first. A packet that starts at u and takes w ticks departs at u + w, and
-- until then it is here.
use Rattle.std.specs.Prelude.{ℕ, zero, suc, ◌+◌, Bool, false, not, nat_eq, nat_lt, nat_le, ◌&&◌, ◌||◌, if◌then◌else◌, Option, Some, None, List, [], ◌∷◌, filter}
use Rattle.std.specs.List.{list_any}
use Rattle.net_units.specs.Quotient.{ceil_quotient}
use Rattle.net_units.specs.declared.numbers.ChanNo.{ChanNo}
use Rattle.net_units.specs.declared.numbers.LinkNo.{LinkNo}

-- A packet that the link has taken. `place` is its arrival number, which counts all packets of the link from 1.
-- `lead` is the place of the first packet of its reservation, which tells reservations apart. `number` counts
-- the packets of the reservation. It arrived at the tick `at`, is eligible at the tick `eligible`, has the
-- number of its reservation's level, and goes on to the link `next`, where there is one
pub record Arrival : Type 0 where
  pub place : ℕ
  pub lead : ℕ
  pub chan : ChanNo
  pub number : ℕ
  pub size : ℕ
  pub at : ℕ
  pub eligible : ℕ
  pub level : ℕ
  pub next : Option LinkNo

-- a packet that has started, and the tick at which it did
pub record Start : Type 0 where
  pub packet : Arrival
  pub tick : ℕ

-- the ticks that a packet occupies a link that sends `rate` units a tick
abbrev pub work_of : ℕ → Arrival → ℕ
work_of rate p = ceil_quotient p.size rate

-- the tick at which a packet that has started departs
abbrev pub leaves_at : ℕ → Start → ℕ
leaves_at rate start = start.tick + work_of rate start.packet

-- whether p goes before q: by level, then by eligible tick, then by arrival number
unfoldable pub goes_before : Arrival → Arrival → Bool
goes_before p q =
    nat_lt p.level q.level
    || (nat_eq p.level q.level && (nat_lt p.eligible q.eligible || (nat_eq p.eligible q.eligible && nat_lt p.place q.place)))

-- p, or the other packet where there is one that goes before it
abbrev pub sooner : Arrival → Option Arrival → Arrival
sooner p None = p
sooner p (Some q) = if goes_before q p then q else p

-- the packet that goes before all others
unfoldable pub first_in_line : List Arrival → Option Arrival
first_in_line [] = None
first_in_line (p ∷ ps) = Some (sooner p (first_in_line ps))

-- whether this is the start of p
abbrev pub is_start_of : Arrival → Start → Bool
is_start_of p start = nat_eq start.packet.place p.place

-- whether p is among the packets that have started
abbrev pub has_started : List Start → Arrival → Bool
has_started starts p = list_any (is_start_of p) starts

-- whether p is eligible by tick t and hasn't started. (No packet is eligible before it arrives.)
unfoldable pub is_waiting : List Start → ℕ → Arrival → Bool
is_waiting starts t p = nat_le p.eligible t && not (has_started starts p)

-- whether the packet that started last, newest first, occupies the link in tick t
abbrev pub is_busy : ℕ → List Start → ℕ → Bool
is_busy rate [] t = false
is_busy rate (start ∷ earlier) t = nat_lt t (leaves_at rate start)

-- the starts with this packet's at tick t, where there is one
abbrev pub add_start : Option Arrival → ℕ → List Start → List Start
add_start None t starts = starts
add_start (Some p) t starts = record { packet = p; tick = t } ∷ starts

-- the starts after tick t, given those before it
unfoldable pub serve_tick : ℕ → List Arrival → ℕ → List Start → List Start
serve_tick rate packets t starts =
    if is_busy rate starts t then starts else add_start (first_in_line (filter (is_waiting starts t) packets)) t starts

-- the starts in the ticks below t, newest first
unfoldable pub starts_below : ℕ → List Arrival → ℕ → List Start
starts_below rate packets zero = []
starts_below rate packets (suc t) = serve_tick rate packets t (starts_below rate packets t)

-- whether this is the start of p, and p has departed by t
abbrev pub is_departure_by : ℕ → ℕ → Arrival → Start → Bool
is_departure_by rate t p start = is_start_of p start && nat_le (leaves_at rate start) t

-- whether p has departed by t
abbrev pub has_departed : ℕ → List Start → ℕ → Arrival → Bool
has_departed rate starts t p = list_any (is_departure_by rate t p) starts

-- whether p hasn't departed by t
abbrev pub is_here : ℕ → List Start → ℕ → Arrival → Bool
is_here rate starts t p = not (has_departed rate starts t p)

-- the packets here as tick t begins, in the order of their arrival
unfoldable pub here_at : ℕ → List Arrival → ℕ → List Arrival
here_at rate packets t = filter (is_here rate (starts_below rate packets t) t) packets
