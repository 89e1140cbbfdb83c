-- The plan of a load. It has four links in a row, four callers and some requests, which belong to the callers in turn. The script of
-- a caller opens each of its requests and sends on it; and from the third one on it then closes the request two before. Requests and
-- links are counted from 0 here, and from 1 in their names. Channels have the order in which the callers, one after the other, open
-- them.
use Rattle.std.specs.Prelude.{None, ℕ, zero, suc, ◌+◌, ◌%◌, refl, Bool, nat_eq, if◌then◌else◌, List, [], ◌∷◌, ◌++◌, take, drop}
use Rattle.std.specs.Fmt.{decimal}
use Rattle.std.proofs.Common.{lit≤}
use Rattle.net_units.specs.Numbers.{link_at, actor_at, channel_at}
use Rattle.hop_reservation.specs.declared.route.Hop.{Hop}
use Rattle.link_steps.specs.declared.shape.LinkShape.{LinkShape}
use Rattle.traffic_contract.specs.declared.admission.Test.TheVariants.{Whole}
use Rattle.call_script.specs.Parts.{PlanParts, parts_of}
use Rattle.call_script.specs.declared.entries.CallerEntry.{CallerEntry}
use Rattle.call_script.specs.declared.entries.LinkEntry.{LinkEntry}
use Rattle.call_script.specs.declared.entries.RequestEntry.{RequestEntry}
use Rattle.call_script.specs.declared.operations.Op.{Op}
use Rattle.call_script.specs.declared.operations.Op.TheVariants.{Open, Send, Close}
use Rattle.call_script.specs.declared.version.Version.TheVariants.{One}
use Rattle.load_maker.specs.Loads.{load_at}
use Rattle.load_maker.specs.declared.load.Load.{Load}

-- ---- numbers and names

-- a letter, and the digit of one more than a number below 9
abbrev pub short_name : ℕ → ℕ → List ℕ
short_name letter n = letter ∷ (49 + n) ∷ []

-- r1, r2 and so on
abbrev pub request_name : ℕ → List ℕ
request_name n = 114 ∷ decimal (suc n)

-- ---- the links

abbrev pub level_bounds : List ℕ
level_bounds = 100 ∷ 400 ∷ 1600 ∷ []

abbrev pub load_shape : ℕ → LinkShape
load_shape n = record {
  link = link_at n;
  rate = 10;
  cap = 100;
  prop = 5;
  buffer = 65536;
  bounds = level_bounds;
  test = Whole;
  best = 0;
  rate_least = lit≤ tt;
  rate_most = lit≤ tt;
  cap_least = lit≤ tt;
  cap_most = lit≤ tt;
  prop_most = lit≤ tt;
  buffer_most = lit≤ tt;
  best_most = lit≤ tt;
  bounds_rise = refl;
  blocking_fits = lit≤ tt;
}

-- L1 to L4, from n1 to n2 and so on
abbrev pub link_entry : ℕ → LinkEntry
link_entry n = record { name = short_name 76 n; from = short_name 110 n; to = short_name 110 (suc n); shape = load_shape n; quotas = [] }

abbrev pub made_links : List LinkEntry
made_links = link_entry 0 ∷ link_entry 1 ∷ link_entry 2 ∷ link_entry 3 ∷ []

-- ---- the requests

abbrev pub hop_at : ℕ → Hop
hop_at n = record { link = link_at n; bounds = level_bounds; prop = 5 }

-- the route of `hops` links, the first of which has this number
abbrev pub route_of : ℕ → ℕ → List Hop
route_of first hops = take hops (drop first (hop_at 0 ∷ hop_at 1 ∷ hop_at 2 ∷ hop_at 3 ∷ []))

-- the request of this number, with its load, its caller and its channel
abbrev pub request_entry_of : Load → ℕ → ℕ → ℕ → RequestEntry
request_entry_of load n caller chan = record {
  name = request_name n;
  caller = actor_at caller;
  request = record {
    chan = channel_at chan;
    route = route_of load.first load.hops;
    contract = load.contract;
    control = load.control;
    delay = load.delay;
  };
  found = None;
}

-- ---- whose a request is

-- the requests belong to the four callers in turn
abbrev pub belongs_to : ℕ → ℕ → Bool
belongs_to caller n = nat_eq (n % 4) caller

-- how many of the first n requests are a caller's
unfoldable pub share : ℕ → ℕ → ℕ
share caller zero = 0
share caller (suc n) = if belongs_to caller n then suc (share caller n) else share caller n

-- the channel of a caller's first request, whose number is how many requests the callers before it have
unfoldable pub first_channel : ℕ → ℕ → ℕ
first_channel size zero = 0
first_channel size (suc caller) = first_channel size caller + share caller size

-- ---- the scripts

-- the request two before the one at this place of its caller's requests is closed, if there is one
abbrev pub close_before : ℕ → ℕ → List Op
close_before first zero = []
close_before first (suc zero) = []
close_before first (suc (suc place)) = Close (channel_at (first + place)) ∷ []

-- what a caller does for the request at this place of its own, the first of which has that channel
abbrev pub ops_for : Load → ℕ → ℕ → List Op
ops_for load first place =
    Open (channel_at (first + place))
    ∷ Send (channel_at (first + place)) load.count load.contract.xave load.contract.smax
    ∷ close_before first place

-- those of the first n requests that are a caller's, and what it does for them
unfoldable pub own_requests : ℕ → ℕ → ℕ → ℕ → List RequestEntry
own_requests number first caller zero = []
own_requests number first caller (suc n) =
    own_requests number first caller n ++ (if belongs_to caller n then request_entry_of (load_at number n) n caller (first + share caller n) ∷ [] else [])

unfoldable pub own_ops : ℕ → ℕ → ℕ → ℕ → List Op
own_ops number first caller zero = []
own_ops number first caller (suc n) =
    own_ops number first caller n ++ (if belongs_to caller n then ops_for (load_at number n) first (share caller n) else [])

-- ---- the plan

-- k1 to k4
abbrev pub caller_entry : ℕ → ℕ → ℕ → CallerEntry
caller_entry number size caller = record { name = short_name 107 caller; group = 0; ops = own_ops number (first_channel size caller) caller size }

-- the requests of the first callers, and these callers
unfoldable pub requests_to : ℕ → ℕ → ℕ → List RequestEntry
requests_to number size zero = []
requests_to number size (suc n) = requests_to number size n ++ own_requests number (first_channel size n) n size

unfoldable pub callers_to : ℕ → ℕ → ℕ → List CallerEntry
callers_to number size zero = []
callers_to number size (suc n) = callers_to number size n ++ caller_entry number size n ∷ []

-- the plan of this number with `size` requests
abbrev pub made_parts : ℕ → ℕ → PlanParts
made_parts number size = parts_of One made_links (requests_to number size 4) (callers_to number size 4) 4000 1000
