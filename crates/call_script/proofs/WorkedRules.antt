-- Plans that break a rule, and plans that break two at once: the lower number is told. Then the largest plans that are taken, and those
-- of one more. All are computed from the definitions.
use Rattle.std.proofs.Common.{◌≡◌, ℕ, suc, zero, List, [], ◌∷◌, ◌++◌, Option, Some, None, refl, lit≤}
use Rattle.std.specs.Prelude.{map}
use Rattle.net_units.specs.Numbers.{link_at, actor_at, channel_at}
use Rattle.hop_reservation.specs.declared.route.Hop.{Hop}
use Rattle.traffic_contract.specs.Contract.{terms_of}
use Rattle.traffic_contract.specs.declared.admission.Test.TheVariants.{Whole, Least}
use Rattle.link_steps.specs.Room.{all_from}
use Rattle.link_steps.specs.declared.quota.Quota.{Quota}
use Rattle.link_steps.specs.declared.shape.LinkShape.{LinkShape}
use Rattle.setup_protocol.specs.declared.request.Control.TheVariants.{Rate}
use Rattle.call_script.specs.Broken.{use_rule_broken, range_rule_broken, name_rule_broken, rule_broken}
use Rattle.call_script.specs.Groups.{groups_have_version, groups_have_names, groups_are_there, quotas_are_in_range, groups_are_few, quotas_are_fit}
use Rattle.call_script.specs.Parts.{PlanParts, parts_with}
use Rattle.call_script.specs.Rules.{each_after, have_version, have_links, have_names, are_there, are_in_range, are_few, are_joined, are_unclosed, are_within_load, ops_load, ops_over, pours_are_taken, moves_are_fit}
use Rattle.call_script.specs.declared.entries.LinkEntry.{LinkEntry}
use Rattle.call_script.specs.declared.entries.RequestEntry.{RequestEntry}
use Rattle.call_script.specs.declared.entries.CallerEntry.{CallerEntry}
use Rattle.call_script.specs.declared.operations.Op.{Op}
use Rattle.call_script.specs.declared.operations.Op.TheVariants.{Open, Send, Close, Pour, Move}
use Rattle.call_script.specs.declared.version.Version.TheVariants.{One, Three, Five, Six}

-- the least rule that parts break, with all rules unfolded
unfoldable told : PlanParts → Option ℕ
unfolding rule_broken name_rule_broken range_rule_broken use_rule_broken each_after have_version groups_have_version have_links have_names groups_have_names are_there groups_are_there are_in_range quotas_are_in_range are_few groups_are_few are_joined are_unclosed are_within_load ops_load ops_over pours_are_taken quotas_are_fit moves_are_fit all_from
told parts = rule_broken parts

-- ---- links of levels 10, 20 and 40 that carry a unit a tick; names are numbers

abbrev strict : ℕ → LinkShape
strict n = record {
  link = link_at n;
  rate = 1;
  cap = 4;
  prop = 2;
  buffer = 100;
  bounds = 10 ∷ 20 ∷ 40 ∷ [];
  test = Whole;
  best = 0;
  best_most = lit≤ tt;
  rate_least = lit≤ tt;
  rate_most = lit≤ tt;
  cap_least = lit≤ tt;
  cap_most = lit≤ tt;
  prop_most = lit≤ tt;
  buffer_most = lit≤ tt;
  bounds_rise = refl;
  blocking_fits = lit≤ tt;
}

-- the same, as later versions test a link, with room for one best-effort packet
abbrev open_to_all : ℕ → LinkShape
open_to_all n = record {
  link = link_at n;
  rate = 1;
  cap = 4;
  prop = 2;
  buffer = 100;
  bounds = 10 ∷ 20 ∷ 40 ∷ [];
  test = Least;
  best = 1;
  best_most = lit≤ tt;
  rate_least = lit≤ tt;
  rate_most = lit≤ tt;
  cap_least = lit≤ tt;
  cap_most = lit≤ tt;
  prop_most = lit≤ tt;
  buffer_most = lit≤ tt;
  bounds_rise = refl;
  blocking_fits = lit≤ tt;
}

-- the same without best-effort packets
abbrev closed_to_pours : ℕ → LinkShape
closed_to_pours n = record {
  link = link_at n;
  rate = 1;
  cap = 4;
  prop = 2;
  buffer = 100;
  bounds = 10 ∷ 20 ∷ 40 ∷ [];
  test = Least;
  best = 0;
  best_most = lit≤ tt;
  rate_least = lit≤ tt;
  rate_most = lit≤ tt;
  cap_least = lit≤ tt;
  cap_most = lit≤ tt;
  prop_most = lit≤ tt;
  buffer_most = lit≤ tt;
  bounds_rise = refl;
  blocking_fits = lit≤ tt;
}

-- the link of this number, from the node of its number to the next
abbrev link : (ℕ → LinkShape) → ℕ → LinkEntry
link shape n = record { name = n ∷ []; from = n ∷ []; to = suc n ∷ []; shape = shape n; quotas = [] }

abbrev split_link : List Quota → (ℕ → LinkShape) → ℕ → LinkEntry
split_link quotas shape n = record { name = n ∷ []; from = n ∷ []; to = suc n ∷ []; shape = shape n; quotas = quotas }

-- the links of the numbers below this one, after each other
unfoldable links_below : ℕ → List LinkEntry
links_below zero = []
links_below (suc n) = links_below n ++ link strict n ∷ []

abbrev hop : ℕ → Hop
hop n = record { link = link_at n; bounds = 10 ∷ 20 ∷ 40 ∷ []; prop = 2 }

-- the request of this channel, with this least gap between packets, over the links of these numbers
abbrev request : ℕ → ℕ → List ℕ → RequestEntry
request n xmin route = record {
  name = suc n ∷ [];
  caller = actor_at 0;
  request = record { chan = channel_at n; route = map hop route; contract = terms_of xmin 10 20 2; control = Rate; delay = 44 };
  found = None;
}

-- the first request
abbrev asks : List ℕ → RequestEntry
asks route = request 0 5 route

abbrev caller : ℕ → ℕ → List Op → CallerEntry
caller name group ops = record { name = name ∷ []; group = group; ops = ops }

abbrev opens : Op
opens = Open (channel_at 0)

abbrev closes : Op
closes = Close (channel_at 0)

abbrev pours_at : ℕ → Op
pours_at n = Pour (link_at n) 1 1 1

abbrev sends_on : ℕ → ℕ → Op
sends_on n count = Send (channel_at n) count 1 1

abbrev moves : ℕ → ℕ → Op
moves old new = Move (channel_at old) (channel_at new)

-- a quota of a group, with this load up to each level
abbrev quota : ℕ → ℕ → Quota
quota group load = record { group = group; buffer = 10; levels = load ∷ load ∷ load ∷ 0 ∷ 0 ∷ 0 ∷ 0 ∷ 0 ∷ [] }

-- ---- no rule is broken

keeps-all : told (parts_with One (link strict 0 ∷ link strict 1 ∷ []) [] (asks (0 ∷ 1 ∷ []) ∷ []) (caller 1 0 (opens ∷ closes ∷ []) ∷ []) 262144 0) ≡ None
unfolding told
keeps-all = refl

-- ---- two rules are broken, each with the next one

version-before-links : told (parts_with One [] [] [] (caller 1 0 (pours_at 0 ∷ []) ∷ []) 0 0) ≡ Some 1
unfolding told
version-before-links = refl

links-before-names : told (parts_with One [] [] [] (caller 1 0 [] ∷ caller 1 0 [] ∷ []) 0 0) ≡ Some 2
unfolding told
links-before-names = refl

names-before-places : told (parts_with One (link strict 0 ∷ []) [] (asks (1 ∷ []) ∷ []) (caller 1 0 (opens ∷ []) ∷ caller 1 0 [] ∷ []) 0 0) ≡ Some 6
unfolding told
names-before-places = refl

-- a route over a link that isn't there
places-before-ranges : told (parts_with One (link strict 0 ∷ []) [] (asks (1 ∷ []) ∷ []) (caller 1 0 (opens ∷ []) ∷ []) 524289 0) ≡ Some 7
unfolding told
places-before-ranges = refl

-- a close of what wasn't opened
openings-before-ranges : told (parts_with One (link strict 0 ∷ []) [] [] (caller 1 0 (closes ∷ []) ∷ []) 0 524289) ≡ Some 7
unfolding told
openings-before-ranges = refl

ranges-before-counts : told (parts_with One (links_below 33) [] [] [] 524289 0) ≡ Some 8
unfolding told links_below
ranges-before-counts = refl

counts-before-routes : told (parts_with One (links_below 33) [] (asks (1 ∷ 0 ∷ []) ∷ []) (caller 1 0 (opens ∷ []) ∷ []) 0 0) ≡ Some 9
unfolding told links_below
counts-before-routes = refl

routes-before-closings : told (parts_with One (link strict 0 ∷ link strict 1 ∷ []) [] (asks (1 ∷ 0 ∷ []) ∷ []) (caller 1 0 (opens ∷ closes ∷ closes ∷ []) ∷ []) 0 0) ≡ Some 12
unfolding told
routes-before-closings = refl

-- two links, so twice as many ticks as rounds
closings-before-load : told (parts_with One (link strict 0 ∷ link strict 1 ∷ []) [] (asks (0 ∷ 1 ∷ []) ∷ []) (caller 1 0 (opens ∷ closes ∷ Send (channel_at 0) 1 1 1 ∷ []) ∷ []) 262145 0) ≡ Some 13
unfolding told
closings-before-load = refl

-- packets count once for each hop
load-before-pours : told (parts_with Three (link closed_to_pours 0 ∷ link closed_to_pours 1 ∷ []) [] (asks (0 ∷ 1 ∷ []) ∷ []) (caller 1 0 (opens ∷ Send (channel_at 0) 131073 1 1 ∷ pours_at 0 ∷ []) ∷ []) 0 0) ≡ Some 14
unfolding told
load-before-pours = refl

pours-before-quotas : told (parts_with Five (split_link (quota 1 7 ∷ []) closed_to_pours 0 ∷ []) ((1 ∷ []) ∷ []) [] (caller 1 0 (pours_at 0 ∷ []) ∷ []) 0 0) ≡ Some 19
unfolding told
pours-before-quotas = refl

-- at level 1, of 10 ticks, the blocking takes 4
quotas-fit : told (parts_with Five (split_link (quota 1 4 ∷ quota 2 2 ∷ []) open_to_all 0 ∷ []) ((1 ∷ []) ∷ (2 ∷ []) ∷ []) [] (caller 1 0 (pours_at 0 ∷ []) ∷ []) 0 0) ≡ None
unfolding told
quotas-fit = refl

quotas-come-to-more : told (parts_with Five (split_link (quota 1 4 ∷ quota 2 3 ∷ []) open_to_all 0 ∷ []) ((1 ∷ []) ∷ (2 ∷ []) ∷ []) [] (caller 1 0 (pours_at 0 ∷ []) ∷ []) 0 0) ≡ Some 23
unfolding told
quotas-come-to-more = refl

-- ---- groups

groups-before-version : told (parts_with Three (link open_to_all 0 ∷ []) ((1 ∷ []) ∷ []) [] [] 0 0) ≡ Some 1
unfolding told
groups-before-version = refl

-- two quotas of one group, which isn't there
own-groups-before-groups : told (parts_with Five (split_link (quota 1 1 ∷ quota 1 1 ∷ []) open_to_all 0 ∷ []) [] [] [] 0 0) ≡ Some 6
unfolding told
own-groups-before-groups = refl

-- a caller of a group that isn't there, and a quota out of range
groups-before-quotas : told (parts_with Five (split_link (quota 1 1048577 ∷ []) open_to_all 0 ∷ []) ((1 ∷ []) ∷ []) [] (caller 1 2 [] ∷ []) 0 0) ≡ Some 7
unfolding told
groups-before-quotas = refl

five-groups : told (parts_with Five (split_link (quota 1 7 ∷ []) open_to_all 0 ∷ []) ((1 ∷ []) ∷ (2 ∷ []) ∷ (3 ∷ []) ∷ (4 ∷ []) ∷ (5 ∷ []) ∷ []) [] [] 0 0) ≡ Some 9
unfolding told
five-groups = refl

-- ---- moves: a caller opens two requests, or three, over one link

abbrev moving : List Op → PlanParts
moving ops = parts_with Six (link closed_to_pours 0 ∷ []) [] (request 0 5 (0 ∷ []) ∷ request 1 5 (0 ∷ []) ∷ request 2 5 (0 ∷ []) ∷ [])
    (caller 1 0 (opens ∷ Open (channel_at 1) ∷ Open (channel_at 2) ∷ ops) ∷ []) 0 0

-- the first one goes over link 0; the second one has this least gap, and goes over these of two links
abbrev moving_over : ℕ → List ℕ → PlanParts
moving_over xmin route = parts_with Six (link closed_to_pours 0 ∷ link closed_to_pours 1 ∷ []) [] (request 0 5 (0 ∷ []) ∷ request 1 xmin route ∷ [])
    (caller 1 0 (opens ∷ Open (channel_at 1) ∷ moves 0 1 ∷ []) ∷ []) 0 0

moves-keep-all : told (moving (sends_on 0 1 ∷ moves 0 1 ∷ closes ∷ sends_on 1 1 ∷ moves 1 2 ∷ [])) ≡ None
unfolding told
moves-keep-all = refl

moves-before-version : told (parts_with Five (link closed_to_pours 0 ∷ []) [] (request 0 5 (0 ∷ []) ∷ request 1 5 (0 ∷ []) ∷ []) (caller 1 0 (opens ∷ Open (channel_at 1) ∷ moves 0 1 ∷ []) ∷ []) 0 0) ≡ Some 1
unfolding told
moves-before-version = refl

-- a move to a request that the caller hasn't opened
joining-before-ranges : told (parts_with Six (link closed_to_pours 0 ∷ []) [] (asks (0 ∷ []) ∷ []) (caller 1 0 (opens ∷ moves 0 1 ∷ []) ∷ []) 0 524289) ≡ Some 7
unfolding told
joining-before-ranges = refl

-- a second move from a request, to one that was joined
leaving-before-joining : told (moving (moves 0 1 ∷ moves 0 1 ∷ [])) ≡ Some 13
unfolding told
leaving-before-joining = refl

nothing-is-sent-on-what-was-left : told (moving (moves 0 1 ∷ sends_on 0 1 ∷ [])) ≡ Some 13
unfolding told
nothing-is-sent-on-what-was-left = refl

what-was-closed-is-not-moved : told (moving (closes ∷ moves 0 1 ∷ [])) ≡ Some 13
unfolding told
what-was-closed-is-not-moved = refl

-- what may have to be sent again counts once more: the most packets of one send, and not all of them
most-moved : told (moving (sends_on 0 65536 ∷ sends_on 0 65536 ∷ moves 0 1 ∷ moves 1 2 ∷ [])) ≡ None
unfolding told
most-moved = refl

-- onto a request that is in use
load-before-moves : told (moving (sends_on 2 1 ∷ sends_on 0 87382 ∷ moves 0 1 ∷ moves 1 2 ∷ [])) ≡ Some 14
unfolding told
load-before-moves = refl

quotas-before-moves : told (parts_with Six (split_link (quota 1 7 ∷ []) closed_to_pours 0 ∷ []) ((1 ∷ []) ∷ []) (asks (0 ∷ []) ∷ []) (caller 1 0 (opens ∷ moves 0 0 ∷ []) ∷ []) 0 0) ≡ Some 23
unfolding told
quotas-before-moves = refl

no-move-to-itself : told (moving (moves 0 0 ∷ [])) ≡ Some 24
unfolding told
no-move-to-itself = refl

no-move-to-another-contract : told (moving_over 6 (0 ∷ [])) ≡ Some 24
unfolding told
no-move-to-another-contract = refl

-- from the node where the other one ends
no-move-to-another-start : told (moving_over 5 (1 ∷ [])) ≡ Some 24
unfolding told
no-move-to-another-start = refl

no-move-to-another-end : told (moving_over 5 (0 ∷ 1 ∷ [])) ≡ Some 24
unfolding told
no-move-to-another-end = refl

no-move-to-what-was-sent-on : told (moving (sends_on 1 1 ∷ moves 0 1 ∷ [])) ≡ Some 24
unfolding told
no-move-to-what-was-sent-on = refl

no-move-to-what-was-closed : told (moving (Close (channel_at 1) ∷ moves 0 1 ∷ [])) ≡ Some 24
unfolding told
no-move-to-what-was-closed = refl

no-move-to-what-was-left : told (moving (moves 1 2 ∷ moves 0 1 ∷ [])) ≡ Some 24
unfolding told
no-move-to-what-was-left = refl

no-second-move-to-a-request : told (moving (moves 0 2 ∷ moves 1 2 ∷ [])) ≡ Some 24
unfolding told
no-second-move-to-a-request = refl

-- ---- the largest plans, and those of one more

most-links : told (parts_with One (links_below 32) [] [] [] 16384 0) ≡ None
unfolding told links_below
most-links = refl

a-link-more : told (parts_with One (links_below 33) [] [] [] 0 0) ≡ Some 9
unfolding told links_below
a-link-more = refl

most-ticks : told (parts_with One (link strict 0 ∷ []) [] [] [] 524287 1) ≡ None
unfolding told
most-ticks = refl

a-tick-more : told (parts_with One (link strict 0 ∷ []) [] [] [] 524287 2) ≡ Some 14
unfolding told
a-tick-more = refl

most-packets : told (parts_with One (link strict 0 ∷ link strict 1 ∷ []) [] (asks (0 ∷ 1 ∷ []) ∷ []) (caller 1 0 (opens ∷ Send (channel_at 0) 131072 1 1 ∷ []) ∷ []) 0 0) ≡ None
unfolding told
most-packets = refl
