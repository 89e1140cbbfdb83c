-- Who may ask what: a channel has one actor, its owner, and only that one reserves, relaxes, denies, submits and releases
-- for it. A reserve names a next link of the network, or none.
use Rattle.std.specs.Prelude.{◌≡◌, ℕ, ◌<◌, Option, Some, None, List, [], slice_get}
use Rattle.net_units.specs.Numbers.{channel_number, link_number}
use Rattle.net_units.specs.declared.numbers.ActorNo.{ActorNo}
use Rattle.net_units.specs.declared.numbers.ChanNo.{ChanNo}
use Rattle.net_units.specs.declared.numbers.LinkNo.{LinkNo}
use Rattle.atomic_table.specs.Seated.{TableId}
use Rattle.link_steps.specs.declared.asks.Ask.{Ask}
use Rattle.link_steps.specs.declared.asks.Ask.TheVariants.{Reserve, Relax, Deny, Submit, Release}

-- no table of stamps
abbrev pub no_table : TableId
no_table = record { words = 0; slots = 0; views_name = 0; atom = 0; block = 0; offset = 0; slot_names = [] }

-- the actor of a channel, by the list of owners in the order of the channels' numbers
abbrev pub IsOwner : List ActorNo → ActorNo → ChanNo → Type 0
IsOwner owners actor chan = slice_get owners (channel_number chan) ≡ Some actor

-- whoever asks owns the channel
abbrev pub OwnsAsk : List ActorNo → ActorNo → Ask → Type 0
OwnsAsk owners actor (Reserve chan contract kind delay up_reach first next) = IsOwner owners actor chan
OwnsAsk owners actor (Relax chan level up_bound) = IsOwner owners actor chan
OwnsAsk owners actor (Deny chan) = IsOwner owners actor chan
OwnsAsk owners actor (Submit chan count gap size) = IsOwner owners actor chan
OwnsAsk owners actor (Release chan upstream) = IsOwner owners actor chan
OwnsAsk owners actor _ = Unit {0}

abbrev pub IsBelow : ℕ → Option LinkNo → Type 0
IsBelow links None = Unit {0}
IsBelow links (Some next) = link_number next < links

-- a reserve's next link is one of the network's
abbrev pub NextBelow : ℕ → Ask → Type 0
NextBelow links (Reserve chan contract kind delay up_reach first next) = IsBelow links next
NextBelow links _ = Unit {0}
