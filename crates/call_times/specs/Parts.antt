-- Which asks are a part of an operation. Setting a channel up is to reserve, to relax and to give back; closing it is to release it; a move
-- releases the channel that it leaves, and submits packets on the one that it joins. A send submits its packets, and a pour pours its own.
use Rattle.std.specs.Prelude.{ℕ, Bool, false, ◌&&◌, ◌||◌, nat_eq}
use Rattle.net_units.specs.Numbers.{channel_number, link_number}
use Rattle.net_units.specs.declared.numbers.ChanNo.{ChanNo}
use Rattle.net_units.specs.declared.numbers.LinkNo.{LinkNo}
use Rattle.link_steps.specs.declared.asks.Ask.{Ask}
use Rattle.link_steps.specs.declared.asks.Ask.TheVariants.{Reserve, Relax, Deny, Submit, Release, Pour as AskPour}
use Rattle.call_script.specs.declared.operations.Op.{Op}
use Rattle.call_script.specs.declared.operations.Op.TheVariants.{Open, Send, Close, Pour, Move}

abbrev pub is_own : ChanNo → ChanNo → Bool
is_own chan own = nat_eq (channel_number own) (channel_number chan)

unfoldable pub sets_up : ChanNo → Ask → Bool
sets_up chan (Reserve own contract kind delay up_reach first next) = is_own chan own
sets_up chan (Relax own level up_bound) = is_own chan own
sets_up chan (Deny own) = is_own chan own
sets_up chan _ = false

unfoldable pub submits : ChanNo → ℕ → ℕ → ℕ → Ask → Bool
submits chan count gap size (Submit own packets apart units) = ((is_own chan own && nat_eq packets count) && nat_eq apart gap) && nat_eq units size
submits chan count gap size _ = false

unfoldable pub submits_on : ChanNo → Ask → Bool
submits_on chan (Submit own packets apart units) = is_own chan own
submits_on chan _ = false

unfoldable pub releases : ChanNo → Ask → Bool
releases chan (Release own upstream) = is_own chan own
releases chan _ = false

unfoldable pub pours : ℕ → ℕ → ℕ → Ask → Bool
pours count gap size (AskPour packets apart units) = (nat_eq packets count && nat_eq apart gap) && nat_eq units size
pours count gap size _ = false

-- whether this ask of a link is a part of an operation
unfoldable pub is_part : Op → LinkNo → Ask → Bool
is_part (Open chan) to ask = sets_up chan ask
is_part (Send chan count gap size) to ask = submits chan count gap size ask
is_part (Close chan) to ask = releases chan ask
is_part (Pour link count gap size) to ask = nat_eq (link_number to) (link_number link) && pours count gap size ask
is_part (Move old new) to ask = releases old ask || submits_on new ask
