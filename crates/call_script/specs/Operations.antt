-- What an operation is to channels and links, in one table with a line for each. For each role a line says which channel the
-- operation has in it: which one it opens; which it uses, as a send, a close and a move from it do; which it closes; which it leaves,
-- as a move from it does; which it keeps in use, as a send and a move from it do; and which it joins, as a move onto it does. It says
-- how many packets the operation plans, and over which hops: those of a channel's route, or one link, which is asked for best-effort
-- packets. And it says what a version of the language must have. The rules on plans, what a plan's packets come to, and which caller
-- owns a channel follow from these lines.
use Rattle.std.specs.Prelude.{Option, Some, None}
use Rattle.net_units.specs.declared.numbers.ChanNo.{ChanNo}
use Rattle.call_script.specs.declared.attributes.Attributes.{Attributes}
use Rattle.call_script.specs.declared.attributes.Amount.TheVariants.{Nothing, Fresh, Carried}
use Rattle.call_script.specs.declared.attributes.Feature.TheVariants as feature
use Rattle.call_script.specs.declared.attributes.Way.TheVariants.{Nowhere, OverRoute, OverLink}
use Rattle.call_script.specs.declared.operations.Op.{Op}
use Rattle.call_script.specs.declared.operations.Op.TheVariants.{Open, Send, Close, Pour, Move}
use Rattle.call_script.specs.declared.roles.Role.{Role}
use Rattle.call_script.specs.declared.roles.Role.TheVariants as role

-- nothing to any channel, and no packets
abbrev pub plain : Attributes
plain =
    record { opens = None; uses = None; closes = None; leaves = None; keeps = None; joins = None; amount = Nothing; way = Nowhere; needs = feature.Always }

abbrev pub attributes_of : Op → Attributes
attributes_of (Open chan) = record plain { opens = Some chan }
attributes_of (Send chan count gap size) =
    record plain { uses = Some chan; keeps = Some chan; amount = Fresh count gap size; way = OverRoute chan }
attributes_of (Close chan) = record plain { uses = Some chan; closes = Some chan }
attributes_of (Pour link count gap size) =
    record plain { amount = Fresh count gap size; way = OverLink link; needs = feature.BestEffort }
attributes_of (Move old new) =
    record plain { uses = Some old; keeps = Some old; leaves = Some old; joins = Some new; amount = Carried old; way = OverRoute new; needs = feature.Moves }

-- the channel to which an operation is this
abbrev pub channel_of : Role → Attributes → Option ChanNo
channel_of role.Opens own = own.opens
channel_of role.Uses own = own.uses
channel_of role.Closes own = own.closes
channel_of role.Leaves own = own.leaves
channel_of role.Keeps own = own.keeps
channel_of role.Joins own = own.joins
