-- A question after room asks for copies of a request after all of a plan's requests alone, or after all that a plan's callers do. A copy asks
-- for what the request asks, on a channel and under a name of its own, and one more caller, of the group of the request's caller, opens all of
-- them.
use Rattle.std.specs.Prelude.{◌≡◌, ℕ, suc, Some, List, [], ◌∷◌, ◌++◌, length, map}
use Rattle.std.specs.List.{slice_get}
use Rattle.net_units.specs.Numbers.{actor_number, channel_number}
use Rattle.net_units.specs.declared.numbers.ChanNo.{ChanNo}
use Rattle.link_steps.specs.Lists.{Each}
use Rattle.call_script.specs.Parts.{PlanParts}
use Rattle.call_script.specs.Splits.{group_behind}
use Rattle.call_script.specs.declared.entries.CallerEntry.{CallerEntry}
use Rattle.call_script.specs.declared.entries.RequestEntry.{RequestEntry}
use Rattle.call_script.specs.declared.operations.Op.{Op}
use Rattle.call_script.specs.declared.operations.Op.TheVariants.{Open}
use Rattle.question_plans.specs.Alone.{opens_of}

-- a request that asks for what another asks, and is opened by the caller of this number
pub record IsCopy (like : RequestEntry) (caller : ℕ) (copy : RequestEntry) : Type 0 where
  pub route : copy.request.route ≡ like.request.route
  pub contract : copy.request.contract ≡ like.request.contract
  pub control : copy.request.control ≡ like.request.control
  pub delay : copy.request.delay ≡ like.request.delay
  pub caller_is : actor_number copy.caller ≡ caller

abbrev pub open_of : RequestEntry → Op
open_of entry = Open entry.request.chan

-- their channels have the numbers from this one on
unfoldable pub AreChannelsFrom : ℕ → List RequestEntry → Type 0
AreChannelsFrom n [] = Unit {0}
AreChannelsFrom n (entry ∷ entries) = (channel_number entry.request.chan ≡ n) × AreChannelsFrom (suc n) entries

-- the requests have one copy more
pub record AddsCopy (like : RequestEntry) (caller : ℕ) (old new : List RequestEntry) (chan : ChanNo) : Type 0 where
  pub copy : RequestEntry
  pub added : new ≡ old ++ copy ∷ []
  pub is : IsCopy like caller copy
  pub number : channel_number copy.request.chan ≡ length old
  pub chan_is : copy.request.chan ≡ chan

-- the requests have this many copies more, which these operations open
pub record HasCopies (like : RequestEntry) (caller : ℕ) (old : List RequestEntry) (count : ℕ) (new : List RequestEntry) (ops : List Op) : Type 0 where
  pub copies : List RequestEntry
  pub added : new ≡ old ++ copies
  pub many : length copies ≡ count
  pub are : Each (IsCopy like caller) copies
  pub numbered : AreChannelsFrom (length old) copies
  pub opened : ops ≡ map open_of copies

-- one more caller, after these, opens this many copies of the request of a number, which come after the plan's own requests
pub record AddsOpener (parts : PlanParts) (number count : ℕ) (before : List CallerEntry) (requests : List RequestEntry) (callers : List CallerEntry) : Type 0 where
  pub like : RequestEntry
  pub found : slice_get parts.requests number ≡ Some like
  pub caller : CallerEntry
  pub group : caller.group ≡ group_behind parts.callers like
  pub copies : HasCopies like (length parts.callers) parts.requests count requests caller.ops
  pub put : callers ≡ before ++ caller ∷ []

-- a plan is another's requests alone, with this many copies of the request of a number after them
pub record IsWithMore (parts : PlanParts) (number count : ℕ) (made : PlanParts) : Type 0 where
  pub like : RequestEntry
  pub found : slice_get parts.requests number ≡ Some like
  pub caller : CallerEntry
  pub group : caller.group ≡ group_behind parts.callers like
  pub copies : HasCopies like (length parts.callers) parts.requests count made.requests caller.ops
  pub callers : made.callers ≡ map opens_of parts.callers ++ caller ∷ []
  pub version : made.version ≡ parts.version
  pub links : made.links ≡ parts.links
  pub groups : made.groups ≡ parts.groups
  pub rounds : made.rounds ≡ 0
  pub tail : made.tail ≡ 0

-- a plan is another with all that its callers do, and with this many copies of the request of a number after its own requests
pub record IsWithMoreAfter (parts : PlanParts) (number count : ℕ) (made : PlanParts) : Type 0 where
  pub opener : AddsOpener parts number count parts.callers made.requests made.callers
  pub version : made.version ≡ parts.version
  pub links : made.links ≡ parts.links
  pub groups : made.groups ≡ parts.groups
  pub rounds : made.rounds ≡ parts.rounds
  pub tail : made.tail ≡ parts.tail
