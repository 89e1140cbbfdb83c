-- A plan of one link, one request and one caller, as tests have it: link 0 has levels of 10, 20 and 40 ticks, a propagation of 2, and
-- no quotas, or some without load after its levels; channel 0 goes over it, and caller 0 opens that channel and no other. Or a plan of two
-- requests: channel 1 goes over it too, and caller 0 opens both.
use Rattle.std.specs.Prelude.{◌≡◌, None, [], ◌∷◌, length}
use Rattle.std.specs.List.{All}
use Rattle.net_units.specs.Numbers.{link_number, actor_number, channel_number}
use Rattle.hop_reservation.specs.declared.route.Hop.{Hop}
use Rattle.link_steps.specs.Lists.{Each}
use Rattle.setup_protocol.specs.Requests.{jitter_of}
use Rattle.setup_protocol.specs.declared.request.Request.{Request}
use Rattle.call_script.specs.Parts.{PlanParts, LeavesUnused, openings_in}
use Rattle.call_script.specs.declared.entries.LinkEntry.{LinkEntry}
use Rattle.call_script.specs.declared.entries.RequestEntry.{RequestEntry}
use Rattle.call_script.specs.declared.entries.CallerEntry.{CallerEntry}

pub record IsThatLink (entry : LinkEntry) : Type 0 where
  pub number : link_number entry.shape.link ≡ 0
  pub bounds : entry.shape.bounds ≡ 10 ∷ 20 ∷ 40 ∷ []
  pub prop : entry.shape.prop ≡ 2
  pub unused : All (LeavesUnused (10 ∷ 20 ∷ 40 ∷ [])) entry.quotas

pub record IsOverIt (hop : Hop) : Type 0 where
  pub link : link_number hop.link ≡ 0
  pub bounds : hop.bounds ≡ 10 ∷ 20 ∷ 40 ∷ []
  pub prop : hop.prop ≡ 2

pub record IsThatRequest (entry : RequestEntry) : Type 0 where
  pub caller : actor_number entry.caller ≡ 0
  pub chan : channel_number entry.request.chan ≡ 0
  pub hops : Each IsOverIt entry.request.route

pub record IsNextRequest (entry : RequestEntry) : Type 0 where
  pub caller : actor_number entry.caller ≡ 0
  pub chan : channel_number entry.request.chan ≡ 1
  pub hops : Each IsOverIt entry.request.route

abbrev pub IsThatScript : CallerEntry → Type 0
IsThatScript caller = openings_in 0 caller.ops ≡ record { caller = 0; chan = 0 } ∷ []

abbrev pub OpensBoth : CallerEntry → Type 0
OpensBoth caller = openings_in 0 caller.ops ≡ record { caller = 0; chan = 0 } ∷ record { caller = 0; chan = 1 } ∷ []

-- it asks for one hop, for at most 12 ticks, and for no bound on its jitter
pub record AsksForOne (request : Request) : Type 0 where
  pub one : length request.route ≡ 1
  pub delay : request.delay ≡ 12
  pub jitter : jitter_of request.control ≡ None

-- a plan of that request alone
pub record HasThatRequest (plan : PlanParts) : Type 0 where
  pub entry : RequestEntry
  pub only : plan.requests ≡ entry ∷ []
  pub is : IsThatRequest entry
  pub asks : AsksForOne entry.request
