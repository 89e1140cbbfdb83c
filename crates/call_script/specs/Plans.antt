-- A plan: parts that may be planned and break no rule, and whose requests have contracts and routes. Its network fits, and
-- each of its channels has one owner.
use Rattle.std.specs.Prelude.{◌≡◌, None}
use Rattle.hop_reservation.specs.Routes.{IsRoute}
use Rattle.link_steps.specs.Lists.{Each}
use Rattle.traffic_contract.specs.Contract.{IsContract}
use Rattle.call_script.specs.Fits.{NetworkFits}
use Rattle.call_script.specs.Owners.{AllOwned}
use Rattle.call_script.specs.Parts.{PlanParts, ArePlanned}
use Rattle.call_script.specs.Broken.{rule_broken}
use Rattle.call_script.specs.Tasks.{network_of}
use Rattle.call_script.specs.declared.entries.RequestEntry.{RequestEntry}

-- what every request has
pub record HasTerms (entry : RequestEntry) : Type 0 where
  pub contract : IsContract entry.request.contract
  pub route : IsRoute entry.request.route

pub record IsPlan (parts : PlanParts) : Type 0 where
  pub planned : ArePlanned parts
  pub kept : rule_broken parts ≡ None
  pub terms : Each HasTerms parts.requests

-- ---- laws

abbrev pub EveryPlanFits : Type 0
EveryPlanFits = (parts : PlanParts) → IsPlan parts → NetworkFits (network_of parts)

abbrev pub EveryChannelHasOneOwner : Type 0
EveryChannelHasOneOwner = (parts : PlanParts) → IsPlan parts → AllOwned (network_of parts)
