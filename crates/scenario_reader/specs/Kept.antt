-- What was read of a scenario so far, where no line was refused, keeps the rules of a plan, as far as it has come. Its parts come in
-- order: the header; the links; the groups, and the quotas of the links; the callers with their operations; `rounds`; `tail`; and the
-- schedule. After a part that wasn't read nothing was read, except that a scenario needs no groups, no quotas, no callers and no
-- schedule.
use Rattle.std.specs.Prelude.{ℕ, ◌≡◌, ◌+◌, ◌*◌, ◌≤◌, false, None, Some, IfSome, List, [], length, get_or}
use Rattle.std.specs.List.{slice_get}
use Rattle.net_units.specs.Numbers.{actor_number}
use Rattle.net_units.specs.Limits.{most_steps, most_links, most_callers, most_requests, most_packets, most_rounds}
use Rattle.link_steps.specs.Lists.{Each}
use Rattle.call_script.specs.Growing.{KeepSoFar}
use Rattle.call_script.specs.Rules.{link_names, request_names, caller_names, load_in}
use Rattle.call_script.specs.declared.entries.CallerEntry.{CallerEntry}
use Rattle.call_script.specs.declared.entries.RequestEntry.{RequestEntry}
use Rattle.call_script.specs.declared.schedule.Do.{Do}
use Rattle.call_script.specs.declared.schedule.Schedule.{Schedule}
use Rattle.scenario_reader.specs.Drafts.{Said, nothing_said, rounds_of, parts_said, schedule_said, last_caller, uses_said}
use Rattle.scenario_reader.specs.Uses.{IsLight, blank}
use Rattle.scenario_reader.specs.declared.uses.Uses.{Uses}

-- an item of a schedule: the actor is a caller or the plane, and the steps are within the limit
pub record IsDo (callers : List CallerEntry) (what : Do) : Type 0 where
  pub actor : actor_number what.actor ≤ length callers
  pub least : 1 ≤ what.count
  pub most : what.count ≤ most_steps

-- a schedule of these callers and the plane; one that isn't written has no items
pub record IsScheduleOf (callers : List CallerEntry) (schedule : Schedule) : Type 0 where
  pub items : Each (IsDo callers) schedule.items
  pub unwritten : schedule.written ≡ false → schedule.items ≡ []

-- what was read so far
pub record IsDraft (said : Said) : Type 0 where
  pub keeps : KeepSoFar (parts_said said)
  pub unheaded : said.version ≡ None → said ≡ nothing_said
  pub unlinked_callers : said.links ≡ [] → said.callers ≡ []
  pub unlinked_rounds : said.links ≡ [] → said.rounds ≡ None
  pub unrounded : said.rounds ≡ None → said.tail ≡ None
  pub untailed : said.tail ≡ None → said.written ≡ false
  pub ticks : IfSome said.tail (λ tail. (rounds_of said + tail) * length said.links ≤ most_rounds)
  pub schedule : IsScheduleOf said.callers (schedule_said said)

-- what is kept beside it, so that none of it is looked for again: the names, what was done with each request, the load, and
-- that there are few parts
pub record IsKeptBeside (said : Said) (links requests callers : List (List ℕ)) (uses : List Uses) (load : ℕ) : Type 0 where
  pub same_links : links ≡ link_names said.links
  pub same_requests : requests ≡ request_names said.requests
  pub same_callers : callers ≡ caller_names said.callers
  pub all_used : length uses ≡ length said.requests
  -- a request of the last caller
  pub same_uses : (n : ℕ) (entry : RequestEntry) → slice_get said.requests n ≡ Some entry → actor_number entry.caller ≡ last_caller said → get_or uses n blank ≡ uses_said said entry.request.chan
  pub light : Each IsLight uses
  pub same_load : load ≡ load_in said.requests said.callers
  pub few_links : length said.links ≤ most_links
  pub few_requests : length said.requests ≤ most_requests
  pub few_callers : length said.callers ≤ most_callers
  pub small_load : load ≤ most_packets
  pub few_rounds : IfSome said.rounds (λ rounds. rounds ≤ most_rounds)
