-- The ticks of a window that tell something, shown to a watcher that lags. Each link has answered what it is asked in the window, and has
-- kept what its ticks told. One thread goes through the rounds, and in each of them through the links, and shows what the link told in that
-- tick: that is the order in which the plane asks. Meanwhile the run goes on by all steps of the plane, by arrivals and quiet ticks too,
-- though nobody is shown these. The plane at hand stands where the window began, and has what was sent since.
use Rattle.std.specs.Prelude.{◌≡◌, ℕ, suc, ◌+◌, ◌*◌, ◌-◌, ◌<◌, ◌≤◌, Some, List, filter, length}
use Rattle.std.specs.List.{slice_get}
use Rattle.call_script.specs.Parts.{PlanParts}
use Rattle.call_script.specs.Tasks.{Network, network_of}
use Rattle.link_quota.specs.Any.{any_rules, AnyStands}
use Rattle.link_quota.specs.declared.any_link.AnyLink.{AnyLink}
use Rattle.link_steps.specs.Split.{Link}
use Rattle.link_steps.specs.declared.replies.Entry.{Entry}
use Rattle.link_steps.specs.declared.replies.Reply.{Reply}
use Rattle.tick_plane.specs.Coming.{is_from}
use Rattle.tick_plane.specs.PlaneAccount.{PlaneAccount}
use Rattle.tick_plane.specs.Planes.{Plane}
use Rattle.run_record.specs.Runs.{replies_to}
use Rattle.run_record.specs.declared.done.Done.{Done}
use Rattle.run_engine.specs.runs.Runs.{plane_no, plane_at}
use Rattle.run_engine.specs.schedules.Lagging.{is_told}
use Rattle.run_engine.specs.schedules.Quiet.{the_plane}
use Rattle.plane_workers.specs.Tracks.{track_left}
use Rattle.plane_workers.specs.Windows.{GoesOnBy, IsInWindow}
use Rattle.plane_workers.specs.declared.track.Track.{Track}

-- ---- what the tracks keep

-- a link that is ahead of the run, with all the replies that the run doesn't have yet
pub record LinkAt : Type 0 where
  pub link : AnyLink
  pub left : List Reply

abbrev pub rules_of : LinkAt → Link
rules_of at = any_rules at.link

abbrev pub stands_of : LinkAt → List Entry → Type 0
stands_of at = AnyStands at.link

abbrev pub left_of : LinkAt → List Reply
left_of at = at.left

-- its track keeps those that tell something
pub record KeepsTold (track : Track) (at : LinkAt) : Type 0 where
  pub link : at.link ≡ track.link
  pub told : track_left track ≡ filter is_told at.left

pub record KeepTold (tracks : List Track) (links : List LinkAt) : Type 0 where
  pub same : length links ≡ length tracks
  pub each : (n : ℕ) (track : Track) (at : LinkAt) → slice_get tracks n ≡ Some track → slice_get links n ≡ Some at → KeepsTold track at

-- ---- how far the run is

-- the links before this place have made the tick of the round; where all have, the next round has begun
pub record IsPlace (links round place : ℕ) (plane : Plane) : Type 0 where
  pub here : place < links → (plane.round ≡ round) × (plane.ticked ≡ place)
  pub over : links ≤ place → (plane.round ≡ suc round) × (plane.ticked ≡ 0)

-- the plane as it stands after a run
abbrev pub account_of : Network → List Done → PlaneAccount
account_of network run = record { links = length network.links; rounds = network.rounds; at = plane_at network run; spare = 0 }

-- the run has come to this place of this round, and the watcher has seen what was told until there
pub record Shows {W : Type 0} (lags : W → PlanParts → List Done → List Done → Type 0) (parts : PlanParts) (until round place : ℕ) (tracks : List Track) (plane : PlaneAccount) (watch : W) (past : List Done) : Type 0 where
  pub run : List Done
  pub links : List LinkAt
  pub within : IsInWindow rules_of stands_of left_of parts plane.at.round until links (account_of (network_of parts) run) run
  pub kept : KeepTold tracks links
  pub at : IsPlace (length (network_of parts).links) round place (plane_at (network_of parts) run)
  -- what is on its way when the window is over
  pub flights : filter (is_from until) (plane_at (network_of parts) run).flights ≡ filter (is_from until) plane.at.flights
  -- a step of the run is a tick or an arrival, and an arrival ends a flight
  pub made : length run + length (plane_at (network_of parts) run).flights ≡ length past + ((round - plane.at.round) * length (network_of parts).links + place) + length plane.at.flights
  pub gets : length (replies_to (plane_no (network_of parts)) run) + length past ≡ length (replies_to (plane_no (network_of parts)) past) + length run
  pub goes : GoesOnBy (network_of parts) (the_plane (network_of parts)) past run
  pub lag : lags watch parts past run
  pub linked : plane.links ≡ length (network_of parts).links
  pub rounds : plane.rounds ≡ (network_of parts).rounds
  pub starts : plane.at.ticked ≡ 0
  pub begun : plane.at.round ≤ round
