-- Rounds in which nothing happens. Where the plane is at the start of a round, no packet reaches a link in the next n rounds, and no
-- link has anything due in them, then each link makes a quiet tick in each of them, in the order of the links. So the run goes on by
-- n rounds that are known beforehand: they change the clocks alone.
use Rattle.std.specs.Prelude.{◌≡◌, ◌≢◌, ℕ, zero, suc, ◌+◌, ◌*◌, ◌<◌, ◌≤◌, Some, List, ◌∷◌, length}
use Rattle.std.specs.List.{slice_get}
use Rattle.net_units.specs.Numbers.{actor_at, link_at}
use Rattle.net_units.specs.declared.numbers.ActorNo.{ActorNo}
use Rattle.link_steps.specs.declared.asks.Ask.TheVariants.{Tick}
use Rattle.link_steps.specs.declared.replies.Entry.{Entry}
use Rattle.link_steps.specs.Quiet.{quiet_reply, quiet_ticks}
use Rattle.link_steps.specs.Replies.{reply_to}
use Rattle.link_steps.specs.Split.{Link}
use Rattle.call_script.specs.Fits.{NetworkFits}
use Rattle.call_script.specs.Tasks.{Network}
use Rattle.tick_plane.specs.QuietRounds.{HasQuietRounds, rounds_later}
use Rattle.run_record.specs.Runs.{replies_to, part_of}
use Rattle.run_record.specs.declared.done.Done.{Done}
use Rattle.run_engine.specs.runs.Runs.{plane_no, plane_at, IsRun}
use Rattle.run_engine.specs.schedules.Schedules.{repeated, FollowsTurns}

-- ---- the rounds

-- the quiet tick of link n in round t
abbrev pub quiet_step : ActorNo → ℕ → ℕ → Done
quiet_step plane t n = record { actor = plane; link = link_at n; ask = Tick; reply = quiet_reply t }

-- the run continued by those of the first links in round t
unfoldable pub quiet_round : ActorNo → ℕ → ℕ → List Done → List Done
quiet_round plane t zero run = run
quiet_round plane t (suc links) run = quiet_step plane t links ∷ quiet_round plane t links run

-- and by n rounds from round t on
unfoldable pub quiet_rounds : ActorNo → ℕ → ℕ → ℕ → List Done → List Done
quiet_rounds plane links t zero run = run
quiet_rounds plane links t (suc n) run = quiet_round plane (t + n) links (quiet_rounds plane links t n run)

abbrev pub the_plane : Network → ActorNo
the_plane network = actor_at (plane_no network)

-- a run of a network continued by n of them
abbrev pub rested : Network → ℕ → List Done → List Done
rested network n run = quiet_rounds (the_plane network) (length network.links) (plane_at network run).round n run

-- ---- a run that rests

-- a link has nothing to tell in its next n ticks, the first of which is that of round t
abbrev pub IsQuietFor : ℕ → ℕ → Link → List Entry → Type 0
IsQuietFor t n link h = (m : ℕ) → m < n → quiet_reply (t + m) ≡ reply_to link (quiet_ticks m t h) Tick

-- no packet reaches a link in the next n rounds, and no link has anything to tell in them
pub record RestsFor (network : Network) (n : ℕ) (run : List Done) : Type 0 where
  pub plane : HasQuietRounds network.rounds n (plane_at network run)
  pub quiet : (k : ℕ) (link : Link) → slice_get network.links k ≡ Some link → IsQuietFor (plane_at network run).round n link (part_of k run)

-- ---- the law

-- the rounds are the turns of the plane, a tick of each link in each of them; they go on with the run; and after them the plane
-- stands n rounds later, the callers where they stood, and each link has made n quiet ticks
pub record GoesOnAtRest (network : Network) (n : ℕ) (run : List Done) : Type 0 where
  pub is_run : IsRun network (rested network n run)
  pub follows : FollowsTurns network run (repeated (n * length network.links) (the_plane network)) (rested network n run)
  pub plane : plane_at network (rested network n run) ≡ rounds_later n (plane_at network run)
  pub callers : (actor : ℕ) → actor ≢ plane_no network → replies_to actor (rested network n run) ≡ replies_to actor run
  pub parts : (k : ℕ) → k < length network.links → part_of k (rested network n run) ≡ quiet_ticks n (plane_at network run).round (part_of k run)

abbrev pub QuietRoundsGoOn : Type 0
QuietRoundsGoOn = (network : Network) (n : ℕ) (run : List Done) → NetworkFits network → plane_no network ≤ 64 → IsRun network run → RestsFor network n run → GoesOnAtRest network n run
