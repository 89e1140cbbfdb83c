-- Laws of every run of a network whose parts fit, in whatever order its actors make their steps.
use Rattle.std.specs.Prelude.{◌≡◌, ◌≢◌, ℕ, ◌+◌, ◌<◌, nat_lt, true, if◌then◌else◌, Some, List, [], ◌∷◌, length, map, reverse}
use Rattle.std.specs.List.{slice_get}
use Rattle.net_units.specs.Numbers.{actor_number, channel_number}
use Rattle.net_units.specs.declared.numbers.ActorNo.{ActorNo}
use Rattle.link_steps.specs.HopGuarantee.{HeldRowsPass, HopGuarantee}
use Rattle.link_steps.specs.Legal.{AskFits, IsLegal}
use Rattle.link_steps.specs.Lists.{Each}
use Rattle.link_steps.specs.Scan.{clock_of}
use Rattle.link_steps.specs.Split.{Link}
use Rattle.setup_protocol.specs.Hops.{RequestFits}
use Rattle.setup_protocol.specs.Setup.{verdict_of}
use Rattle.setup_protocol.specs.declared.request.Request.{Request}
use Rattle.call_script.specs.Fits.{NetworkFits}
use Rattle.call_script.specs.Owners.{OwnedFully, AllOwned}
use Rattle.call_script.specs.Scripts.{standing, expects, outcome_in}
use Rattle.call_script.specs.Tasks.{Network}
use Rattle.call_script.specs.declared.tasks.Task.{Task}
use Rattle.run_engine.specs.replies.Answers.{IsReplyOf}
use Rattle.run_engine.specs.channels.Flights.{IsPunctual, FlightsStand}
use Rattle.run_engine.specs.runs.Parts.{IsAsked, own_of, IsLinked}
use Rattle.run_engine.specs.runs.Runs.{plane_no, plane_at, IsNext, IsRun, step, run_from}
use Rattle.run_engine.specs.replies.Verdicts.{setup_replies}
use Rattle.run_record.specs.Runs.{replies_to, part_of}
use Rattle.run_record.specs.declared.done.Done.{Done}
use Rattle.tick_plane.specs.Planes.{next_due, plane_expects}

-- P holds after each entry of a run, and at its beginning
abbrev pub AfterEachEntry : (List Done → Type 0) → List Done → Type 0
AfterEachEntry P [] = P []
AfterEachEntry P (done ∷ past) = AfterEachEntry P past × P (done ∷ past)

-- ---- the parts of a run

-- the part of a run on each link is legal there
abbrev pub EveryPartIsLegal : Type 0
EveryPartIsLegal = (network : Network) (run : List Done) (n : ℕ) (link : Link) → NetworkFits network → IsRun network run → slice_get network.links n ≡ Some link → IsLegal link (part_of n run)

-- each ask meets the conditions on an ask at its link
abbrev pub EveryAskFits : Type 0
EveryAskFits = (network : Network) (past : List Done) (done : Done) → NetworkFits network → IsRun network past → (next : IsNext network past done) → AskFits next.link.shape done.ask

-- the clock of each link is the plane's round, and one more once it has made the round's tick
abbrev pub ClocksFollowThePlane : Type 0
ClocksFollowThePlane = (network : Network) (run : List Done) (n : ℕ) → NetworkFits network → IsRun network run → n < length network.links → clock_of (part_of n run) ≡ (plane_at network run).round + (if nat_lt n (plane_at network run).ticked then 1 else 0)

-- the rows that a link holds pass its admission test
abbrev pub HeldRowsPassOn : Link → ℕ → List Done → Type 0
HeldRowsPassOn link n run = HeldRowsPass link.shape (part_of n run)

-- they do so on every link after every entry of a run
abbrev pub HeldRowsPassOnEveryLink : Type 0
HeldRowsPassOnEveryLink = (network : Network) (run : List Done) (n : ℕ) (link : Link) → NetworkFits network → IsRun network run → slice_get network.links n ≡ Some link → AfterEachEntry (HeldRowsPassOn link n) run

-- the part of a run on each link has the hop guarantee
abbrev pub EveryHopIsGuaranteed : Type 0
EveryHopIsGuaranteed = (network : Network) (run : List Done) (n : ℕ) (link : Link) → NetworkFits network → IsRun network run → slice_get network.links n ≡ Some link → HopGuarantee link.shape (part_of n run)

-- no flight of a run is late, and each is of a packet that left a link in time
pub record NoFlightIsLate : Type 0 where
  pub punctual : (network : Network) (run : List Done) → NetworkFits network → IsRun network run → IsPunctual (plane_at network run)
  pub stand : (network : Network) (run : List Done) → NetworkFits network → IsRun network run → FlightsStand network run

-- ---- replies and verdicts

-- each ask of a run gets one of its replies
abbrev pub EveryAskIsAnswered : Type 0
EveryAskIsAnswered = (network : Network) (past : List Done) (done : Done) → NetworkFits network → AllOwned network → IsRun network past → IsNext network past done → IsReplyOf done.ask done.reply

-- each reply to a caller is one that it expects, and so is each reply to the plane
pub record EveryReplyIsExpected : Type 0 where
  pub callers : (network : Network) (past : List Done) (done : Done) (tasks : List Task) → NetworkFits network → AllOwned network → IsRun network past → IsNext network past done → actor_number done.actor ≢ plane_no network → slice_get network.scripts (actor_number done.actor) ≡ Some tasks
      → expects (standing tasks (replies_to (actor_number done.actor) past)) done.reply ≡ true
  pub plane : (network : Network) (past : List Done) (done : Done) → IsNext network past done → actor_number done.actor ≡ plane_no network → plane_expects (next_due (plane_at network past)) done.reply ≡ true

-- what a request has come to is the verdict over the replies to its setup in the run
abbrev pub VerdictsFollowTheReplies : Type 0
VerdictsFollowTheReplies = (network : Network) (request : Request) (owner : ℕ) (tasks : List Task) (run : List Done) → RequestFits network.links request → OwnedFully network request owner → IsRun network run → slice_get network.scripts owner ≡ Some tasks
    → outcome_in request.chan (standing tasks (replies_to owner run)).outcomes ≡ verdict_of request (setup_replies (channel_number request.chan) run)

-- ---- the run of a list of actors

abbrev pub actor_of : Done → ActorNo
actor_of done = done.actor

-- a run goes on with the next step of each actor, and is the run of its list of actors
pub record RunsFollowTheirActors : Type 0 where
  pub steps : (network : Network) (past : List Done) (actor : ActorNo) → IsRun network past → IsRun network (step network actor past)
  pub from : (network : Network) (actors : List ActorNo) → IsRun network (run_from network [] actors)
  pub same : (network : Network) (run : List Done) → IsRun network run → run_from network [] (reverse (map actor_of run)) ≡ run

-- ---- what makes a run

-- a list whose part on each link is legal there, and whose part of each actor is asked by its rules, is a run
abbrev pub FittingPartsMakeARun : Type 0
FittingPartsMakeARun = (network : Network) (run : List Done) → Each (IsLinked network) run → ((n : ℕ) (link : Link) → slice_get network.links n ≡ Some link → IsLegal link (part_of n run)) → ((actor : ℕ) → IsAsked network actor (own_of actor run)) → IsRun network run
