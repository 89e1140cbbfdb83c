-- The plane's next step, whose reply a lane hands on: the plane expects it, the watcher may see it, and then links, plane and watcher
-- stand for the run with it.
use Rattle.std.proofs.Common.{◌≡◌, ℕ, ◌+◌, ◌<◌, List, [], ◌∷◌, length, set, Some, None, true, sym, ap, ◌∙◌, length-set}
use Rattle.std.proofs.lemmas.Option.{same_Some}
use Rattle.std.specs.List.{slice_get}
use Rattle.net_units.specs.Numbers.{link_number}
use Rattle.net_units.specs.declared.numbers.LinkNo.{LinkNo}
use Rattle.link_steps.specs.Quiet.{quiet_reply}
use Rattle.link_steps.specs.declared.asks.Ask.{Ask}
use Rattle.link_steps.specs.declared.asks.Ask.TheVariants.{Tick}
use Rattle.link_steps.specs.declared.replies.Reply.{Reply}
use Rattle.call_script.specs.Parts.{PlanParts}
use Rattle.call_script.specs.Tasks.{network_of}
use Rattle.tick_plane.specs.PlaneAccount.{PlaneAccount}
use Rattle.tick_plane.specs.Planes.{next_due, plane_after, plane_ask, plane_expects, tick_made, IsDueLater}
use Rattle.run_record.specs.declared.done.Done.{Done}
use Rattle.run_engine.specs.runs.Turns.{plane_most}
use Rattle.run_engine.specs.schedules.PlaneSteps.{plane_step}
use Rattle.run_engine.specs.schedules.Quiet.{the_plane}
use Rattle.run_engine.specs.schedules.Watching.{IsNextSeen}
use Rattle.run_engine.proofs.Keeping.Lookups.{get-set-same, get-set-other}
use Rattle.run_engine.proofs.Keeping.NextPlaneStep.{own-number, quiet-made}
use Rattle.plane_workers.specs.Lanes.{HandsOn, HasLeft, IsNextSaid, lane_left, lane_rules, lane_stands}
use Rattle.plane_workers.specs.Seen.{GoesTo, SeenWithin}
use Rattle.plane_workers.specs.declared.lane.Lane.{Lane}
use Rattle.plane_workers.proofs.DeskHandsOut.{HandsOut, hand-expected, hand-later, hand-fewer, hand-within, hand-goes, hand-seen}
use Rattle.plane_workers.proofs.LanesHandOn.{lane-handed, quiet-asked}
use Rattle.plane_workers.proofs.NextWindowStep.{link-inside, has-reply, step-left}

-- a lane with one reply more handed on
abbrev pub skipped : Lane → Lane
skipped lane = record lane { told = lane.told + 1 }

pub would-hand : (lanes : List Lane) (number : ℕ) (reply : Reply) (lane : Lane) → slice_get lanes number ≡ Some lane → IsNextSaid reply lane → HandsOn number reply lanes (set lanes number (skipped lane))
would-hand lanes number reply lane found next = record {
  long = length-set lanes number (skipped lane);
  others = λ n off. get-set-other lanes number n (skipped lane) off;
  own = λ x y was after.
      (let is : lane ≡ x = same_Some lane x (sym found ∙ was) in
      let put : y ≡ skipped lane = get-set-same lanes number (skipped lane) y after in
      (ap (λ (l : Lane). l.link) put ∙ ap (λ (l : Lane). l.link) is, ap lane_left (sym is) ∙ next.first ∙ ap (λ rs. reply ∷ rs) (ap lane_left (sym put))));
}

module _ {W : Type 0} (saw : W → PlanParts → List Done → Type 0) (parts : PlanParts) (from until : ℕ) (old : List Lane) (plane : PlaneAccount) (watch : W) (run : List Done) (is : SeenWithin lane_rules lane_stands lane_left saw parts from until old plane watch run) (early : plane.at.round < until)
    (link : LinkNo) (ask : Ask) (asked : plane_ask plane.rounds plane.at ≡ Some (link, ask)) where
  -- its link is there, and has the reply
  pub lane-inside : link_number link < length old
  lane-inside = link-inside lane_rules lane_stands lane_left parts from until old plane run is.within early link ask (sym asked)

  pub lane-has : (lane : Lane) → slice_get old (link_number link) ≡ Some lane → HasLeft lane
  lane-has lane found = has-reply lane_rules lane_stands lane_left parts from until old plane run is.within early link ask (sym asked) lane found

  pub round-left : plane.at.round < plane.rounds
  round-left = step-left lane_rules lane_stands lane_left parts from until old plane run is.within early

  module _ (new : List Lane) (number : ℕ) (reply : Reply) (place : number ≡ link_number link) (on : HandsOn number reply old new) where
    hands : HandsOut lane_rules lane_stands lane_left plane old new link ask reply
    hands = lane-handed plane old new link ask reply number (sym asked) place lane-inside on

    pub step-expected : plane_expects (next_due plane.at) reply ≡ true
    step-expected = hand-expected lane_rules lane_stands lane_left parts from until old new plane run is.within early (the_plane (network_of parts)) (own-number parts is.within.plan) link ask reply hands

    pub step-later : IsDueLater plane.at.round reply
    step-later = hand-later lane_rules lane_stands lane_left parts from until old new plane run is.within early (the_plane (network_of parts)) (own-number parts is.within.plan) link ask reply hands

    pub step-seen : IsNextSeen saw parts watch run (plane_step (network_of parts) link ask reply)
    step-seen = hand-seen lane_rules lane_stands lane_left parts from until old new plane run is.within early (the_plane (network_of parts)) (own-number parts is.within.plan) link ask reply hands saw watch is.seen

    module _ (plane' : PlaneAccount) (after : plane'.at ≡ plane_after plane.links reply plane.at) (same-links : plane'.links ≡ plane.links) (same-rounds : plane'.rounds ≡ plane.rounds) where
      pub step-fewer : plane_most plane'.links plane'.rounds plane'.at < plane_most plane.links plane.rounds plane.at
      step-fewer = hand-fewer lane_rules lane_stands lane_left parts from until old new plane run is.within early (the_plane (network_of parts)) (own-number parts is.within.plan) link ask reply hands plane' after same-links same-rounds

      pub step-goes : (watch' : W) → saw watch' parts (plane_step (network_of parts) link ask reply ∷ run) → GoesTo (network_of parts) (the_plane (network_of parts)) run (SeenWithin lane_rules lane_stands lane_left saw parts from until new plane' watch')
      step-goes watch' seen = record {
        run = plane_step (network_of parts) link ask reply ∷ run;
        goes = hand-goes lane_rules lane_stands lane_left parts from until old new plane run is.within early (the_plane (network_of parts)) (own-number parts is.within.plan) link ask reply hands;
        comes = record {
          within = hand-within lane_rules lane_stands lane_left parts from until old new plane run is.within early (the_plane (network_of parts)) (own-number parts is.within.plan) link ask reply hands plane' after same-links same-rounds;
          seen = seen;
        };
      }

  -- a quiet tick
  module _ (new : List Lane) (number clock : ℕ) (place : number ≡ link_number link) (on : HandsOn number (quiet_reply clock) old new) where
    both : (next_due plane.at ≡ None) × (ask ≡ Tick)
    both = quiet-asked plane.rounds plane.at clock link ask (step-expected new number (quiet_reply clock) place on) asked

    pub quiet-none : next_due plane.at ≡ None
    quiet-none = both.0

    pub quiet-tick : ask ≡ Tick
    quiet-tick = both.1

    pub quiet-after : (plane' : PlaneAccount) → plane'.at ≡ tick_made plane.links plane.at [] → plane'.at ≡ plane_after plane.links (quiet_reply clock) plane.at
    quiet-after plane' passed = passed ∙ sym (quiet-made plane.links plane.at clock quiet-none)
