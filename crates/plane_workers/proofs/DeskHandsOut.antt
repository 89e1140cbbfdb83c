-- A desk hands out the reply to what the plane asks next: the run goes on with that step.
use Rattle.std.proofs.Common.{◌≡◌, ◌≢◌, ℕ, ◌<◌, true, List, ◌∷◌, length, Some, sym, ap, ◌∙◌, subst, arith}
use Rattle.std.specs.List.{slice_get}
use Rattle.net_units.specs.Numbers.{actor_number, link_number}
use Rattle.net_units.specs.declared.numbers.ActorNo.{ActorNo}
use Rattle.net_units.specs.declared.numbers.LinkNo.{LinkNo}
use Rattle.link_steps.specs.Split.{Link}
use Rattle.link_steps.specs.declared.asks.Ask.{Ask}
use Rattle.link_steps.specs.declared.replies.Entry.{Entry}
use Rattle.link_steps.specs.declared.replies.Reply.{Reply}
use Rattle.call_script.specs.Parts.{PlanParts}
use Rattle.call_script.specs.Tasks.{network_of}
use Rattle.tick_plane.specs.PlaneAccount.{PlaneAccount}
use Rattle.tick_plane.specs.Planes.{next_due, plane_after, plane_ask, plane_expects, IsDueLater}
use Rattle.run_record.specs.declared.done.Done.{Done}
use Rattle.run_engine.specs.runs.Runs.{IsNext}
use Rattle.run_engine.specs.runs.Turns.{plane_most}
use Rattle.run_engine.specs.schedules.Watching.{IsNextSeen}
use Rattle.run_engine.proofs.Keeping.Lookups.{held}
use Rattle.run_engine.proofs.Runs.RunFronts.{run-more}
use Rattle.plane_workers.specs.Desks.{rules_at, stands_at, left_at}
use Rattle.plane_workers.specs.Windows.{GoesOnBy, IsInWindow}
use Rattle.plane_workers.specs.declared.desk.Desk.{Desk}
use Rattle.plane_workers.proofs.NextWindowStep.{one-next, one-expected, one-goes, one-fewer, one-within, one-later}

-- the plane asks this next, and the desk of its link had this reply first among those left
pub record HandsOut {X : Type 0} (rules : X → Link) (stands : X → List Entry → Type 0) (left : X → List Reply) (plane : PlaneAccount) (old new : List X) (link : LinkNo) (ask : Ask) (reply : Reply) : Type 0 where
  pub asked : Some (link, ask) ≡ plane_ask plane.rounds plane.at
  pub before : X
  pub after : X
  pub found : slice_get old (link_number link) ≡ Some before
  pub there : slice_get new (link_number link) ≡ Some after
  pub told : left before ≡ reply ∷ left after
  pub same : rules after ≡ rules before
  pub stay : (h : List Entry) → stands before h → stands after h
  pub long : length new ≡ length old
  pub others : (n : ℕ) → n ≢ link_number link → slice_get new n ≡ slice_get old n

pub handed : {L : Type 0} (link_of : L → Link) (stands_for : L → List Entry → Type 0) (plane : PlaneAccount) (old new : List (Desk L)) (link : LinkNo) (ask : Ask) (reply : Reply) (number : ℕ) → Some (link, ask) ≡ plane_ask plane.rounds plane.at → number ≡ link_number link → link_number link < length old → length new ≡ length old
    → ((n : ℕ) → n ≢ number → slice_get new n ≡ slice_get old n)
    → ((x y : Desk L) → slice_get old number ≡ Some x → slice_get new number ≡ Some y → y.link ≡ x.link)
    → ((x y : Desk L) → slice_get old number ≡ Some x → slice_get new number ≡ Some y → left_at x ≡ reply ∷ left_at y)
    → HandsOut (rules_at link_of) (stands_at stands_for) left_at plane old new link ask reply
handed {L} link_of stands_for plane old new link ask reply number asked is within long others same told =
    let x = held old (link_number link) within in
    let y = held new (link_number link) (omega (arith, within, long)) in
    let before = ap (slice_get old) is ∙ x.found in
    let after = ap (slice_get new) is ∙ y.found in
    record {
      asked = asked;
      before = x.item;
      after = y.item;
      found = x.found;
      there = y.found;
      told = told x.item y.item before after;
      same = ap link_of (same x.item y.item before after);
      stay = λ h stands. subst (λ (link : L). stands_for link h) (sym (same x.item y.item before after)) stands;
      long = long;
      others = λ n off. others n (λ at. off (at ∙ is));
    }

module _ {X : Type 0} (rules : X → Link) (stands : X → List Entry → Type 0) (left : X → List Reply) (parts : PlanParts) (from until : ℕ) (old new : List X) (plane : PlaneAccount) (run : List Done) (is : IsInWindow rules stands left parts from until old plane run) (early : plane.at.round < until)
    (actor : ActorNo) (by : actor_number actor ≡ length parts.callers) (link : LinkNo) (ask : Ask) (reply : Reply) (hands : HandsOut rules stands left plane old new link ask reply) where
  abbrev done : Done
  done = record { actor = actor; link = link; ask = ask; reply = reply }

  -- the reply is the next of the run
  pub hand-next : IsNext (network_of parts) run done
  hand-next = one-next rules stands left parts from until old plane run is early link ask hands.asked actor by reply new hands.before hands.after hands.found hands.told

  -- which the plane expects
  pub hand-expected : plane_expects (next_due plane.at) reply ≡ true
  hand-expected = one-expected rules stands left parts from until old plane run is early link ask hands.asked actor by reply new hands.before hands.after hands.found hands.told

  pub hand-later : IsDueLater plane.at.round reply
  hand-later = one-later rules stands left parts from until old plane run is early link ask hands.asked actor by reply new hands.before hands.after hands.found hands.told

  module _ (plane' : PlaneAccount) (after : plane'.at ≡ plane_after plane.links reply plane.at) (same-links : plane'.links ≡ plane.links) (same-rounds : plane'.rounds ≡ plane.rounds) where
    pub hand-fewer : plane_most plane'.links plane'.rounds plane'.at < plane_most plane.links plane.rounds plane.at
    hand-fewer = one-fewer rules stands left parts from until old plane run is early link ask hands.asked actor by reply new hands.before hands.after hands.found hands.told plane' after same-links same-rounds

    -- and links and plane stand for it with that
    pub hand-within : IsInWindow rules stands left parts from until new plane' (done ∷ run)
    hand-within = one-within rules stands left parts from until old plane run is early link ask hands.asked actor by reply new hands.before hands.after hands.found hands.told plane' after same-links same-rounds (run-more (network_of parts) run done is.run_is hand-next) hands.long hands.others hands.there hands.same hands.stay

  pub hand-goes : GoesOnBy (network_of parts) actor run (done ∷ run)
  hand-goes = one-goes rules stands left parts from until old plane run is early link ask hands.asked actor by reply new hands.before hands.after hands.found hands.told

  module _ {W : Type 0} (saw : W → PlanParts → List Done → Type 0) where
    -- the watcher sees it next
    pub hand-seen : (watch : W) → saw watch parts run → IsNextSeen saw parts watch run done
    hand-seen watch seen = record { plan = is.plan; run = is.run_is; next = hand-next; seen = seen }
