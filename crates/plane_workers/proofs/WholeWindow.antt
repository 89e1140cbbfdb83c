-- A window, from one standing of links and plane to the next.
use Rattle.std.proofs.Common.{◌≡◌, ℕ, suc, ◌+◌, ◌-◌, ◌<◌, ◌≤◌, ◌^◌, List, [], ◌∷◌, length, Some, sym, ap, ◌∙◌, subst, inl, inr, arith, lit<, cond}
use Rattle.std.proofs.lemmas.Bool.{cases_Bool}
use Rattle.std.proofs.lemmas.Option.{slice_get_within}
use Rattle.std.proofs.Math.Nat.{lt_of_le_of_lt}
use Rattle.std.specs.List.{slice_get}
use Rattle.std.specs.Prelude.{nat_lt, Result, Ok, Err, OnOk}
use Rattle.net_units.specs.declared.numbers.ActorNo.{ActorNo}
use Rattle.link_steps.specs.Legal.{AskFits}
use Rattle.link_steps.specs.Lists.{Each}
use Rattle.link_steps.specs.Scan.{clock_of}
use Rattle.link_steps.specs.Split.{Link}
use Rattle.link_steps.specs.declared.replies.Entry.{Entry}
use Rattle.link_steps.specs.declared.replies.Reply.{Reply}
use Rattle.call_script.proofs.PlansFit.{plan-fits}
use Rattle.call_script.specs.Fits.{NetworkFits}
use Rattle.call_script.specs.Parts.{PlanParts}
use Rattle.call_script.specs.Tasks.{Network, network_of}
use Rattle.tick_plane.specs.PlaneAccount.{PlaneAccount}
use Rattle.tick_plane.specs.Planes.{Plane, flight_in}
use Rattle.tick_plane.specs.Windows.{window_at}
use Rattle.tick_plane.specs.declared.flight.Flight.{Flight}
use Rattle.run_record.specs.Runs.{part_of}
use Rattle.run_record.specs.declared.done.Done.{Done}
use Rattle.run_engine.specs.runs.Runs.{plane_at}
use Rattle.run_engine.proofs.Keeping.Lookups.{held}
use Rattle.run_engine.proofs.Runs.RunLegal.{run-stands}
use Rattle.plane_workers.specs.Answered.{IsAnswered, ticks_in}
use Rattle.plane_workers.specs.Seen.{GoesTo, SeenBetween, SeenWithin}
use Rattle.plane_workers.specs.Windows.{KeepsGap, IsInWindow, IsBetween}
use Rattle.plane_workers.proofs.RepliesAhead.{ahead-begins, ahead-over}
use Rattle.plane_workers.proofs.WindowAsks.{window-fits, window-ticks}

-- a smaller gap is kept too
each-nearer : (round small gap : ℕ) (flights : List Flight) → small ≤ gap → Each (λ f. round + gap < f.round) flights → Each (λ f. round + small < f.round) flights
each-nearer round small gap [] less each = tt
each-nearer round small gap (f ∷ fs) less each = ((let first = each.0 in omega (arith, first, less)), each-nearer round small gap fs less each.1)

pub keeps-less : (network : Network) (small gap : ℕ) → small ≤ gap → KeepsGap network gap → KeepsGap network small
keeps-less network small gap less keeps past done run next by = each-nearer (plane_at network past).round small gap (flight_in done.reply) less (keeps past done run next by)

one-at-most : (n ticked : ℕ) → cond (nat_lt n ticked) 1 0 ≤ 1
one-at-most n ticked =
    elim (cases_Bool (nat_lt n ticked)) [
      | inl made ↦ rw made (omega arith)
      | inr left ↦ rw left (omega arith)
    ]

module _ {X : Type 0} (rules : X → Link) (stands : X → List Entry → Type 0) (parts : PlanParts) (gap until : ℕ) (links : List X) (plane : PlaneAccount) (run : List Done) (is : IsBetween rules stands parts gap links plane run) where
  abbrev network : Network
  network = network_of parts

  fits : NetworkFits network
  fits = plan-fits parts is.plan

  at : plane.at ≡ plane_at network run
  at = is.plane_is.at

  pub links-few : length links ≤ 32
  links-few = (let same = is.kept.same in let few = fits.few in omega (arith, same, few))

  -- what each link is asked meets the conditions
  pub asks-fit : (n : ℕ) (x : X) → slice_get links n ≡ Some x → Each (AskFits (rules x).shape) (window_at n until plane.at)
  asks-fit n x found = subst (λ (p : Plane). Each (AskFits (rules x).shape) (window_at n until p)) (sym at) (window-fits (rules x).shape n until (plane_at network run) (run-stands network run fits is.run_is).flights)

  -- and its clock is small
  pub asks-early : (clock : X → ℕ) → ((n : ℕ) (x : X) (h : List Entry) → slice_get links n ≡ Some x → stands x h → clock x ≡ clock_of h) → until ≤ plane.rounds → plane.at.round < until → (n : ℕ) (x : X) → slice_get links n ≡ Some x → clock x + ticks_in (window_at n until plane.at) < 2 ^ 61
  asks-early clock tells all early n x found =
      let inside = slice_get_within network.links n (rules x) (is.kept.linked n x found) in
      let now : clock x ≡ (plane_at network run).round + cond (nat_lt n (plane_at network run).ticked) 1 0 = tells n x (part_of n run) found (is.kept.parts n x found) ∙ (run-stands network run fits is.run_is).clocks n inside in
      let one = one-at-most n (plane_at network run).ticked in
      let round = ap (λ (p : Plane). p.round) at in
      let ticks = window-ticks n until plane.at in
      let rounds = is.plane_is.rounds in
      let most = fits.rounds in
      let few : clock x + ticks_in (window_at n until plane.at) ≤ 2097154 = omega (arith, now, one, round, ticks, rounds, most, all, early) in
      lt_of_le_of_lt few (lit< tt)

  module _ (left : X → List Reply) (new : List X) (near : until ≤ plane.at.round + gap + 1) (early : plane.at.round < until) (all : until ≤ plane.rounds) where
    -- each link has answered
    pub within-begins : length new ≡ length links → ((n : ℕ) (x y : X) → slice_get links n ≡ Some x → slice_get new n ≡ Some y → IsAnswered rules stands x y (window_at n until plane.at) (left y)) → IsInWindow rules stands left parts plane.at.round until new plane run
    within-begins long answered = record {
      plan = is.plan;
      run_is = is.run_is;
      ahead = ahead-begins rules stands left network fits until links new run is.kept long
          (λ n x y found after. subst (λ (p : Plane). IsAnswered rules stands x y (window_at n until p) (left y)) at (answered n x y found after))
          (λ n y after. (let within = slice_get_within new n y after in let x = held links n (omega (arith, within, long)) in (x.item, x.found)));
      plane_is = is.plane_is;
      keeps = keeps-less network (until - suc plane.at.round) gap (omega (arith, near)) is.keeps;
      past = omega arith;
      within = omega (arith, early);
      all = all;
    }

-- the window is over
pub between-again : {X : Type 0} (rules : X → Link) (stands : X → List Entry → Type 0) (left : X → List Reply) (parts : PlanParts) (gap from until : ℕ) (links : List X) (plane : PlaneAccount) (run : List Done) → KeepsGap (network_of parts) gap → IsInWindow rules stands left parts from until links plane run → until ≤ plane.at.round → IsBetween rules stands parts gap links plane run
between-again rules stands left parts gap from until links plane run keeps is over = record {
  plan = is.plan;
  run_is = is.run_is;
  kept = ahead-over rules stands left (network_of parts) (plan-fits parts is.plan) until links run is.ahead (let round = ap (λ (p : Plane). p.round) is.plane_is.at in omega (arith, round, over));
  plane_is = is.plane_is;
  keeps = keeps;
}

-- ---- the watcher has seen the run

module _ {X W : Type 0} (rules : X → Link) (stands : X → List Entry → Type 0) (left : X → List Reply) (saw : W → PlanParts → List Done → Type 0) (parts : PlanParts) (gap from until : ℕ) where
  pub seen-begins : (links new : List X) (plane : PlaneAccount) (watch : W) (run : List Done) → SeenBetween rules stands saw parts gap links plane watch run → from ≡ plane.at.round → until ≤ plane.at.round + gap + 1 → plane.at.round < until → until ≤ plane.rounds → length new ≡ length links
      → ((n : ℕ) (x y : X) → slice_get links n ≡ Some x → slice_get new n ≡ Some y → IsAnswered rules stands x y (window_at n until plane.at) (left y)) → SeenWithin rules stands left saw parts from until new plane watch run
  seen-begins links new plane watch run is at near early all long answered = record {
    within = subst (λ start. IsInWindow rules stands left parts start until new plane run) (sym at) (within-begins rules stands parts gap until links plane run is.between left new near early all long answered);
    seen = is.seen;
  }

  pub seen-again : (actor : ActorNo) (links : List X) (plane : PlaneAccount) (watch : W) (past : List Done) → KeepsGap (network_of parts) gap → until ≤ plane.at.round → GoesTo (network_of parts) actor past (SeenWithin rules stands left saw parts from until links plane watch)
      → GoesTo (network_of parts) actor past (SeenBetween rules stands saw parts gap links plane watch)
  seen-again actor links plane watch past keeps over goes = record {
    run = goes.run;
    goes = goes.goes;
    comes = record { between = between-again rules stands left parts gap from until links plane goes.run keeps goes.comes.within over; seen = goes.comes.seen };
  }

pub rounds-few : {X : Type 0} (rules : X → Link) (stands : X → List Entry → Type 0) (parts : PlanParts) (gap : ℕ) (links : List X) (plane : PlaneAccount) (run : List Done) → IsBetween rules stands parts gap links plane run → plane.rounds ≤ 1048576
rounds-few rules stands parts gap links plane run is = (let most = (plan-fits parts is.plan).rounds in let same = is.plane_is.rounds in omega (arith, most, same))

pub on-ok : {T E : Type 0} {P Q R : Type 0} (answer : Result T E) → (P → Q → R) → OnOk answer P → OnOk answer Q → OnOk answer R
on-ok (Ok x) both p q = both p q
on-ok (Err e) both p q = tt
