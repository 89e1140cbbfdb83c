-- The plane's next step in a window: the reply is there, it is one that the plane expects, and the run goes on with it.
use Rattle.std.proofs.Common.{◌≡◌, ◌≢◌, ℕ, zero, suc, ◌+◌, ◌-◌, ◌<◌, ◌≤◌, true, List, [], ◌∷◌, ◌++◌, length, drop, Option, Some, None, refl, sym, ap, ◌∙◌, subst, inl, inr, arith}
use Rattle.std.proofs.lemmas.Bool.{cases_Bool, cases_lt}
use Rattle.std.proofs.lemmas.List.{drop_all}
use Rattle.std.proofs.lemmas.Option.{slice_get_within}
use Rattle.std.specs.List.{slice_get}
use Rattle.std.specs.Prelude.{nat_eq}
use Rattle.net_units.specs.Numbers.{link_number, actor_number}
use Rattle.net_units.specs.declared.numbers.ActorNo.{ActorNo}
use Rattle.net_units.specs.declared.numbers.LinkNo.{LinkNo}
use Rattle.link_steps.specs.Lists.{Each}
use Rattle.link_steps.specs.Split.{Link}
use Rattle.link_steps.proofs.SearchAndFilter.{Each-if}
use Rattle.link_steps.specs.declared.asks.Ask.{Ask}
use Rattle.link_steps.specs.declared.replies.Entry.{Entry}
use Rattle.link_steps.specs.declared.replies.Reply.{Reply}
use Rattle.link_steps.specs.declared.replies.Reply.TheVariants.{Denied}
use Rattle.call_script.proofs.PlansFit.{plan-fits}
use Rattle.call_script.specs.Fits.{NetworkFits}
use Rattle.call_script.specs.Parts.{PlanParts}
use Rattle.call_script.specs.Tasks.{Network, network_of}
use Rattle.tick_plane.specs.PlaneAccount.{PlaneAccount}
use Rattle.tick_plane.specs.Planes.{Plane, next_due, plane_ask, plane_after, plane_with, plane_expects, flight_in}
use Rattle.tick_plane.specs.declared.flight.Flight.{Flight}
use Rattle.tick_plane.proofs.AskedInWindow.{window-goes, window-holds}
use Rattle.run_record.specs.Runs.{part_of}
use Rattle.run_record.specs.declared.done.Done.{Done}
use Rattle.run_engine.specs.runs.Linked.{IsLinkThere}
use Rattle.run_engine.specs.runs.Runs.{plane_no, plane_at, IsNext, IsRun}
use Rattle.run_engine.specs.schedules.Schedules.{repeated, FollowsTurns}
use Rattle.run_engine.specs.runs.Turns.{plane_most}
use Rattle.run_engine.proofs.Keeping.KeptActors.{plane-number}
use Rattle.run_engine.proofs.Tasks.LinksAsked.{asks-linked}
use Rattle.run_engine.proofs.Schedules.PlayedTurns.{step-follows}
use Rattle.run_engine.proofs.Replies.Replying.{replies-expected}
use Rattle.run_engine.proofs.Runs.RunLegal.{asked-plane, plane-by, replies-off, run-stands}
use Rattle.run_engine.proofs.Runs.RunOf.{step-is}
use Rattle.run_engine.proofs.Schedules.ScheduleOutcome.{follows-none, follows-more}
use Rattle.run_engine.proofs.Tasks.StepsRunOut.{with-fewer}
use Rattle.plane_workers.specs.Answered.{replies_along}
use Rattle.plane_workers.specs.Seen.{GoesTo}
use Rattle.plane_workers.specs.Windows.{IsInWindow, GoesOnBy}
use Rattle.plane_workers.proofs.RepliesAhead.{first-reply, step-ahead, step-next}

-- what is left after so many isn't empty, so it has more
pub more-left : {X : Type 0} (xs : List X) (n : ℕ) (x : X) (rest : List X) → drop n xs ≡ x ∷ rest → n < length xs
more-left xs n x rest left =
    elim (cases_lt n (length xs)) [
      | inl within ↦ within
      | inr past ↦ absurd (let none : x ∷ rest ≡ [] = sym left ∙ drop_all n xs past in cc)
    ]

-- the plane's round doesn't go back
grows-with : (links : ℕ) (plane : Plane) (found : Option Flight) (reply : Reply) → plane.round ≤ (plane_with links plane found reply).round
grows-with links plane (Some f) reply = omega arith
grows-with links plane None reply =
    elim (cases_Bool (nat_eq (suc plane.ticked) links)) [
      | inl last ↦ rw last (omega arith)
      | inr more ↦ rw more (omega arith)
    ]

-- ---- runs that go on by one actor

pub goes-none : (network : Network) (actor : ActorNo) (run : List Done) → GoesOnBy network actor run run
unfolding repeated
goes-none network actor run = record { count = 0; follows = follows-none network run; long = omega arith; others = λ n off. refl }

pub goes-one : (network : Network) (past : List Done) (done : Done) → IsNext network past done → GoesOnBy network done.actor past (done ∷ past)
unfolding repeated
goes-one network past done next = record {
  count = 1;
  follows = step-follows network done.actor past done.reply (done ∷ past) (record { done = done; next = next; by = refl; gets = refl; is = refl; goes = sym (step-is network past done next) });
  long = omega arith;
  others = λ n off. replies-off n done past (λ is. off (sym is));
}

pub repeated-both : {X : Type 0} (n m : ℕ) (x : X) → repeated n x ++ repeated m x ≡ repeated (n + m) x
unfolding repeated
repeated-both zero m x = ap (λ k. repeated k x) (let same : m ≡ 0 + m = omega arith in same)
repeated-both (suc n) m x = ap (λ xs. x ∷ xs) (repeated-both n m x) ∙ ap (λ k. repeated k x) (let same : suc (n + m) ≡ suc n + m = omega arith in same)

pub goes-both : (network : Network) (actor : ActorNo) (past mid run : List Done) → GoesOnBy network actor past mid → GoesOnBy network actor mid run → GoesOnBy network actor past run
goes-both network actor past mid run one two = record {
  count = one.count + two.count;
  follows = subst (λ actors. FollowsTurns network past actors run) (repeated-both one.count two.count actor) (follows-more network past mid run (repeated one.count actor) (repeated two.count actor) one.follows two.follows);
  long = (let a = one.long in let b = two.long in omega (arith, a, b));
  others = λ n off. two.others n off ∙ one.others n off;
}

-- to one of which something holds
pub comes-none : (network : Network) (actor : ActorNo) (past : List Done) (holds : List Done → Type 0) → holds past → GoesTo network actor past holds
comes-none network actor past holds now = record { run = past; goes = goes-none network actor past; comes = now }

pub comes-both : (network : Network) (actor : ActorNo) (past : List Done) (held holds : List Done → Type 0) → GoesTo network actor past held → ((mid : List Done) → held mid → GoesTo network actor mid holds) → GoesTo network actor past holds
comes-both network actor past held holds one on =
    let two = on one.run one.comes in
    record { run = two.run; goes = goes-both network actor past one.run two.run one.goes two.goes; comes = two.comes }

-- ---- one step

module _ {X : Type 0} (rules : X → Link) (stands : X → List Entry → Type 0) (left : X → List Reply) (parts : PlanParts) (from until : ℕ) (links : List X) (plane : PlaneAccount) (run : List Done) (is : IsInWindow rules stands left parts from until links plane run) (early : plane.at.round < until) where
  abbrev network : Network
  network = network_of parts

  fits : NetworkFits network
  fits = plan-fits parts is.plan

  at : plane.at ≡ plane_at network run
  at = is.plane_is.at

  -- a step is left
  pub step-left : plane.at.round < plane.rounds
  step-left = (let all = is.all in omega (arith, all, early))

  module _ (link : LinkNo) (ask : Ask) (asked : Some (link, ask) ≡ plane_ask plane.rounds plane.at) where
    asks : plane_ask network.rounds (plane_at network run) ≡ Some (link, ask)
    asks = ap (λ (p : Plane). plane_ask network.rounds p) (sym at) ∙ ap (λ rounds. plane_ask rounds plane.at) (sym is.plane_is.rounds) ∙ sym asked

    there : IsLinkThere network.links link
    there = asks-linked network run (plane_no network) link ask fits is.run_is (asked-plane network (plane_no network) run refl ∙ asks)

    -- of a link that is there
    pub link-inside : link_number link < length links
    link-inside = (let same = is.ahead.same in let within = slice_get_within network.links (link_number link) there.link there.found in omega (arith, same, within))

    early-run : (plane_at network run).round < until
    early-run = subst (λ (p : Plane). p.round < until) at early

    -- whose reply is there
    pub has-reply : (x : X) → slice_get links (link_number link) ≡ Some x → (reply : Reply) × ((rest : List Reply) × (left x ≡ reply ∷ rest))
    has-reply x found =
        let ahead = is.ahead.ahead (link_number link) x found in
        let inside = slice_get_within network.links (link_number link) (rules x) (is.ahead.linked (link_number link) x found) in
        let goes = window-goes (link_number link) (length network.links) network.rounds until (plane_at network run) link ask Denied fits.few (run-stands network run fits is.run_is).ticked inside early-run asks tt in
        (_, (_, ahead.replied ∙ ap (replies_along (rules x) (part_of (link_number link) run)) (goes.own refl) ∙ first-reply (rules x) (part_of (link_number link) run) ask _))

    module _ (actor : ActorNo) (by : actor_number actor ≡ length parts.callers) (reply : Reply) (new : List X) (x y : X) (found : slice_get links (link_number link) ≡ Some x) (told : left x ≡ reply ∷ left y) where
      abbrev done : Done
      done = record { actor = actor; link = link; ask = ask; reply = reply }

      mine : actor_number actor ≡ plane_no network
      mine = by ∙ sym (plane-number parts)

      near : until ≤ (plane_at network run).round + (until - suc from) + 1
      near = (let past = is.past in let round = ap (λ (p : Plane). p.round) at in omega (arith, past, round, early))

      pub one-next : IsNext network run done
      one-next = step-next rules stands left network fits until (until - suc from) is.keeps links new run done x y is.run_is is.ahead mine early-run near asks found told

      pub one-expected : plane_expects (next_due plane.at) reply ≡ true
      one-expected = ap (λ (p : Plane). plane_expects (next_due p) reply) at ∙ replies-expected.plane network run done one-next mine

      -- what leaves with it is due after this round
      pub one-later : Each (λ f. plane.at.round < f.round) (flight_in reply)
      one-later = subst (λ (p : Plane). Each (λ f. p.round < f.round) (flight_in reply)) (sym at)
          (Each-if (λ f. (plane_at network run).round + (until - suc from) < f.round) (λ f. (plane_at network run).round < f.round) (flight_in reply) (λ f later. omega (arith, later)) (is.keeps run done is.run_is one-next mine))

      pub one-goes : GoesOnBy network actor run (done ∷ run)
      one-goes = goes-one network run done one-next

      module _ (plane' : PlaneAccount) (after : plane'.at ≡ plane_after plane.links reply plane.at) (same-links : plane'.links ≡ plane.links) (same-rounds : plane'.rounds ≡ plane.rounds) where
        pub one-fewer : plane_most plane'.links plane'.rounds plane'.at < plane_most plane.links plane.rounds plane.at
        one-fewer =
            let some : plane.at.ticked < plane.links = (let ticked = (run-stands network run fits is.run_is).ticked in let same = ap (λ (p : Plane). p.ticked) at in let ls = is.plane_is.links in omega (arith, ticked, same, ls)) in
            subst (λ (p : PlaneAccount). plane_most p.links p.rounds p.at < plane_most plane.links plane.rounds plane.at) (λ i. record { links = sym same-links i; rounds = sym same-rounds i; at = sym after i; spare = plane'.spare })
            (with-fewer plane.links plane.rounds plane.at (next_due plane.at) reply refl some step-left)

        pub one-within : IsRun network (done ∷ run) → length new ≡ length links → ((n : ℕ) → n ≢ link_number link → slice_get new n ≡ slice_get links n) → slice_get new (link_number link) ≡ Some y → rules y ≡ rules x → ((h : List Entry) → stands x h → stands y h) → IsInWindow rules stands left parts from until new plane' (done ∷ run)
        one-within run' long others own same stay =
            let grows = grows-with plane.links plane.at (next_due plane.at) reply in
            let holds = window-holds plane.links until plane.at reply early in
            let round = ap (λ (p : Plane). p.round) after in
            record {
              plan = is.plan;
              run_is = run';
              ahead = step-ahead rules stands left network fits until (until - suc from) is.keeps links new run done x y is.run_is is.ahead mine early-run near asks found told long others own same stay;
              plane_is = record {
                links = same-links ∙ is.plane_is.links;
                rounds = same-rounds ∙ is.plane_is.rounds;
                at = after ∙ ap (λ n. plane_after n reply plane.at) is.plane_is.links ∙ ap (plane_after (length network.links) reply) at ∙ sym (plane-by network done run mine);
              };
              keeps = is.keeps;
              past = (let past = is.past in omega (arith, past, grows, round));
              within = omega (arith, holds, round);
              all = (let all = is.all in omega (arith, all, same-rounds));
            }
