-- A tally that lags behind a run: what no tick told since it saw a run whole leaves it as it is, and with the clocks and the numbers of
-- steps it is a tally of the run again.
use Rattle.std.proofs.Common.{◌≡◌, ℕ, suc, ◌+◌, ◌^◌, ◌<◌, Bool, false, ◌||◌, nat_lt, Option, Some, None, is_some, List, [], ◌∷◌, ◌++◌, length, get_or, set, reverse, refl, sym, ap, ◌∙◌, subst, arith}
use Rattle.std.proofs.lemmas.Bool.{ltb-false, or_parts}
use Rattle.std.proofs.lemmas.List.{reverse-append}
use Rattle.net_units.specs.Numbers.{actor_number}
use Rattle.net_units.specs.declared.numbers.LinkNo.{LinkNo}
use Rattle.link_steps.specs.Scan.{clock_of, clock_with}
use Rattle.link_steps.specs.declared.asks.Ask.{Ask}
use Rattle.link_steps.specs.declared.asks.Ask.TheVariants.{Tick}
use Rattle.link_steps.specs.declared.replies.Entry.{Entry}
use Rattle.link_steps.specs.declared.replies.Reply.{Reply}
use Rattle.link_steps.specs.declared.replies.Reply.TheVariants as Is
use Rattle.link_steps.specs.declared.replies.Sent.{Sent}
use Rattle.call_script.specs.Parts.{PlanParts}
use Rattle.call_script.specs.Plans.{IsPlan}
use Rattle.call_script.specs.Tasks.{network_of}
use Rattle.tick_plane.specs.Planes.{ask_due, next_due}
use Rattle.tick_plane.specs.declared.flight.Flight.{Flight}
use Rattle.run_engine.specs.runs.Runs.{plane_at, plane_no, IsNext}
use Rattle.run_engine.specs.schedules.Lagging.{is_told, IsNextUntold, LagsBy, MayLag}
use Rattle.run_engine.specs.schedules.Quiet.{the_plane}
use Rattle.run_engine.proofs.Keeping.KeptActors.{plane-number}
use Rattle.run_engine.proofs.Keeping.NextPlaneStep.{own-number}
use Rattle.run_engine.proofs.Keeping.NextStep.{callers-few}
use Rattle.run_engine.proofs.Runs.RunLegal.{plane-next}
use Rattle.run_engine.proofs.Runs.RunLength.{run-short}
use Rattle.run_record.specs.Hops.{AreHops}
use Rattle.run_record.specs.Rows.{departures_in, offer_by, row_by, rows_by}
use Rattle.run_record.specs.Runs.{part_of}
use Rattle.run_record.specs.declared.done.Done.{Done}
use Rattle.run_record.proofs.OfferPlaces.{hops-kept}
use Rattle.channel_report.specs.ChannelTallies.{AreChannelTallies}
use Rattle.channel_report.specs.Flows.{AreFlows}
use Rattle.channel_report.specs.KeptRows.{AreKeptIf}
use Rattle.channel_report.specs.Links.{asks_best, best_lost_by, best_sent_by, dropped_by, one_if, one_if_some, sent_by}
use Rattle.channel_report.specs.Sources.{act_of}
use Rattle.channel_report.specs.StepCounts.{AreStepCounts}
use Rattle.channel_report.specs.Tallied.{IsLagging, IsTallied}
use Rattle.channel_report.specs.Tallies.{at_clock, AreLinkTallies, HaveClock, IsTally, IsToldTally}
use Rattle.channel_report.specs.declared.link_tally.LinkTally.{LinkTally}
use Rattle.channel_report.specs.declared.source_act.Act.TheVariants.{Nothing}
use Rattle.channel_report.specs.declared.tally.Tally.{Tally}
use Rattle.channel_report.proofs.ChannelTallies.{for-none, sources-same}
use Rattle.channel_report.proofs.CountsPerLink.{no-pours, tally-more, tally-ticked}
use Rattle.channel_report.proofs.FlowsKept.{flows-stay}
use Rattle.channel_report.proofs.LinkTallies.{told-same}
use Rattle.channel_report.proofs.RowsStayKept.{row-none}
use Rattle.channel_report.proofs.StepTallies.{replies-few, steps-by}

-- ---- the counts of a link

-- they lag behind no history that they are of
told-whole : (h : List Entry) (tally : LinkTally) → IsTally h tally → IsToldTally h tally
told-whole h tally is = subst (λ clock. IsTally h (at_clock clock tally)) (ap (λ (t : LinkTally). t.clock) is.is) is

-- with its clock they are of it
told-caught : (h : List Entry) (old new : LinkTally) (clock : ℕ) → clock_of h ≡ clock → new ≡ at_clock clock old → IsToldTally h old → IsTally h new
told-caught h old new clock same is told = subst (IsTally h) (ap (λ t. at_clock t old) same ∙ sym is) told

pub told-ticked : (h : List Entry) (reply : Reply) (old : LinkTally) (t full : ℕ) (left : Option Sent) (best lost : Bool) (sent dropped best_sent best_lost : ℕ) → IsToldTally h old → reply ≡ Is.Ticked t full left best lost → sent ≡ old.sent + one_if (is_some left) → dropped ≡ old.dropped + full → full < 4294967296
    → best_sent ≡ old.best_sent + one_if best → best_lost ≡ old.best_lost + one_if lost
    → IsToldTally (record { ask = Tick; reply = reply } ∷ h) (record old { sent = sent; dropped = dropped; best_sent = best_sent; best_lost = best_lost })
unfolding clock_of
told-ticked h reply old t full left best lost sent dropped best_sent best_lost is told sents drops few bests losts =
    tally-ticked h Tick reply (at_clock (clock_of h) old) t full left best lost (suc (clock_of h)) sent dropped best_sent best_lost is told refl sents drops few bests losts

-- ---- a reply that tells nothing

-- no count goes on by it, and no row is kept
pub record IsUntold (reply : Reply) : Type 0 where
  pub sent : sent_by reply ≡ 0
  pub dropped : dropped_by reply ≡ 0
  pub best_sent : best_sent_by reply ≡ 0
  pub best_lost : best_lost_by reply ≡ 0
  pub rows : (run : List Done) (link : LinkNo) → rows_by run link reply ≡ []

none-sent : (sent : Option Sent) → is_some sent ≡ false → one_if_some sent ≡ 0
none-sent None none = refl
none-sent (Some sent) none = cc

no-rows : (run : List Done) (link : LinkNo) (clock : ℕ) (sent : Option Sent) → is_some sent ≡ false → row_by run link clock sent ≡ []
no-rows run link clock None none = refl
no-rows run link clock (Some sent) none = cc

is-untold : (reply : Reply) → is_told reply ≡ false → IsUntold reply
is-untold (Is.Ticked clock full sent best_sent best_lost) untold =
    let first = or_parts (nat_lt 0 full) (is_some sent || (best_sent || best_lost)) untold in
    let second = or_parts (is_some sent) (best_sent || best_lost) first.1 in
    let third = or_parts best_sent best_lost second.1 in
    record {
      sent = none-sent sent second.0;
      dropped = (let few = ltb-false 0 full first.0 in omega (arith, few));
      best_sent = ap one_if third.0;
      best_lost = ap one_if third.1;
      rows = λ run link. no-rows run link clock sent second.0;
    }
is-untold _ untold = record { sent = refl; dropped = refl; best_sent = refl; best_lost = refl; rows = λ run link. refl }

-- any reply but a tick's is one
pub other-untold : (reply : Reply) → ((t full : ℕ) (left : Option Sent) (best lost : Bool) → reply ≡ Is.Ticked t full left best lost → ⊥) → IsUntold reply
other-untold (Is.Ticked t full left best lost) no_tick = absurd (no_tick t full left best lost refl)
other-untold _ no_tick = record { sent = refl; dropped = refl; best_sent = refl; best_lost = refl; rows = λ run link. refl }

-- the counts stay
pub told-stays : (h : List Entry) (ask : Ask) (reply : Reply) (tally : LinkTally) → asks_best ask ≡ false → IsUntold reply → IsToldTally h tally → IsToldTally (record { ask = ask; reply = reply } ∷ h) tally
unfolding clock_of
told-stays h ask reply tally best none is =
    tally-more h ask reply (at_clock (clock_of h) tally) (clock_with ask (clock_of h)) tally.sent tally.dropped tally.best_sent tally.best_lost tally.pours_refused is refl (omega (arith, none.sent)) (omega (arith, none.dropped)) (omega (arith, none.dropped))
    (omega (arith, none.best_sent)) (omega (arith, none.best_lost)) (omega (arith, no-pours ask reply best))

-- ---- what the plane asks

-- it is for no source, and gets no offer
record IsForNone (ask : Ask) : Type 0 where
  pub best : asks_best ask ≡ false
  pub source : (reply : Reply) → act_of ask reply ≡ Nothing
  pub offer : (reply : Reply) → offer_by ask reply ≡ None

due-for-none : (ticked : ℕ) (due : Option Flight) → IsForNone (ask_due ticked due).1
due-for-none ticked None = record { best = refl; source = λ reply. refl; offer = λ reply. refl }
due-for-none ticked (Some flight) = record { best = refl; source = λ reply. refl; offer = λ reply. refl }

asked-for-none : (parts : PlanParts) (run : List Done) (done : Done) → IsPlan parts → IsNext (network_of parts) run done → done.actor ≡ the_plane (network_of parts) → IsForNone done.ask
asked-for-none parts run done plan next by =
    let own : actor_number done.actor ≡ plane_no (network_of parts) = ap actor_number by ∙ own-number parts plan ∙ sym (plane-number parts) in
    let at = plane_at (network_of parts) run in
    let asks = plane-next (network_of parts) run done next own in
    subst IsForNone (ap (λ pair. pair.1) asks.asks) (due-for-none at.ticked (next_due at))

-- ---- a tally may lag

abbrev saw : Tally → PlanParts → List Done → Type 0
saw tally parts run = IsTallied parts run tally

abbrev lags : Tally → PlanParts → List Done → List Done → Type 0
lags tally parts past run = IsLagging parts past run tally

-- it lags behind no run that it is of
begins-to-lag : (parts : PlanParts) (past : List Done) (tally : Tally) → IsTallied parts past tally → IsLagging parts past past tally
begins-to-lag parts past tally is = record {
  links = record { all = is.links.all; tells = λ n d inside. told-whole (part_of n past) (get_or tally.links.items n d) (is.links.tells n d inside) };
  channels = is.channels;
  flows = is.flows;
  hops = is.hops;
  rows = is.rows;
  made = is.made;
  steps = is.steps;
}

-- a step of the plane that tells nothing leaves it
goes-on-lagging : (parts : PlanParts) (past run : List Done) (done : Done) (tally : Tally) → IsNextUntold lags parts tally past run done → IsLagging parts past (done ∷ run) tally
goes-on-lagging parts past run done tally next =
    let lag = next.lag in
    let none = is-untold done.reply next.untold in
    let asks = asked-for-none parts run done next.plan next.next next.by in
    let turned : reverse run ++ done ∷ [] ≡ reverse (done ∷ run) = sym (reverse-append (done ∷ []) run) in
    record {
      links = told-same (length parts.links) run done tally.links.items lag.links (λ h counts is. told-stays h done.ask done.reply counts asks.best none is);
      channels = sources-same parts.requests run done tally.channels.items lag.channels (λ n entry chan found on of own. for-none _ chan (asks.source done.reply) of);
      flows = flows-stay parts.requests run done tally.flows.items (λ whole. none.rows whole done.link) lag.flows;
      hops = subst (λ entries. AreHops entries tally.hops.channels.items) turned (hops-kept (reverse run) done tally.hops.channels.items (asks.offer done.reply) lag.hops);
      rows = subst (λ entries. AreKeptIf tally.packets entries tally.rows.items) turned (row-none tally.packets (reverse run) done tally.rows.items (λ whole. none.rows whole done.link) lag.rows);
      made = lag.made;
      steps = lag.steps;
    }

pub may-lag : MayLag saw lags
may-lag = record {
  begins = λ tally parts past seen. begins-to-lag parts past tally seen;
  goes_on = λ tally parts past run done next. goes-on-lagging parts past run done tally next;
}

-- ---- and catches up

module _ (parts : PlanParts) (tally : Tally) (past run : List Done) (clock steps : ℕ) (by : LagsBy lags parts tally past run clock steps) where
  -- the plane has a place among the counts of steps
  pub plane-below : plane_no (network_of parts) < 65
  plane-below = (let same = plane-number parts in let few = callers-few parts by.plan in omega (arith, same, few))

  pub lag-short : length past + steps < 2 ^ 60
  lag-short = (let short = run-short parts run by.plan by.run_is in let long = by.long in omega (arith, short, long))

  pub counts-short : (place d : ℕ) → place < 65 → get_or tally.made.items place d + steps < 2 ^ 60
  counts-short place d inside = (let told = by.lag.made.tells place d inside in let few = replies-few place past in let short = lag-short in omega (arith, told, few, short))

  pub steps-caught : (made : List ℕ) (place more : ℕ) → place ≡ length parts.callers → ((d : ℕ) → more ≡ get_or tally.made.items place d + steps) → made ≡ set tally.made.items place more → AreStepCounts run made
  steps-caught made place more there is put =
      let number : place ≡ plane_no (network_of parts) = there ∙ sym (plane-number parts) in
      subst (AreStepCounts run) (sym (put ∙ ap (λ at. set tally.made.items at more) number))
      (steps-by past run tally.made.items (plane_no (network_of parts)) steps more plane-below by.lag.made by.plane by.others (λ d. is d ∙ ap (λ at. get_or tally.made.items at d + steps) number))

  links-caught : (new : List LinkTally) → HaveClock clock tally.links.items new → AreLinkTallies (length parts.links) run new
  links-caught new have = record {
    all = have.same ∙ by.lag.links.all;
    tells = λ n d inside.
        let there : n < length tally.links.items = (let all = by.lag.links.all in omega (arith, inside, all)) in
        told-caught (part_of n run) (get_or tally.links.items n d) (get_or new n d) clock (by.clocks n inside) (have.each n d there) (by.lag.links.tells n d inside);
  }

  pub tally-caught : (new : Tally) → HaveClock clock tally.links.items new.links.items → new.channels.items ≡ tally.channels.items → new.flows.items ≡ tally.flows.items → new.hops.channels.items ≡ tally.hops.channels.items → new.rows.items ≡ tally.rows.items → new.packets ≡ tally.packets
      → AreStepCounts run new.made.items → new.steps ≡ tally.steps + steps → IsTallied parts run new
  tally-caught new links channels flows hops rows packets made counted =
      let lag = by.lag in
      record {
        links = links-caught new.links.items links;
        channels = subst (AreChannelTallies parts.requests run) (sym channels) lag.channels;
        flows = subst (λ fs. (whole : List Done) → AreFlows parts.requests (reverse (departures_in whole (reverse run))) fs) (sym flows) lag.flows;
        hops = subst (AreHops (reverse run)) (sym hops) lag.hops;
        rows = subst (λ p. AreKeptIf p (reverse run) new.rows.items) (sym packets) (subst (AreKeptIf tally.packets (reverse run)) (sym rows) lag.rows);
        made = made;
        steps = (let was = lag.steps in let long = by.long in omega (arith, counted, was, long));
      }
