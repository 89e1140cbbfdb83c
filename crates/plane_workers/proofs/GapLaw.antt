-- What leaves a link within a run, and goes on, takes at least the gap of the routes.
use Rattle.std.proofs.Common.{◌≡◌, ℕ, suc, ◌+◌, ◌-◌, ◌<◌, ◌≤◌, true, List, [], ◌∷◌, length, Option, Some, None, refl, sym, ap, ◌∙◌, subst, inl, inr, option_map, arith}
use Rattle.std.proofs.lemmas.Bool.{cases_Bool, eqb-true, eqb-false}
use Rattle.std.proofs.lemmas.Option.{same_Some, slice_get_within}
use Rattle.std.specs.List.{slice_get}
use Rattle.std.specs.Prelude.{nat_eq}
use Rattle.net_units.specs.Numbers.{link_number, actor_number, channel_number}
use Rattle.net_units.specs.declared.numbers.LinkNo.{LinkNo}
use Rattle.hop_reservation.specs.declared.route.Hop.{Hop}
use Rattle.link_steps.specs.declared.asks.Ask.{Ask}
use Rattle.link_steps.specs.declared.asks.Ask.TheVariants.{Tick, Reserve}
use Rattle.link_steps.specs.declared.replies.Entry.{Entry}
use Rattle.link_steps.specs.declared.replies.Reply.{Reply}
use Rattle.link_steps.specs.declared.replies.Reply.TheVariants as Is
use Rattle.link_steps.specs.Lists.{Each}
use Rattle.link_steps.specs.Replies.{tick_reply, reply_to}
use Rattle.link_steps.specs.Scan.{clock_of, scan_of}
use Rattle.link_steps.specs.Service.{leaves_at}
use Rattle.link_steps.specs.Split.{Link}
use Rattle.link_steps.proofs.ListParts.{Each-at}
use Rattle.setup_protocol.specs.Hops.{IsHopOf}
use Rattle.setup_protocol.specs.Setup.{Progress, Reserving, Undoing, Relaxing, Settled, asked, hop_link, progress_of}
use Rattle.setup_protocol.specs.declared.request.Request.{Request}
use Rattle.setup_protocol.proofs.HopAsks.{asked-at}
use Rattle.call_script.specs.Fits.{TaskFits, NetworkFits}
use Rattle.call_script.specs.Scripts.{standing, first_ask, task_ask}
use Rattle.call_script.specs.Tasks.{Network}
use Rattle.call_script.specs.declared.tasks.Task.{Task}
use Rattle.call_script.specs.declared.tasks.Task.TheVariants.{Opens}
use Rattle.call_script.proofs.TaskBegins.{ready-keeps}
use Rattle.channel_laws.proofs.NextLinks.{NamesNext, NextsAre, after-nexts, sent-next}
use Rattle.channel_laws.proofs.SentInTime.{sent-facts, tick-answer}
use Rattle.tick_plane.specs.Planes.{next_due, ask_due, flight_in, plane_expects, answers_arrive}
use Rattle.tick_plane.specs.declared.flight.Flight.{Flight}
use Rattle.tick_plane.proofs.PlaneFlights.{flight-in}
use Rattle.run_record.specs.Runs.{replies_to, part_of}
use Rattle.run_record.specs.declared.done.Done.{Done}
use Rattle.run_engine.specs.runs.Runs.{plane_no, plane_at, IsNext, IsRun}
use Rattle.run_engine.proofs.Replies.Replying.{replies-expected}
use Rattle.run_engine.proofs.Runs.RunLegal.{caller-next, plane-next, part-admissible, run-stands, by-part}
use Rattle.plane_workers.specs.Gaps.{IsSpaced, TaskSpaced, AreSpaced, PacketsTakeTheirTime}
use Rattle.run_engine.proofs.Runs.EachRun.{each-standing}
use Rattle.run_engine.proofs.Tasks.TaskAsks.{task-mild}
use Rattle.channel_laws.specs.Asks.{IsMild}

-- where packets go on from a link, it takes the gap at least
abbrev GoesOn : ℕ → Link → Option LinkNo → Type 0
GoesOn gap link None = Unit {0}
GoesOn gap link (Some to) = gap ≤ link.shape.prop

-- ---- what a caller asks

next-spaced : (gap : ℕ) (link : Link) (route : List Hop) (i : ℕ) (hop : Hop) (found : Option Hop) → IsSpaced gap route → slice_get route i ≡ Some hop → hop.prop ≡ link.shape.prop → slice_get route (suc i) ≡ found → GoesOn gap link (option_map hop_link found)
next-spaced gap link route i hop None spaced at prop next = tt
next-spaced gap link route i hop (Some other) spaced at prop next = (let least = spaced i hop other at next in omega (arith, least, prop))

setup-spaced : (links : List Link) (gap : ℕ) (request : Request) (progress : Progress) (to : LinkNo) (ask : Ask) (link : Link) → Each (IsHopOf links) request.route → IsSpaced gap request.route → slice_get links (link_number to) ≡ Some link → asked request progress ≡ Some (to, ask) → NamesNext (GoesOn gap link) ask
setup-spaced links gap request (Reserving offers reach) to ask link hops spaced found same =
    let at = asked-at request.route (length offers) _ to ask same in
    let is = Each-at (IsHopOf links) request.route (length offers) at.hop hops at.stands in
    let own : is.link ≡ link = same_Some is.link link (sym is.linked ∙ ap (λ (l : LinkNo). slice_get links (link_number l)) (sym at.at) ∙ found) in
    subst (NamesNext (GoesOn gap link)) (sym at.is) (next-spaced gap link request.route (length offers) at.hop (slice_get request.route (suc (length offers))) spaced at.stands (is.prop ∙ ap (λ (l : Link). l.shape.prop) own) refl)
setup-spaced links gap request (Undoing left deny) to ask link hops spaced found same =
    (let at = asked-at request.route (left - 1) _ to ask same in subst (NamesNext (GoesOn gap link)) (sym at.is) tt)
setup-spaced links gap request (Relaxing left levels) to ask link hops spaced found same =
    (let at = asked-at request.route (left - 1) _ to ask same in subst (NamesNext (GoesOn gap link)) (sym at.is) tt)
setup-spaced links gap request (Settled outcome) to ask link hops spaced found same = cc

-- an ask that reserves no channel names no link
mild-named : (P : Option LinkNo → Type 0) (ask : Ask) → ((c : ℕ) → IsMild c ask) → NamesNext P ask
mild-named P (Reserve chan contract kind delay up_reach first next) mild = absurd (mild (channel_number chan) refl)
mild-named P _ mild = tt

task-spaced : (links : List Link) (gap : ℕ) (task : Task) (replies : List Reply) (to : LinkNo) (ask : Ask) (link : Link) → TaskFits links task → TaskSpaced gap task → slice_get links (link_number to) ≡ Some link → task_ask task replies ≡ Some (to, ask) → NamesNext (GoesOn gap link) ask
task-spaced links gap (Opens request) replies to ask link fits spaced found same = setup-spaced links gap request (progress_of request replies) to ask link fits.hops spaced found same
task-spaced links gap task replies to ask link fits spaced found same = mild-named (GoesOn gap link) ask (λ c. task-mild c task replies to ask tt same)

tasks-spaced : (links : List Link) (gap : ℕ) (tasks : List Task) (replies : List Reply) (to : LinkNo) (ask : Ask) (link : Link) → Each (TaskFits links) tasks → Each (TaskSpaced gap) tasks → slice_get links (link_number to) ≡ Some link → first_ask tasks replies ≡ Some (to, ask) → NamesNext (GoesOn gap link) ask
tasks-spaced links gap [] replies to ask link fits spaced found same = cc
tasks-spaced links gap (task ∷ tasks) replies to ask link fits spaced found same = task-spaced links gap task replies to ask link fits.0 spaced.0 found same

-- ---- every run

module _ (network : Network) (gap : ℕ) (fits : NetworkFits network) (spaced : AreSpaced network gap) where
  abbrev PartsSpaced : List Done → Type 0
  PartsSpaced run = (n : ℕ) (link : Link) → slice_get network.links n ≡ Some link → NextsAre (GoesOn gap link) (scan_of link.shape (part_of n run))

  due-named : (link : Link) (ticked : ℕ) (found : Option Flight) (to : LinkNo) (ask : Ask) → ask_due ticked found ≡ (to, ask) → NamesNext (GoesOn gap link) ask
  due-named link ticked None to ask same = subst (NamesNext (GoesOn gap link)) (ap (λ pair. pair.1) same) tt
  due-named link ticked (Some flight) to ask same = subst (NamesNext (GoesOn gap link)) (ap (λ pair. pair.1) same) tt

  next-named : (past : List Done) (done : Done) → IsRun network past → IsNext network past done → (link : Link) → slice_get network.links (link_number done.link) ≡ Some link → NamesNext (GoesOn gap link) done.ask
  next-named past done run next link found =
      elim (cases_Bool (nat_eq (actor_number done.actor) (plane_no network))) [
        | inl plane ↦ due-named link (plane_at network past).ticked (next_due (plane_at network past)) done.link done.ask (plane-next network past done next (eqb-true (actor_number done.actor) (plane_no network) plane)).asks
        | inr caller ↦
            (let asks = caller-next network past done next (eqb-false (actor_number done.actor) (plane_no network) caller) in
            tasks-spaced network.links gap (standing asks.tasks (replies_to (actor_number done.actor) past)).tasks (standing asks.tasks (replies_to (actor_number done.actor) past)).replies done.link done.ask link
            ((run-stands network past fits run).callers (actor_number done.actor) asks.tasks asks.found).tasks
            (each-standing (TaskSpaced gap) (ready-keeps (TaskSpaced gap) (λ old new g s other_gap other_size is. is)) asks.tasks (replies_to (actor_number done.actor) past) (Each-at (Each (TaskSpaced gap)) network.scripts (actor_number done.actor) asks.tasks spaced asks.found)) found asks.asks)
      ]

  parts-spaced : (run : List Done) → IsRun network run → PartsSpaced run
  unfolding IsRun scan_of part_of
  parts-spaced [] run n link found = record { rows = tt; packets = tt }
  parts-spaced (done ∷ past) run n link found =
      by-part (λ h. NextsAre (GoesOn gap link) (scan_of link.shape h)) n done past
      (λ on. after-nexts (GoesOn gap link) tt link.shape (clock_of (part_of n past)) (scan_of link.shape (part_of n past)) done.ask done.reply (next-named past done run.0 run.1 link (ap (slice_get network.links) on ∙ found)) (parts-spaced past run.0 n link found))
      (λ off. parts-spaced past run.0 n link found)

  -- an arrival's reply begins no flight
  arrive-none : (P : Flight → Type 0) (reply : Reply) → answers_arrive reply ≡ true → Each P (flight_in reply)
  arrive-none P (Is.Ticked clock full sent best_sent best_lost) is = cc
  arrive-none P _ is = tt

  leaves-late : (past : List Done) (done : Done) (found : Option Flight) → IsRun network past → (next : IsNext network past done) → next_due (plane_at network past) ≡ found → ask_due (plane_at network past).ticked found ≡ (done.link, done.ask) → plane_expects found done.reply ≡ true → Each (λ flight. (plane_at network past).round + gap < flight.round) (flight_in done.reply)
  leaves-late past done (Some flight) run next due asks expected = arrive-none (λ f. (plane_at network past).round + gap < f.round) done.reply expected
  leaves-late past done None run next due asks expected =
      let tick : Tick ≡ done.ask = ap (λ pair. pair.1) asks in
      let n = link_number done.link in
      let h : List Entry = part_of (link_number done.link) past in
      let is : done.reply ≡ tick_reply next.link.shape (clock_of h) (scan_of next.link.shape h) = next.answered ∙ ap (reply_to next.link h) (sym tick) ∙ tick-answer next.link h in
      let inside = slice_get_within network.links n next.link next.linked in
      let clocks = (run-stands network past fits run).clocks n inside in
      flight-in (λ f. (plane_at network past).round + gap < f.round) done.reply (λ clock full sent best_sent best_lost to told goes.
      let from = sent-facts next.link.shape h clock full sent best_sent best_lost (part-admissible network past n next.link fits run next.linked) (told ∙ is) in
      let on : GoesOn gap next.link sent.next = sent-next (GoesOn gap next.link) tt next.link.shape (clock_of h) (scan_of next.link.shape h) clock full sent best_sent best_lost (parts-spaced past run n next.link next.linked) (told ∙ is) in
      let least : gap ≤ next.link.shape.prop = subst (GoesOn gap next.link) goes on in
      let arrives : sent.arrives ≡ leaves_at next.link.shape.rate from.start + next.link.shape.prop = ap (λ s. s.arrives) from.is in
      let leaves = from.leaves in
      omega (arith, least, arrives, leaves, clocks))

pub packets-take : PacketsTakeTheirTime
packets-take network gap fits spaced past done run next by =
    leaves-late network gap fits spaced past done (next_due (plane_at network past)) run next refl (plane-next network past done next by).asks (replies-expected.plane network past done next by)
