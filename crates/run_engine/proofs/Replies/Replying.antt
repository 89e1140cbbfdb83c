-- In every run of a network whose channels each have one owner, each reply is one that its actor expects.
use Rattle.std.proofs.Common.{◌≡◌, ℕ, true, List, ◌∷◌, length, Option, Some, None, refl, sym, ap, ◌∙◌, subst, inl, inr}
use Rattle.run_engine.proofs.Words.{◌≤◌, nat_eq, IsSendReply, IsReleased, IsArriveReply, Each, tick_reply, reply_to, clock_of, scan_of, IsPlanned, ChanNo, answers, answers_next, next_of_move, OwnedFully, TaskOff, AllOwned, move_between, Standing, packets_ask, once_next, standing, answers_submit, first_expects, Learnt, cases_Bool, eqb-true, eqb-false, slice_get, link_number, actor_number, channel_number, LinkNo, next_levels, Ask, Submit, Release, Arrive, Tick, Entry, Reply, Link, Progress, Reserving, Undoing, Relaxing, Settled, answers_reserve, answers_deny, answers_relax, is_expected, asked, next_ask, progress_of, is_closing, next_release, Request, NetworkFits, Network, Task, Opens, Sends, Closes, Moves, plane_no, plane_at, IsNext, IsRun, replies_to, part_of, Done, next_due, ask_due, answers_arrive, answers_tick, plane_expects, Flight}
use Rattle.channel_move.proofs.AskByStage.{move-ask-is}
use Rattle.channel_laws.proofs.SendReplies.{best-answered, of-released}
use Rattle.run_engine.proofs.Runs.RunLegal.{plane-next, caller-next}
use Rattle.run_engine.proofs.Moves.SizesKept.{first-small}
use Rattle.link_steps.specs.declared.replies.Refusal.TheVariants as Why
use Rattle.link_steps.specs.declared.replies.Reply.TheVariants as Is
use Rattle.link_steps.specs.Effects.{effect_of}
use Rattle.channel_laws.proofs.ArriveReplies.{arrive-told, of-arrive}
use Rattle.run_engine.specs.replies.Answers.{IsReserveReply, IsRelaxed, IsTicked, IsReplyOf}
use Rattle.run_engine.specs.runs.Laws.{EveryReplyIsExpected, EveryAskIsAnswered}
use Rattle.run_engine.proofs.Replies.ClosingSteps.{IsUsualReply, IfReleased, IfPlanned}
use Rattle.run_engine.proofs.Replies.RunCloses.{owned-once, step-usual}
use Rattle.run_engine.proofs.Replies.RunGoes.{step-setup}
use Rattle.setup_protocol.proofs.HopAsks.{of-hop}
use Rattle.channel_laws.proofs.SentInTime.{tick-answer}
use Rattle.run_engine.proofs.Tasks.SingleAskTask.{once-asked, packets-hold}
use Rattle.run_engine.proofs.Runs.EachRun.{OwnStep, at-step}
use Rattle.run_engine.proofs.Tasks.TaskAsks.{off-standing}
use Rattle.run_engine.proofs.Tasks.OwnTasks.{own-task, OwnerIs, owner-is}

-- ---- the tests and the facts say the same

send-expected : (reply : Reply) → IsSendReply reply → answers_submit reply ≡ true
send-expected (Is.Planned clock) is = refl
send-expected (Is.Refused (Why.Busy left)) is = refl
send-expected (Is.Refused (Why.TooBig size smax)) is = refl
send-expected _ is = absurd is

reserve-answered : (levels : ℕ) (reply : Reply) → answers_reserve levels reply ≡ true → IsReserveReply reply
reserve-answered levels (Is.Offer level reach) is = tt
reserve-answered levels (Is.Refused refusal) is = is
reserve-answered levels _ is = cc

deny-answered : (reply : Reply) → answers_deny reply ≡ true → reply ≡ Is.Denied
deny-answered Is.Denied is = refl
deny-answered _ is = cc

relax-answered : (reply : Reply) → answers_relax reply ≡ true → IsRelaxed reply
relax-answered (Is.Relaxed clock) is = tt
relax-answered _ is = cc

-- ---- the ask under way and its replies

setup-answered : (request : Request) (p : Progress) (to : LinkNo) (ask : Ask) (reply : Reply) → asked request p ≡ Some (to, ask) → is_expected request p reply ≡ true → IsReplyOf ask reply
setup-answered request (Reserving offers reach) to ask reply same is = of-hop (λ a. IsReplyOf a reply) (slice_get request.route (length offers)) _ to ask (λ hop. reserve-answered (next_levels request.route offers) reply is) same
setup-answered request (Undoing left deny) to ask reply same is = of-hop (λ a. IsReplyOf a reply) _ _ to ask (λ hop. deny-answered reply is) same
setup-answered request (Relaxing left levels) to ask reply same is = of-hop (λ a. IsReplyOf a reply) _ _ to ask (λ hop. relax-answered reply is) same
setup-answered request (Settled outcome) to ask reply same is = cc

-- what stands of a reply to a caller
record Expected (tasks : List Task) (replies : List Reply) (ask : Ask) (reply : Reply) : Type 0 where
  is : first_expects tasks replies reply ≡ true
  answered : IsReplyOf ask reply

opens-expected : (request : Request) (rest : List Task) (replies : List Reply) (to : LinkNo) (ask : Ask) (reply : Reply) → next_ask request replies ≡ Some (to, ask) → is_expected request (progress_of request replies) reply ≡ true → Expected (Opens request ∷ rest) replies ask reply
opens-expected request rest replies to ask reply same is = record { is = is; answered = setup-answered request (progress_of request replies) to ask reply same is }

sends-expected : (link : LinkNo) (chan : Option ChanNo) (count gap size : ℕ) (rest : List Task) (replies : List Reply) (to : LinkNo) (ask : Ask) (reply : Reply) → once_next link (packets_ask chan count gap size) replies ≡ Some (to, ask) → IsSendReply reply
    → Expected (Sends link chan count gap size ∷ rest) replies ask reply
sends-expected link chan count gap size rest replies to ask reply same is = record {
  is = send-expected reply is;
  answered = subst (λ a. IsReplyOf a reply) (once-asked link (packets_ask chan count gap size) replies to ask same).is (packets-hold (λ a. IsReplyOf a reply) chan count gap size (λ own. is) is);
}

closes-expected : (request : Request) (rest : List Task) (replies : List Reply) (to : LinkNo) (ask : Ask) (reply : Reply) → next_release request.chan request.route replies ≡ Some (to, ask) → IsReleased reply → Expected (Closes request ∷ rest) replies ask reply
closes-expected request rest replies to ask reply same is = record { is = of-released (λ r. is_closing r ≡ true) reply (λ count cancelled. refl) is; answered = of-hop (λ a. IsReplyOf a reply) (slice_get request.route (length replies)) _ to ask (λ hop. is) same }

best-reply : (link : Link) (h : List Entry) (ask : Ask) (count gap size : ℕ) → ask ≡ packets_ask None count gap size → IsSendReply (reply_to link h ask)
unfolding effect_of
best-reply link h ask count gap size same = best-answered link h ask 0 count gap size (ap (λ a. effect_of (scan_of link.shape h) a (Is.Planned 0)) same)

planned-send : (reply : Reply) → IsPlanned reply → IsSendReply reply
planned-send (Is.Planned clock) is = tt
planned-send _ is = absurd is

planned-answers : (chan own : ChanNo) (count gap size : ℕ) (reply : Reply) → IsPlanned reply → answers (Submit chan count gap size) reply ≡ true
planned-answers chan own count gap size (Is.Planned clock) is = refl
planned-answers chan own count gap size _ is = absurd is

moves-expected : (old new : Request) (gap size : ℕ) (rest : List Task) (replies : List Reply) (to : LinkNo) (ask : Ask) (reply : Reply) → next_of_move (move_between old new gap size) replies ≡ Some (to, ask) → IfReleased ask reply → IfPlanned ask reply → Expected (Moves old new gap size ∷ rest) replies ask reply
moves-expected old new gap size rest replies to ask reply same released planned = record {
  is = ap (λ next. answers_next next reply) same ∙ move-ask-is (λ a. IfReleased a reply → IfPlanned a reply → answers a reply ≡ true) (move_between old new gap size) replies to ask (λ upstream is none. of-released (λ r. answers (Release old.chan upstream) r ≡ true) reply (λ count cancelled. refl) is) (λ count none is. planned-answers new.chan new.chan count gap size reply is) same released planned;
  answered = move-ask-is (λ a. IfReleased a reply → IfPlanned a reply → IsReplyOf a reply) (move_between old new gap size) replies to ask (λ upstream is none. is) (λ count none is. planned-send reply is) same released planned;
}

-- ---- each reply to a caller

module _ (network : Network) (owner : ℕ) (script : List Task) (past : List Done) (done : Done) (fits : NetworkFits network) (all : AllOwned network) where
  -- where its task names a channel, the caller owns it
  pub named-own : {task : Task} {rest : List Task} {replies : List Reply} {outcomes : List Learnt} → OwnStep network owner script past done task rest replies outcomes → (c : ℕ) → (TaskOff c task → ⊥) → OwnerIs network c owner
  named-own {task} {rest} step c named = owner-is network c owner script all step.found (λ off. named (head (subst (λ (s : Standing). Each (TaskOff c) s.tasks) step.stands (off-standing c script (replies_to owner past) off)))) where
    head : Each (TaskOff c) (task ∷ rest) → TaskOff c task
    head each = each.0

  pub own-step : {task : Task} {rest : List Task} {replies : List Reply} {outcomes : List Learnt} → OwnStep network owner script past done task rest replies outcomes → (c : ℕ) → (is : OwnerIs network c owner) → OwnStep network is.own.owner script past done task rest replies outcomes
  own-step {task} {rest} {replies} {outcomes} step c is = subst (λ o. OwnStep network o script past done task rest replies outcomes) is.same step

  pub usual-reply : {task : Task} {rest : List Task} {replies : List Reply} {outcomes : List Learnt} → OwnStep network owner script past done task rest replies outcomes → (c : ℕ) → (is : OwnerIs network c owner) → IsUsualReply is.own.request task done.ask done.reply
  usual-reply {task} {rest} {replies} {outcomes} step c is = step-usual network is.own.request is.own.owner script past done task rest replies outcomes fits is.own.sound is.own.full (own-step step c is)

  open-reply : (request : Request) (rest : List Task) (replies : List Reply) (outcomes : List Learnt) → OwnStep network owner script past done (Opens request) rest replies outcomes → is_expected request (progress_of request replies) done.reply ≡ true
  open-reply request rest replies outcomes step =
      let is = named-own step (channel_number request.chan) (λ off. off refl) in
      let own = own-step step (channel_number request.chan) is in
      let same : request ≡ is.own.request = (own-task network is.own.request is.own.owner script past done (Opens request) rest replies outcomes is.own.full own) (sym is.own.chan) in
      subst (λ r. is_expected r (progress_of r replies) done.reply ≡ true) (sym same)
      (step-setup network is.own.request is.own.owner fits is.own.sound (owned-once network is.own.request is.own.owner is.own.full) script past done rest replies outcomes (subst (λ r. OwnStep network is.own.owner script past done (Opens r) rest replies outcomes) same own)).expected

  -- the packets of a move are no larger than the contract of the channel that it joins
  pub moved-small : (old new : Request) (gap size : ℕ) (rest : List Task) (replies : List Reply) (outcomes : List Learnt) → OwnStep network owner script past done (Moves old new gap size) rest replies outcomes → (own : OwnerIs network (channel_number new.chan) owner) → size ≤ own.own.request.contract.smax
  moved-small old new gap size rest replies outcomes step own =
      first-small network past owner script old new gap size rest own.own.request fits all step.run step.found (subst (OwnedFully network own.own.request) (sym own.same) own.own.full) (sym own.own.chan) (ap (λ (s : Standing). s.tasks) step.stands)

  step-expected : (task : Task) (rest : List Task) (replies : List Reply) (outcomes : List Learnt) → OwnStep network owner script past done task rest replies outcomes → Expected (task ∷ rest) replies done.ask done.reply
  step-expected (Opens request) rest replies outcomes step = opens-expected request rest replies done.link done.ask done.reply step.asks (open-reply request rest replies outcomes step)
  step-expected (Sends link (Some chan) count gap size) rest replies outcomes step =
      let own = named-own step (channel_number chan) (λ off. off refl) in
      sends-expected link (Some chan) count gap size rest replies done.link done.ask done.reply step.asks (usual-reply step (channel_number chan) own (λ off. off (sym own.own.chan)))
  step-expected (Sends link None count gap size) rest replies outcomes step =
      sends-expected link None count gap size rest replies done.link done.ask done.reply step.asks
      (subst IsSendReply (sym step.next.answered) (best-reply step.next.link (part_of (link_number done.link) past) done.ask count gap size (sym (once-asked link (packets_ask None count gap size) replies done.link done.ask step.asks).is)))
  step-expected (Closes request) rest replies outcomes step =
      let own = named-own step (channel_number request.chan) (λ off. off refl) in
      closes-expected request rest replies done.link done.ask done.reply step.asks (usual-reply step (channel_number request.chan) own (sym own.own.chan))
  step-expected (Moves old new gap size) rest replies outcomes step =
      let own-old = named-own step (channel_number old.chan) (λ off. off.0 refl) in
      let own-new = named-own step (channel_number new.chan) (λ off. off.1 refl) in
      let released = (usual-reply step (channel_number old.chan) own-old).0 (sym own-old.own.chan) in
      let planned = (usual-reply step (channel_number new.chan) own-new).1 (sym own-new.own.chan) (moved-small old new gap size rest replies outcomes step own-new) in
      moves-expected old new gap size rest replies done.link done.ask done.reply step.asks released planned

caller-expected : (network : Network) (past : List Done) (done : Done) (tasks : List Task) → NetworkFits network → AllOwned network → IsRun network past → IsNext network past done → slice_get network.scripts (actor_number done.actor) ≡ Some tasks
    → Expected (standing tasks (replies_to (actor_number done.actor) past)).tasks (standing tasks (replies_to (actor_number done.actor) past)).replies done.ask done.reply
caller-expected network past done tasks fits all run next found =
    at-step network (actor_number done.actor) tasks past done run next refl found (λ at. Expected at.tasks at.replies done.ask done.reply) (λ task rest replies outcomes step. step-expected network (actor_number done.actor) tasks past done fits all task rest replies outcomes step)

-- ---- each reply to the plane

due-expected : (link : Link) (h : List Entry) (found : Option Flight) (ticked : ℕ) (to : LinkNo) (ask : Ask) (reply : Reply) → ask_due ticked found ≡ (to, ask) → reply ≡ reply_to link h ask → (plane_expects found reply ≡ true) × IsReplyOf ask reply
due-expected link h None ticked to ask reply asks same =
    let tick : Tick ≡ ask = ap (λ pair. pair.1) asks in
    let is : reply ≡ tick_reply link.shape (clock_of h) (scan_of link.shape h) = same ∙ ap (reply_to link h) (sym tick) ∙ tick-answer link h in
    (ap answers_tick is, subst (λ a. IsReplyOf a reply) tick (subst IsTicked (sym is) tt))
due-expected link h (Some flight) ticked to ask reply asks same =
    let arrive : Arrive flight.packet ≡ ask = ap (λ pair. pair.1) asks in
    let told : IsArriveReply reply = arrive-told link h flight.packet reply (same ∙ ap (reply_to link h) (sym arrive)) in
    (of-arrive (λ r. answers_arrive r ≡ true) reply (λ clock eligible. refl) (λ held slots. refl) (λ why. refl) told, subst (λ a. IsReplyOf a reply) arrive told)

plane-expected : (network : Network) (past : List Done) (done : Done) → (next : IsNext network past done) → actor_number done.actor ≡ plane_no network → (plane_expects (next_due (plane_at network past)) done.reply ≡ true) × IsReplyOf done.ask done.reply
plane-expected network past done next same =
    let asks = plane-next network past done next same in
    due-expected next.link (part_of (link_number done.link) past) (next_due (plane_at network past)) (plane_at network past).ticked done.link done.ask done.reply asks.asks next.answered

-- ---- every run

pub replies-expected : EveryReplyIsExpected
replies-expected = record {
  callers = λ network past done tasks fits all run next other found. (caller-expected network past done tasks fits all run next found).is;
  plane = λ network past done next same. (plane-expected network past done next same).0;
}

pub asks-answered : EveryAskIsAnswered
asks-answered network past done fits all run next =
    elim (cases_Bool (nat_eq (actor_number done.actor) (plane_no network))) [
      | inl plane ↦ (plane-expected network past done next (eqb-true (actor_number done.actor) (plane_no network) plane)).1
      | inr caller ↦
          (let other = eqb-false (actor_number done.actor) (plane_no network) caller in
          let asks = caller-next network past done next other in
          (caller-expected network past done asks.tasks fits all run next asks.found).answered)
    ]
