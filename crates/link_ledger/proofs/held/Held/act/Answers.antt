use Rattle.std.proofs.Common.{◌≡◌, ℕ, ◌+◌, length, [], ◌∷◌, ◌++◌, refl, sym, ap, ◌∙◌, subst, arith}
use Rattle.net_units.specs.Numbers.{link_number}
use Rattle.net_units.specs.declared.numbers.ActorNo.{ActorNo}
use Rattle.net_units.specs.declared.numbers.LinkNo.{LinkNo}
use Rattle.link_steps.specs.Legal.{AskFits}
use Rattle.link_steps.specs.Split.{Link}
use Rattle.link_steps.specs.declared.asks.Ask.{Ask}
use Rattle.step_stamp.specs.Seats.{Meets, DrawsMark, EntersMark, pass_view, link_view, seat_link, list_of, link_table}
use Rattle.step_stamp.specs.Views.{known_of}
use Rattle.step_stamp.specs.declared.marks.Mark.{Mark}
use Rattle.step_stamp.specs.declared.seats.LinkSeat.{LinkSeat}
use Rattle.step_stamp.specs.declared.views.View.{View}
use Rattle.link_ledger.specs.Journals.{journal_entry_of}
use Rattle.link_ledger.specs.Order.{HeldLink, AreInOrder}
use Rattle.link_ledger.specs.Own.{Acted}
use Rattle.link_ledger.specs.Tokens.{IsLink}
use Rattle.link_ledger.specs.declared.entries.OwnEntry.{OwnEntry}
use Rattle.link_ledger.proofs.LinkStaysInOrder.{early, in_order-same, order-marks}
use Rattle.link_ledger.proofs.StepUnderLock.{step-order, step-acted}
use Rattle.link_ledger.proofs.held.Held.act.Goals as goal

pub step-requires-clause-early : goal.step-requires-clause-early
step-requires-clause-early g c = early _ _ _ _ _ c.self.invariant.2 (λ h. g.met.L.LinkStep.tells_time c.self.inside.link h)

pub invariant_of-self-in_err-reply : goal.invariant_of-self-in_err-reply
invariant_of-self-in_err-reply g c =
    let inv = c.self.invariant in
    let met = c.in_ok-meet.ensures in
    let kept : list_of c.meet.new.link ≡ list_of c.self.inside.seat = ap (λ (n : LinkNo). known_of (link_number n) (link_view c.meet.new.link)) met.same.3 ∙ met.met.keeps in
    let saw = met.met.saw in (
      met.same.2 ∙ inv.0,
      subst (λ (x : ℕ × Link). IsLink g.H.Home.links x.0 x.1) (λ i. (sym (ap link_number met.same.3) i, sym c.in_err-reply.ensures.same i)) inv.1,
      in_order-same _ _ _ _ _ _ inv.2 c.in_err-reply.ensures.same c.reserve.ensures.items kept (omega (arith, saw)) c.in_err-reply.ensures.memory,
    )

pub invariant_of-self-in_err-meet-2 : goal.invariant_of-self-in_err-meet-2
invariant_of-self-in_err-meet-2 g c =
    let inv = c.self.invariant in
    let met = c.in_ok-meet.ensures in
    let step = c.in_ok-reply.ensures in
    let actor : ActorNo = c.args.pass.now.actor in
    let ask : Ask = c.args.ask.now in
    let m : Mark = c.in_ok-ticket.ticket.mark in
    let l : ℕ = seat_link c.self.inside.seat in
    let there : seat_link c.meet.new.link ≡ l = ap link_number met.same.3 in
    let drew : DrawsMark actor l ask (pass_view c.meet.new.self) (pass_view c.draw.new.self) m =
    subst (λ (x : ActorNo × ℕ). DrawsMark x.0 x.1 ask (pass_view c.meet.new.self) (pass_view c.draw.new.self) m) (λ i. (met.same.1 i, there i)) c.in_ok-ticket.ensures.drew in
    let entered : EntersMark l (link_view c.meet.new.link) (link_view c.enter.new.self) m = subst (λ n. EntersMark n (link_view c.meet.new.link) (link_view c.enter.new.self) m) there c.enter.ensures.entered in
    let by : c.actor.result ≡ m.actor = c.actor.ensures ∙ c.in_ok-ticket.ensures.same.1 ∙ sym c.in_ok-ticket.ensures.drew.actor_is in
    let entries : c.push_reserved.new.self.items ≡ c.self.inside.entries.items ++ journal_entry_of m c.in_ok-reply.reply ∷ [] =
    c.push_reserved.ensures.items ∙ (λ i. c.reserve.ensures.items i ++ record { stamp = c.stamp-stamp.ensures i; actor = by i; ask = sym drew.ask_is i; reply = c.in_ok-reply.reply } ∷ []) in
    let again = c.in_err-meet-2.ensures.memory in
    let link_is : seat_link c.meet-2.new.link ≡ l = ap seat_link again.1 ∙ ap link_number c.enter.ensures.same.1 ∙ there in (
      ap link_table again.1 ∙ c.enter.ensures.same.0 ∙ met.same.2 ∙ inv.0,
      subst (λ (x : ℕ × Link). IsLink g.H.Home.links x.0 x.1) (λ i. (sym link_is i, sym step.same i)) inv.1,
      step-order _ _ _ _ _ l actor ask c.in_ok-reply.reply m _ _ _ _ _ _ inv.2 refl refl met.met drew entered (subst (λ (x : HeldLink). AskFits x.rules.shape ask) (sym c.self.view_is) c.requires.fits) c.requires.owned c.requires.next
          (step.legal _ inv.2.stands_for) (step.entered _ inv.2.stands_for) _ step.same entries
          (ap (λ (s : LinkSeat). known_of (seat_link s) (link_view s)) again.1 ∙ ap (λ n. known_of n (link_view c.enter.new.self)) (ap link_number c.enter.ensures.same.1 ∙ there)) (omega (arith, ap (λ (s : LinkSeat). (link_view s).seen) again.1)),
    )

pub invariant_of-self-2 : goal.invariant_of-self-2
invariant_of-self-2 g c =
    let inv = c.self.invariant in
    let met = c.in_ok-meet.ensures in
    let step = c.in_ok-reply.ensures in
    let actor : ActorNo = c.args.pass.now.actor in
    let ask : Ask = c.args.ask.now in
    let m : Mark = c.in_ok-ticket.ticket.mark in
    let l : ℕ = seat_link c.self.inside.seat in
    let there : seat_link c.meet.new.link ≡ l = ap link_number met.same.3 in
    let drew : DrawsMark actor l ask (pass_view c.meet.new.self) (pass_view c.draw.new.self) m =
    subst (λ (x : ActorNo × ℕ). DrawsMark x.0 x.1 ask (pass_view c.meet.new.self) (pass_view c.draw.new.self) m) (λ i. (met.same.1 i, there i)) c.in_ok-ticket.ensures.drew in
    let entered : EntersMark l (link_view c.meet.new.link) (link_view c.enter.new.self) m = subst (λ n. EntersMark n (link_view c.meet.new.link) (link_view c.enter.new.self) m) there c.enter.ensures.entered in
    let by : c.actor.result ≡ m.actor = c.actor.ensures ∙ c.in_ok-ticket.ensures.same.1 ∙ sym c.in_ok-ticket.ensures.drew.actor_is in
    let entries : c.push_reserved.new.self.items ≡ c.self.inside.entries.items ++ journal_entry_of m c.in_ok-reply.reply ∷ [] =
    c.push_reserved.ensures.items ∙ (λ i. c.reserve.ensures.items i ++ record { stamp = c.stamp-stamp.ensures i; actor = by i; ask = sym drew.ask_is i; reply = c.in_ok-reply.reply } ∷ []) in
    let again = c.in_ok-meet-2.ensures in
    let here : seat_link c.enter.new.self ≡ l = ap link_number c.enter.ensures.same.1 ∙ there in
    let link_is : seat_link c.meet-2.new.link ≡ l = ap link_number again.same.3 ∙ here in
    let saw = again.met.saw in (
      again.same.2 ∙ c.enter.ensures.same.0 ∙ met.same.2 ∙ inv.0,
      subst (λ (x : ℕ × Link). IsLink g.H.Home.links x.0 x.1) (λ i. (sym link_is i, sym step.same i)) inv.1,
      step-order _ _ _ _ _ l actor ask c.in_ok-reply.reply m _ _ _ _ _ _ inv.2 refl refl met.met drew entered (subst (λ (x : HeldLink). AskFits x.rules.shape ask) (sym c.self.view_is) c.requires.fits) c.requires.owned c.requires.next
          (step.legal _ inv.2.stands_for) (step.entered _ inv.2.stands_for) _ step.same entries
          (ap (λ (n : LinkNo). known_of (link_number n) (link_view c.meet-2.new.link)) again.same.3 ∙ again.met.keeps ∙ ap (λ n. known_of n (link_view c.enter.new.self)) here) (omega (arith, saw)),
    )

pub returns-clause-acted : goal.returns-clause-acted
returns-clause-acted g c =
    let inv = c.self.invariant in
    let met = c.in_ok-meet.ensures in
    let step = c.in_ok-reply.ensures in
    let actor : ActorNo = c.args.pass.now.actor in
    let ask : Ask = c.args.ask.now in
    let m : Mark = c.in_ok-ticket.ticket.mark in
    let l : ℕ = seat_link c.self.inside.seat in
    let there : seat_link c.meet.new.link ≡ l = ap link_number met.same.3 in
    let drew : DrawsMark actor l ask (pass_view c.meet.new.self) (pass_view c.draw.new.self) m =
    subst (λ (x : ActorNo × ℕ). DrawsMark x.0 x.1 ask (pass_view c.meet.new.self) (pass_view c.draw.new.self) m) (λ i. (met.same.1 i, there i)) c.in_ok-ticket.ensures.drew in
    let entered : EntersMark l (link_view c.meet.new.link) (link_view c.enter.new.self) m = subst (λ n. EntersMark n (link_view c.meet.new.link) (link_view c.enter.new.self) m) there c.enter.ensures.entered in
    let again = c.in_ok-meet-2.ensures in
    let here : seat_link c.enter.new.self ≡ l = ap link_number c.enter.ensures.same.1 ∙ there in
    let met_again : Meets l (pass_view c.draw.new.self) (link_view c.enter.new.self) (pass_view c.meet-2.new.self) (link_view c.meet-2.new.link) =
    subst (λ n. Meets n (pass_view c.draw.new.self) (link_view c.enter.new.self) (pass_view c.meet-2.new.self) (link_view c.meet-2.new.link)) here again.met in
    let e : OwnEntry = record { link = c.link.result; place = c.len.result + 1; stamp = c.stamp-stamp.result; ask = ask; reply = c.in_ok-reply.reply } in
    let long : length c.reserve.new.self.items ≡ length c.self.inside.entries.items = ap length c.reserve.ensures.items in
    let len = c.len.ensures in
    let acted =
    step-acted _ (g.L.LinkStep.stands_for c.step.new.self) _ _ _ l actor ask c.in_ok-reply.reply m _ _ _ _ _ _ inv.2 refl refl met.met drew entered (subst (λ (x : HeldLink). AskFits x.rules.shape ask) (sym c.self.view_is) c.requires.fits) c.requires.owned c.requires.next
    (step.legal _ inv.2.stands_for) (step.entered _ inv.2.stands_for) _ _ e met_again (ap link_number (c.link.ensures ∙ again.same.3) ∙ here) (omega (arith, long, len)) c.stamp-stamp.ensures refl refl in
    subst (λ (x : HeldLink). Acted x.rules x.number actor ask (pass_view c.args.pass.now) (pass_view c.meet-2.new.self) x.entries e) c.self.view_is acted

pub returns-clause-order : goal.returns-clause-order
returns-clause-order g c =
    let after = invariant_of-self-2 g c in
    let again = c.in_ok-meet-2.ensures in
    let k : View = link_view c.meet-2.new.link in
    let v : View = pass_view c.meet-2.new.self in
    let here : seat_link c.enter.new.self ≡ c.args.self.now.number = ap link_number c.enter.ensures.same.1 ∙ ap link_number c.in_ok-meet.ensures.same.3 ∙ ap (λ (x : HeldLink). x.number) c.self.view_is in
    let knows : known_of (seat_link c.meet-2.new.link) k ≡ known_of c.args.self.now.number v =
    ap (λ (n : LinkNo). known_of (link_number n) k) again.same.3 ∙ again.met.keeps ∙ sym again.met.knows ∙ ap (λ n. known_of n v) here in
    subst (AreInOrder g.H.Home.owners (length g.H.Home.links)) knows (order-marks _ _ _ _ after.2)
