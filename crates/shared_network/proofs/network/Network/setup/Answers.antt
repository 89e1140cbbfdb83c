use Rattle.std.proofs.Common.{map, sym, ap, ◌∙◌, arith}
use Rattle.shared_network.proofs.Words.{next_ask, Request}
use Rattle.shared_network.specs.Calls.{reply_in}
use Rattle.shared_network.proofs.CallSteps.SetupUnderWay.{setting-first, to-below, fits-there, owned-there, next-there, expected-there, left-less, setting-next, setup-established, drew-some, ok-no-err, on-ok}
use Rattle.shared_network.proofs.Held.OtherChannels.{setup-others}
use Rattle.shared_network.proofs.network.Network.setup.Goals as goal

pub loop-link-init : goal.loop-link-init
loop-link-init g c = setting-first g.H.Home.table g.H.Home.owners g.H.Home.links c.args.request.now c.args.pass.now c.new-setup.result c.smax.ensures.valid c.len.ensures.valid c.requires.hops c.requires.pass c.requires.new c.new-setup.ensures.request c.new-setup.ensures.stands

pub step_at-requires-clause-link : goal.step_at-requires-clause-link
step_at-requires-clause-link g c κs within =
    let so = c.loop-link.invariant in
    let asks = ap (λ (r : Request). next_ask r (map reply_in so.entries)) (sym so.request_is) ∙ sym (c.in-Some.ensures.next (map reply_in so.entries) so.stands) in
    to-below _ _ _ _ _ _ _ so c.in-Some.link c.in-Some.ask asks

pub step_at-requires-clause-fits : goal.step_at-requires-clause-fits
step_at-requires-clause-fits g c κs within =
    let so = c.loop-link.invariant in
    let asks = ap (λ (r : Request). next_ask r (map reply_in so.entries)) (sym so.request_is) ∙ sym (c.in-Some.ensures.next (map reply_in so.entries) so.stands) in
    fits-there _ _ _ _ _ _ _ so c.in-Some.link c.in-Some.ask asks

pub step_at-requires-clause-owned : goal.step_at-requires-clause-owned
step_at-requires-clause-owned g c κs within =
    let so = c.loop-link.invariant in
    let asks = ap (λ (r : Request). next_ask r (map reply_in so.entries)) (sym so.request_is) ∙ sym (c.in-Some.ensures.next (map reply_in so.entries) so.stands) in
    owned-there _ _ _ _ _ _ _ so c.in-Some.link c.in-Some.ask asks c.requires.owned

pub step_at-requires-clause-next : goal.step_at-requires-clause-next
step_at-requires-clause-next g c κs within =
    let so = c.loop-link.invariant in
    let asks = ap (λ (r : Request). next_ask r (map reply_in so.entries)) (sym so.request_is) ∙ sym (c.in-Some.ensures.next (map reply_in so.entries) so.stands) in
    next-there _ _ _ _ _ _ _ so c.in-Some.link c.in-Some.ask asks

pub unreachable-requires : goal.unreachable-requires
unreachable-requires g c =
    let so = c.loop-link.invariant in
    let asks = ap (λ (r : Request). next_ask r (map reply_in so.entries)) (sym so.request_is) ∙ sym (c.in-Some.ensures.next (map reply_in so.entries) so.stands) in
    let expected = expected-there _ _ _ _ _ _ _ so c.in-Some.link c.in-Some.ask asks _ c.in_ok-reply.reply c.in_ok-reply.ensures.splits c.requires.owned c.in_ok-reply.ensures.made c.in_ok-reply.ensures.ready c.in_ok-reply.ensures.same in
    ok-no-err c.take.result (c.take.ensures.expected.1 expected) c.if-is_err.ensures.value

pub loop-link-smaller : goal.loop-link-smaller
loop-link-smaller g c =
    let so = c.loop-link.invariant in
    let asks = ap (λ (r : Request). next_ask r (map reply_in so.entries)) (sym so.request_is) ∙ sym (c.in-Some.ensures.next (map reply_in so.entries) so.stands) in
    let expected = expected-there _ _ _ _ _ _ _ so c.in-Some.link c.in-Some.ask asks _ c.in_ok-reply.reply c.in_ok-reply.ensures.splits c.requires.owned c.in_ok-reply.ensures.made c.in_ok-reply.ensures.ready c.in_ok-reply.ensures.same in
    let stands = on-ok c.take.result (c.take.ensures.expected.1 expected) c.take.ensures.taken (map reply_in so.entries) so.stands in
    left-less _ _ _ _ _ _ _ so c.in-Some.link c.in-Some.ask asks _ c.in_ok-reply.reply c.in_ok-reply.ensures.splits c.requires.owned c.in_ok-reply.ensures.made c.in_ok-reply.ensures.ready c.in_ok-reply.ensures.same c.take.new.self c.take.ensures.request stands

pub loop-link-preserved : goal.loop-link-preserved
loop-link-preserved g c =
    let so = c.loop-link.invariant in
    let asks = ap (λ (r : Request). next_ask r (map reply_in so.entries)) (sym so.request_is) ∙ sym (c.in-Some.ensures.next (map reply_in so.entries) so.stands) in
    let expected = expected-there _ _ _ _ _ _ _ so c.in-Some.link c.in-Some.ask asks _ c.in_ok-reply.reply c.in_ok-reply.ensures.splits c.requires.owned c.in_ok-reply.ensures.made c.in_ok-reply.ensures.ready c.in_ok-reply.ensures.same in
    let stands = on-ok c.take.result (c.take.ensures.expected.1 expected) c.take.ensures.taken (map reply_in so.entries) so.stands in
    setting-next _ _ _ _ _ _ _ so c.in-Some.link c.in-Some.ask asks _ c.in_ok-reply.reply c.in_ok-reply.ensures.splits c.requires.owned c.in_ok-reply.ensures.made c.in_ok-reply.ensures.ready c.in_ok-reply.ensures.same c.take.new.self c.take.ensures.request stands

pub returns-clause-established : goal.returns-clause-established
returns-clause-established g c = setup-established _ _ _ _ _ _ _ _ c.requires.new c.loop-link.invariant c.in-Some-verdict.ensures.value

pub returns-clause-drew : goal.returns-clause-drew
returns-clause-drew g c =
    let so = c.loop-link.invariant in
    drew-some g.H.Home.table g.H.Home.owners g.H.Home.links _ _ so.entries 32 c.requires.pass so.goes.may_step so.own (let few = so.few in omega (arith, few))

pub returns-clause-others : goal.returns-clause-others
returns-clause-others g c =
    let so = c.loop-link.invariant in
    setup-others c.args.request.now _ _ so.entries so.own so.follows
