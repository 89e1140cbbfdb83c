use Rattle.std.proofs.Common.{map, sym, ap, ◌∙◌, arith}
use Rattle.shared_network.proofs.Words.{Some, next_release}
use Rattle.std.specs.Option.{unwrap_or}
use Rattle.shared_network.specs.Calls.{reply_in}
use Rattle.shared_network.proofs.CallSteps.SetupUnderWay.{drew-some, ok-no-err, on-ok}
use Rattle.shared_network.proofs.Held.OtherChannels.{teardown-others}
use Rattle.shared_network.proofs.CallSteps.TeardownGoesOn.{tearing-first, to-below, fits-there, owned-there, next-there, closing-there, made-more, tearing-next}
use Rattle.shared_network.proofs.network.Network.teardown.Goals as goal

pub loop-link-init : goal.loop-link-init
loop-link-init g c = tearing-first g.H.Home.table g.H.Home.owners g.H.Home.links c.args.request.now c.args.pass.now c.new-teardown.result c.len-valid.ensures.valid c.requires.hops c.requires.pass c.requires.established c.new-teardown.ensures.chan c.new-teardown.ensures.route c.new-teardown.ensures.stands

pub step_at-requires-clause-link : goal.step_at-requires-clause-link
step_at-requires-clause-link g c κs within =
    let so = c.loop-link.invariant in
    let asks = (λ i. next_release (sym so.chan_is i) (sym so.route_is i) (map reply_in so.entries)) ∙ sym (c.in-Some.ensures.next (map reply_in so.entries) so.releases) in
    to-below _ _ _ _ _ _ _ _ so c.in-Some.link c.in-Some.ask asks

pub step_at-requires-clause-fits : goal.step_at-requires-clause-fits
step_at-requires-clause-fits g c κs within =
    let so = c.loop-link.invariant in
    let asks = (λ i. next_release (sym so.chan_is i) (sym so.route_is i) (map reply_in so.entries)) ∙ sym (c.in-Some.ensures.next (map reply_in so.entries) so.releases) in
    fits-there _ _ _ _ _ _ _ _ so c.in-Some.link c.in-Some.ask asks

pub step_at-requires-clause-owned : goal.step_at-requires-clause-owned
step_at-requires-clause-owned g c κs within =
    let so = c.loop-link.invariant in
    let asks = (λ i. next_release (sym so.chan_is i) (sym so.route_is i) (map reply_in so.entries)) ∙ sym (c.in-Some.ensures.next (map reply_in so.entries) so.releases) in
    owned-there _ _ _ _ _ _ _ _ so c.in-Some.link c.in-Some.ask asks c.requires.owned

pub step_at-requires-clause-next : goal.step_at-requires-clause-next
step_at-requires-clause-next g c κs within =
    let so = c.loop-link.invariant in
    let asks = (λ i. next_release (sym so.chan_is i) (sym so.route_is i) (map reply_in so.entries)) ∙ sym (c.in-Some.ensures.next (map reply_in so.entries) so.releases) in
    next-there _ _ _ _ _ _ _ _ so c.in-Some.link c.in-Some.ask asks

pub unreachable-requires : goal.unreachable-requires
unreachable-requires g c =
    let so = c.loop-link.invariant in
    let asks = (λ i. next_release (sym so.chan_is i) (sym so.route_is i) (map reply_in so.entries)) ∙ sym (c.in-Some.ensures.next (map reply_in so.entries) so.releases) in
    let expected = closing-there _ _ _ _ _ _ _ _ so c.in-Some.link c.in-Some.ask asks _ c.in_ok-reply.reply c.in_ok-reply.ensures.splits c.requires.owned c.in_ok-reply.ensures.made c.in_ok-reply.ensures.ready c.in_ok-reply.ensures.same in
    ok-no-err c.take.result (c.take.ensures.expected.1 expected) c.if-is_err.ensures.value

pub loop-link-smaller : goal.loop-link-smaller
loop-link-smaller g c =
    let so = c.loop-link.invariant in
    let asks = (λ i. next_release (sym so.chan_is i) (sym so.route_is i) (map reply_in so.entries)) ∙ sym (c.in-Some.ensures.next (map reply_in so.entries) so.releases) in
    let expected = closing-there _ _ _ _ _ _ _ _ so c.in-Some.link c.in-Some.ask asks _ c.in_ok-reply.reply c.in_ok-reply.ensures.splits c.requires.owned c.in_ok-reply.ensures.made c.in_ok-reply.ensures.ready c.in_ok-reply.ensures.same in
    let stands = on-ok c.take.result (c.take.ensures.expected.1 expected) c.take.ensures.taken (map reply_in so.entries) so.releases in
    made-more _ _ _ _ _ _ _ _ so c.in-Some.link c.in-Some.ask asks _ c.in_ok-reply.reply c.in_ok-reply.ensures.splits c.requires.owned c.in_ok-reply.ensures.made c.in_ok-reply.ensures.ready c.in_ok-reply.ensures.same c.take.new.self c.take.ensures.chan c.take.ensures.route stands

pub loop-link-preserved : goal.loop-link-preserved
loop-link-preserved g c =
    let so = c.loop-link.invariant in
    let asks = (λ i. next_release (sym so.chan_is i) (sym so.route_is i) (map reply_in so.entries)) ∙ sym (c.in-Some.ensures.next (map reply_in so.entries) so.releases) in
    let expected = closing-there _ _ _ _ _ _ _ _ so c.in-Some.link c.in-Some.ask asks _ c.in_ok-reply.reply c.in_ok-reply.ensures.splits c.requires.owned c.in_ok-reply.ensures.made c.in_ok-reply.ensures.ready c.in_ok-reply.ensures.same in
    let stands = on-ok c.take.result (c.take.ensures.expected.1 expected) c.take.ensures.taken (map reply_in so.entries) so.releases in
    tearing-next _ _ _ _ _ _ _ _ so c.in-Some.link c.in-Some.ask asks _ c.in_ok-reply.reply c.in_ok-reply.ensures.splits c.requires.owned c.in_ok-reply.ensures.made c.in_ok-reply.ensures.ready c.in_ok-reply.ensures.same c.take.new.self c.take.ensures.chan c.take.ensures.route stands _ (ap (λ n. Some n) (c.unwrap_or.ensures ∙ ap (unwrap_or c.loop-link.count) c.count_told.ensures))

pub returns-clause-drew : goal.returns-clause-drew
returns-clause-drew g c =
    let so = c.loop-link.invariant in
    drew-some g.H.Home.table g.H.Home.owners g.H.Home.links _ _ so.entries 16 c.requires.pass so.goes.may_step so.own (let few = so.few in let most = so.route.most in omega (arith, few, most))

pub returns-clause-others : goal.returns-clause-others
returns-clause-others g c =
    let so = c.loop-link.invariant in
    teardown-others c.args.request.now _ _ so.entries so.own so.follows
