use Rattle.std.proofs.Common.{map, sym, ap, ◌∙◌, refl}
use Rattle.shared_network.proofs.Words.{Move, next_of_move, shifted_of}
use Rattle.channel_move.specs.Standing.{move_of}
use Rattle.shared_network.specs.Calls.{reply_in}
use Rattle.shared_network.proofs.CallSteps.SetupUnderWay.{ok-no-err, on-ok}
use Rattle.shared_network.proofs.Held.OtherChannels.{move-others}
use Rattle.shared_network.proofs.CallSteps.MoveGoesOn.{shifting-first, to-below, fits-there, owned-there, next-there, expected-there, fewer-left, shifting-next}
use Rattle.shared_network.proofs.network.Network.shift.Goals as goal

pub loop-link-init : goal.loop-link-init
loop-link-init g c =
    shifting-first g.H.Home.table g.H.Home.owners g.H.Home.links (move_of c.args.mover.now) c.args.pass.now c.args.mover.now refl c.requires.start c.requires.may c.requires.pass

pub step_at-requires-clause-link : goal.step_at-requires-clause-link
step_at-requires-clause-link g c κs within =
    let so = c.loop-link.invariant in
    let asks = ap (λ (m : Move). next_of_move m (map reply_in so.entries)) (sym so.terms) ∙ sym (c.in-Some.ensures.next (map reply_in so.entries) so.stands) in
    to-below _ _ _ _ _ _ _ so c.in-Some.link c.in-Some.ask asks

pub step_at-requires-clause-fits : goal.step_at-requires-clause-fits
step_at-requires-clause-fits g c κs within =
    let so = c.loop-link.invariant in
    let asks = ap (λ (m : Move). next_of_move m (map reply_in so.entries)) (sym so.terms) ∙ sym (c.in-Some.ensures.next (map reply_in so.entries) so.stands) in
    fits-there _ _ _ _ _ _ _ so c.in-Some.link c.in-Some.ask asks

pub step_at-requires-clause-owned : goal.step_at-requires-clause-owned
step_at-requires-clause-owned g c κs within =
    let so = c.loop-link.invariant in
    let asks = ap (λ (m : Move). next_of_move m (map reply_in so.entries)) (sym so.terms) ∙ sym (c.in-Some.ensures.next (map reply_in so.entries) so.stands) in
    owned-there _ _ _ _ _ _ _ so c.in-Some.link c.in-Some.ask asks c.requires.may.owned_leaving c.requires.may.owned_joining

pub step_at-requires-clause-next : goal.step_at-requires-clause-next
step_at-requires-clause-next g c κs within =
    let so = c.loop-link.invariant in
    let asks = ap (λ (m : Move). next_of_move m (map reply_in so.entries)) (sym so.terms) ∙ sym (c.in-Some.ensures.next (map reply_in so.entries) so.stands) in
    next-there _ _ _ _ _ _ _ so c.in-Some.link c.in-Some.ask asks

pub unreachable-requires : goal.unreachable-requires
unreachable-requires g c =
    let so = c.loop-link.invariant in
    let asks = ap (λ (m : Move). next_of_move m (map reply_in so.entries)) (sym so.terms) ∙ sym (c.in-Some.ensures.next (map reply_in so.entries) so.stands) in
    let expected = expected-there _ _ _ _ _ _ _ so c.in-Some.link c.in-Some.ask asks _ c.in_ok-reply.reply c.in_ok-reply.ensures.splits c.requires.may.owned_leaving c.requires.may.owned_joining c.in_ok-reply.ensures.made c.in_ok-reply.ensures.ready c.in_ok-reply.ensures.same in
    ok-no-err c.take.result (c.take.ensures.expected.1 expected) c.if-is_err.ensures.value

pub loop-link-smaller : goal.loop-link-smaller
loop-link-smaller g c =
    let so = c.loop-link.invariant in
    let asks = ap (λ (m : Move). next_of_move m (map reply_in so.entries)) (sym so.terms) ∙ sym (c.in-Some.ensures.next (map reply_in so.entries) so.stands) in
    let expected = expected-there _ _ _ _ _ _ _ so c.in-Some.link c.in-Some.ask asks _ c.in_ok-reply.reply c.in_ok-reply.ensures.splits c.requires.may.owned_leaving c.requires.may.owned_joining c.in_ok-reply.ensures.made c.in_ok-reply.ensures.ready c.in_ok-reply.ensures.same in
    let stands = on-ok c.take.result (c.take.ensures.expected.1 expected) c.take.ensures.taken (map reply_in so.entries) so.stands in
    fewer-left _ _ _ _ _ _ _ so c.in-Some.link c.in-Some.ask asks _ c.in_ok-reply.reply c.in_ok-reply.ensures.splits c.requires.may.owned_leaving c.requires.may.owned_joining c.in_ok-reply.ensures.made c.in_ok-reply.ensures.ready c.in_ok-reply.ensures.same c.take.new.self c.take.ensures.terms stands c.in-Some.ensures.valid

pub loop-link-preserved : goal.loop-link-preserved
loop-link-preserved g c =
    let so = c.loop-link.invariant in
    let asks = ap (λ (m : Move). next_of_move m (map reply_in so.entries)) (sym so.terms) ∙ sym (c.in-Some.ensures.next (map reply_in so.entries) so.stands) in
    let expected = expected-there _ _ _ _ _ _ _ so c.in-Some.link c.in-Some.ask asks _ c.in_ok-reply.reply c.in_ok-reply.ensures.splits c.requires.may.owned_leaving c.requires.may.owned_joining c.in_ok-reply.ensures.made c.in_ok-reply.ensures.ready c.in_ok-reply.ensures.same in
    let stands = on-ok c.take.result (c.take.ensures.expected.1 expected) c.take.ensures.taken (map reply_in so.entries) so.stands in
    shifting-next _ _ _ _ _ _ _ so c.in-Some.link c.in-Some.ask asks _ c.in_ok-reply.reply c.in_ok-reply.ensures.splits c.requires.may.owned_leaving c.requires.may.owned_joining c.in_ok-reply.ensures.made c.in_ok-reply.ensures.ready c.in_ok-reply.ensures.same c.take.new.self c.take.ensures.terms stands c.in-Some.ensures.valid

pub returns-clause-moved : goal.returns-clause-moved
returns-clause-moved g c =
    let so = c.loop-link.invariant in
    let told = ap (λ (m : Move). shifted_of m (map reply_in so.entries)) (sym so.terms) ∙ sym (c.shifted.ensures.shifted (map reply_in so.entries) so.stands) ∙ c.in-Some-shifted.is in
    record {
      shifts = record { entries = so.entries; own = so.own; follows = so.follows; told_is = told; stands = so.stands };
      others = move-others (move_of c.args.mover.now) _ _ so.entries c.requires.may.joining.contract so.own c.requires.may.joining.holds so.follows;
      later = so.later;
      ready = so.goes;
    }
