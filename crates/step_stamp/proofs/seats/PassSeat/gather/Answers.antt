use Rattle.std.proofs.Common.{◌≡◌, ◌+◌, length-append, sym, ap, ◌∙◌, subst, arith}
use Rattle.net_units.specs.Numbers.{actor_number}
use Rattle.step_stamp.specs.declared.views.View.{View}
use Rattle.step_stamp.specs.Rule.{Learnt}
use Rattle.step_stamp.specs.Seats.{Gathered}
use Rattle.step_stamp.specs.Views.{gathered}
use Rattle.step_stamp.proofs.Closing.{gathers, gathered-facts}
use Rattle.step_stamp.proofs.ListMembers.{has-first, has-left}
use Rattle.step_stamp.proofs.Learning.{learns, fresh-still}
use Rattle.step_stamp.proofs.seats.PassSeat.gather.Goals as goal

pub join_seat-requires : goal.join_seat-requires
join_seat-requires c = (c.requires.this, c.requires.that, c.args.other.free, omega (arith, c.args.stamps.now.words), gathers _ _ (actor_number c.args.self.now.actor) _ _ _ (has-first (actor_number c.args.self.now.actor) _ c.args.self.now.actors) c.args.other.hand)

pub load-requires : goal.load-requires
load-requires c = (c.join_seat.ensures.0 ∙ c.requires.this, omega (arith, c.args.stamps.now.words), learns _ _ _ _)

pub returns-clause-joined : goal.returns-clause-joined
returns-clause-joined c =
    let v : View = c.args.self.now.seat.me.0 in
    let w : View = c.args.other.seat.me.0 in
    let joined : c.join_seat.new.seat.me.0 ≡ gathered v w = ap (λ m. m.0) c.join_seat.ensures.2 in
    let now : c.load.new.seat.me.0 ≡ gathered v w = ap (λ m. m.0) c.load.ensures.2.0 ∙ joined in
    subst (λ (x : View). Gathered v w x) (sym now) (gathered-facts v w (subst Learnt joined c.load.ensures.2.1))

pub invariant_of-self-clause-fresh : goal.invariant_of-self-clause-fresh
invariant_of-self-clause-fresh c = λ none.
    let me = c.args.self.now in
    let other = c.args.other in
    let v : View = me.seat.me.0 in
    let w : View = other.seat.me.0 in
    let joined : c.join_seat.new.seat.me.0 ≡ gathered v w = ap (λ m. m.0) c.join_seat.ensures.2 in
    fresh-still (actor_number me.actor) (me.drawn + other.drawn) (gathered v w) c.load.new.seat.me.0 (subst Learnt joined c.load.ensures.2.1) (ap (λ m. m.0) c.load.ensures.2.0 ∙ joined)
    (has-left (actor_number me.actor) v.actors w.actors (has-first (actor_number me.actor) v.actors me.actors)) (omega (arith, me.count, other.count, length-append v.drawn w.drawn)) (omega (arith, none))
