use Rattle.std.proofs.Common.{◌≡◌, [], ◌∷◌, sym, ap, ◌∙◌, subst, arith}
use Rattle.net_units.specs.Numbers.{actor_number}
use Rattle.step_stamp.specs.declared.views.View.{View}
use Rattle.step_stamp.specs.Rule.{Learnt}
use Rattle.step_stamp.specs.Seats.{Settled}
use Rattle.step_stamp.specs.Views.{settled}
use Rattle.step_stamp.proofs.Closing.{settles, settled-facts}
use Rattle.step_stamp.proofs.ListMembers.{has-first}
use Rattle.step_stamp.proofs.Learning.{learns, fresh-still}
use Rattle.step_stamp.proofs.seats.PassSeat.settle_at.Goals as goal

pub join_seat-requires : goal.join_seat-requires
join_seat-requires g c = (c.requires.this, c.requires.that, c.args.link.free, omega (arith, c.args.stamps.now.words), settles _ _ g.C.Chosen.number (actor_number c.args.self.now.actor) _ _ _ (has-first (actor_number c.args.self.now.actor) _ c.args.self.now.actors) c.args.link.hand (c.args.link.links ∙ ap (λ l. l ∷ []) c.requires.chosen) c.args.link.actors)

pub load-requires : goal.load-requires
load-requires g c = (c.join_seat.ensures.0 ∙ c.requires.this, omega (arith, c.args.stamps.now.words), learns _ _ _ _)

pub returns-clause-joined : goal.returns-clause-joined
returns-clause-joined g c =
    let L = g.C.Chosen.number in
    let v : View = c.args.self.now.seat.me.0 in
    let w : View = c.args.link.seat.me.0 in
    let joined : c.join_seat.new.seat.me.0 ≡ settled L v w = ap (λ m. m.0) c.join_seat.ensures.2 in
    let now : c.load.new.seat.me.0 ≡ settled L v w = ap (λ m. m.0) c.load.ensures.2.0 ∙ joined in
    let facts = settled-facts L v w (c.args.link.links ∙ ap (λ l. l ∷ []) c.requires.chosen) c.args.self.now.among (subst Learnt joined c.load.ensures.2.1) in
    let here : Settled L v w c.load.new.seat.me.0 = subst (λ (x : View). Settled L v w x) (sym now) facts in
    subst (λ l. Settled l v w c.load.new.seat.me.0) (sym c.requires.chosen) here

pub invariant_of-self-clause-fresh : goal.invariant_of-self-clause-fresh
invariant_of-self-clause-fresh g c = λ none.
    let me = c.args.self.now in
    let v : View = me.seat.me.0 in
    let w : View = c.args.link.seat.me.0 in
    let joined : c.join_seat.new.seat.me.0 ≡ settled g.C.Chosen.number v w = ap (λ m. m.0) c.join_seat.ensures.2 in
    fresh-still (actor_number me.actor) me.drawn (settled g.C.Chosen.number v w) c.load.new.seat.me.0 (subst Learnt joined c.load.ensures.2.1) (ap (λ m. m.0) c.load.ensures.2.0 ∙ joined)
    (has-first (actor_number me.actor) v.actors me.actors) me.count none
