use Rattle.std.proofs.Common.{refl, ap, ◌∙◌, arith}
use Rattle.std.specs.Prelude.{take}
use Rattle.net_units.specs.Numbers.{link_number, actor_number}
use Rattle.step_stamp.proofs.ListMembers.{has-first}
use Rattle.step_stamp.proofs.Drawing.{draws}
use Rattle.step_stamp.proofs.Entering.{hands-over}
use Rattle.step_stamp.proofs.seats.PassSeat.drawn_at.Goals as goal

pub fetch_add-found-requires : goal.fetch_add-found-requires
fetch_add-found-requires g c =
    let me = c.args.self.now in
    (c.requires.pass, omega (arith, c.args.stamps.now.words), draws _ _ _ (link_number c.args.link) (actor_number me.actor) _ g.C.Chosen.draws (λ n. record { stamp = n; actor = me.actor; ask = c.args.ask.now }) c.requires.draws (λ n. refl) (λ n. refl) (has-first (actor_number me.actor) me.seat.me.0.actors me.actors) c.requires.few)

pub split_seat-seat-requires : goal.split_seat-seat-requires
split_seat-seat-requires g c =
    let me = c.args.self.now in
    (c.fetch_add-found.ensures.0 ∙ c.requires.pass, omega (arith, c.args.stamps.now.words), hands-over _ _ g.C.Chosen.number (actor_number me.actor) _ (has-first (actor_number me.actor) _ (ap (λ m. take 1 m.0.actors) c.fetch_add-found.ensures.2.0 ∙ me.actors)))
