use Rattle.std.proofs.Common.{◌≡◌, [], ◌∷◌, sym, ap, ◌∙◌, subst, arith}
use Rattle.net_units.specs.Numbers.{link_number}
use Rattle.step_stamp.specs.declared.views.View.{View}
use Rattle.step_stamp.specs.Marks.{drawn_for}
use Rattle.step_stamp.specs.Seats.{EntersMark}
use Rattle.step_stamp.specs.Views.{entered}
use Rattle.step_stamp.proofs.Entering.{enters, entered-facts}
use Rattle.step_stamp.proofs.seats.LinkSeat.entered_at.Goals as goal

pub join_seat-requires : goal.join_seat-requires
join_seat-requires g c =
    let me = c.args.self.now in
    let t = c.args.ticket in
    let same : link_number t.link ≡ g.C.Chosen.number = c.requires.link_is ∙ c.requires.chosen in
    (c.requires.link, c.requires.ticket, t.free, omega (arith, c.args.stamps.now.words), enters _ _ g.C.Chosen.number _ _ _ t.mark (me.links ∙ ap (λ l. l ∷ []) c.requires.chosen) (t.hand ∙ ap (λ l. drawn_for l t.mark ∷ []) same) t.links t.actors c.requires.above (omega (arith, t.saw)))

pub returns-clause-entered : goal.returns-clause-entered
returns-clause-entered g c =
    let L = g.C.Chosen.number in
    let k : View = c.args.self.now.seat.me.0 in
    let t = c.args.ticket in
    let same : link_number t.link ≡ L = c.requires.link_is ∙ c.requires.chosen in
    let facts = entered-facts L k t.seat.me.0 t.mark (t.hand ∙ ap (λ l. drawn_for l t.mark ∷ []) same) t.saw c.requires.above in
    let is : c.join_seat.new.seat.me.0 ≡ entered L k t.seat.me.0 = ap (λ m. m.0) c.join_seat.ensures.2 in
    subst (λ l. EntersMark l k c.join_seat.new.seat.me.0 t.mark) (sym c.requires.chosen) (subst (λ (x : View). EntersMark L k x t.mark) (sym is) facts)
