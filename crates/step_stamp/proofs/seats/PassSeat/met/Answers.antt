use Rattle.std.proofs.Common.{◌≡◌, length, [], ◌∷◌, refl, sym, ap, ◌∙◌, subst, inl, arith}
use Rattle.std.specs.Prelude.{take}
use Rattle.net_units.specs.Numbers.{actor_number}
use Rattle.step_stamp.specs.declared.views.View.{View}
use Rattle.step_stamp.specs.Lists.{Has}
use Rattle.step_stamp.specs.Rule.{Learnt}
use Rattle.step_stamp.specs.Seats.{Meets}
use Rattle.step_stamp.specs.Views.{shown, entered, taken}
use Rattle.step_stamp.proofs.Learning.{learns, fresh-still}
use Rattle.step_stamp.proofs.ListMembers.{has-first}
use Rattle.step_stamp.proofs.RuleThroughChanges.{acts-live, lists-live}
use Rattle.step_stamp.proofs.Meeting.{shows, meets, takes, met-facts}
use Rattle.step_stamp.proofs.seats.PassSeat.met.Goals as goal

pub split_seat-copy-requires : goal.split_seat-copy-requires
split_seat-copy-requires g c =
    let me = c.args.self.now in
    (c.requires.pass, omega (arith, c.args.stamps.now.words), shows _ _ g.C.Chosen.number _ (acts-live (actor_number me.actor) me.seat.me.0 (has-first (actor_number me.actor) _ me.actors)))

pub join_seat-requires : goal.join_seat-requires
join_seat-requires g c =
    let s = c.split_seat-copy.ensures in
    (c.requires.link, s.3 ∙ c.requires.pass, ap (λ m. m.1) s.4, omega (arith, c.args.stamps.now.words), meets _ _ g.C.Chosen.number _ _ _ (c.args.link.now.links ∙ ap (λ l. l ∷ []) c.requires.link_is) (ap (λ m. m.0.hand) s.4) (ap (λ m. m.0.links) s.4) (ap (λ m. m.0.actors) s.4))

pub load-requires : goal.load-requires
load-requires g c = (c.join_seat.ensures.0 ∙ c.requires.link, omega (arith, c.args.stamps.now.words), learns _ _ _ _)

pub split_seat-back-requires : goal.split_seat-back-requires
split_seat-back-requires g c =
    let L = g.C.Chosen.number in
    let links : c.load.new.seat.me.0.links ≡ L ∷ [] = ap (λ m. m.0.links) c.load.ensures.2.0 ∙ ap (λ m. m.0.links) c.join_seat.ensures.2 ∙ c.args.link.now.links ∙ ap (λ l. l ∷ []) c.requires.link_is in
    (c.load.ensures.0 ∙ c.join_seat.ensures.0 ∙ c.requires.link, omega (arith, c.args.stamps.now.words), shows _ _ L _ (lists-live L c.load.new.seat.me.0 (subst (Has L) (sym links) (inl refl))))

pub join_seat-requires-2 : goal.join_seat-requires-2
join_seat-requires-2 g c =
    let s = c.split_seat-back.ensures in
    let me = c.args.self.now in
    (c.split_seat-copy.ensures.0 ∙ c.requires.pass, s.3 ∙ c.load.ensures.0 ∙ c.join_seat.ensures.0 ∙ c.requires.link, ap (λ m. m.1) s.4, omega (arith, c.args.stamps.now.words), takes _ _ g.C.Chosen.number (actor_number me.actor) _ _ _ (has-first (actor_number me.actor) _ (ap (λ m. take 1 m.0.actors) c.split_seat-copy.ensures.2 ∙ me.actors)) (ap (λ m. m.0.hand) s.4) (ap (λ m. m.0.links) s.4) (ap (λ m. m.0.actors) s.4))

pub load-requires-2 : goal.load-requires-2
load-requires-2 g c = (c.join_seat-2.ensures.0 ∙ c.split_seat-copy.ensures.0 ∙ c.requires.pass, omega (arith, c.args.stamps.now.words), learns _ _ _ _)

pub returns-clause-met : goal.returns-clause-met
returns-clause-met g c =
    let L = g.C.Chosen.number in
    let pass : View = c.args.self.now.seat.me.0 in
    let link : View = c.args.link.now.seat.me.0 in
    let link' = entered L link (shown L pass) in
    let copied = c.split_seat-copy.ensures in
    let joined = c.join_seat.ensures in
    let back = c.split_seat-back.ensures in
    let joined_back = c.join_seat-2.ensures in
    let of_link : c.join_seat.new.seat.me.0 ≡ link' = ap (λ m. m.0) joined.2 ∙ ap (λ m. entered L link m.0) copied.4 in
    let link_learnt : c.load.new.seat.me.0 ≡ link' = ap (λ m. m.0) c.load.ensures.2.0 ∙ of_link in
    let link_now : c.split_seat-back.new.seat.me.0 ≡ link' = ap (λ m. m.0) back.2 ∙ link_learnt in
    let of_pass : c.join_seat-2.new.seat.me.0 ≡ taken L pass (shown L link') =
    ap (λ m. m.0) joined_back.2 ∙ ap (λ m. taken L m.0 c.split_seat-back.result.me.0) copied.2 ∙ ap (λ m. taken L pass m.0) back.4 ∙ ap (λ (x : View). taken L pass (shown L x)) link_learnt in
    let pass_now : c.load-2.new.seat.me.0 ≡ taken L pass (shown L link') = ap (λ m. m.0) c.load-2.ensures.2.0 ∙ of_pass in
    let links = c.args.link.now.links ∙ ap (λ l. l ∷ []) c.requires.link_is in
    let facts = met-facts L pass link links (subst Learnt of_link c.load.ensures.2.1) (subst Learnt of_pass c.load-2.ensures.2.1) in
    let here : Meets L pass link c.load-2.new.seat.me.0 c.split_seat-back.new.seat.me.0 = subst (λ (x : View × View). Meets L pass link x.0 x.1) (λ i. (sym pass_now i, sym link_now i)) facts in
    subst (λ l. Meets l pass link c.load-2.new.seat.me.0 c.split_seat-back.new.seat.me.0) (sym c.requires.link_is) here

pub invariant_of-self-clause-fresh : goal.invariant_of-self-clause-fresh
invariant_of-self-clause-fresh g c = λ none.
    let me = c.args.self.now in
    let joined = ap (λ m. m.0) c.join_seat-2.ensures.2 in
    let copied = ap (λ m. m.0) c.split_seat-copy.ensures.2 in
    let actors = ap (λ (x : View). x.actors) joined ∙ ap (λ (x : View). x.actors) copied in
    let drawn = ap (λ (x : View). x.drawn) joined ∙ ap (λ (x : View). x.drawn) copied in
    fresh-still (actor_number me.actor) me.drawn c.join_seat-2.new.seat.me.0 c.load-2.new.seat.me.0 c.load-2.ensures.2.1 (ap (λ m. m.0) c.load-2.ensures.2.0)
    (has-first (actor_number me.actor) _ (ap (take 1) actors ∙ me.actors)) (me.count ∙ sym (ap length drawn)) none
