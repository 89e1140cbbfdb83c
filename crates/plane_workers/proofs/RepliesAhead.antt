-- The steps of a window, in the order in which the plane asks: each reply that is left is the one of the plane's next step.
use Rattle.std.proofs.Common.{◌≡◌, ◌≢◌, ℕ, ◌+◌, ◌<◌, ◌≤◌, List, [], ◌∷◌, length, Some, refl, sym, ap, ◌∙◌, subst, inl, inr, arith}
use Rattle.std.proofs.lemmas.Bool.{cases_Bool, eqb-true, eqb-false}
use Rattle.std.proofs.lemmas.Option.{same_Some, slice_get_within}
use Rattle.std.specs.List.{slice_get}
use Rattle.std.specs.Prelude.{nat_eq}
use Rattle.net_units.specs.Numbers.{link_number, actor_number}
use Rattle.link_steps.specs.Lists.{Each}
use Rattle.link_steps.specs.Replies.{reply_to}
use Rattle.link_steps.specs.Split.{Link}
use Rattle.link_steps.specs.declared.asks.Ask.{Ask}
use Rattle.link_steps.specs.declared.replies.Entry.{Entry}
use Rattle.link_steps.specs.declared.replies.Reply.{Reply}
use Rattle.link_steps.specs.declared.replies.Reply.TheVariants.{Denied}
use Rattle.call_script.specs.Fits.{NetworkFits}
use Rattle.call_script.specs.Tasks.{Network}
use Rattle.tick_plane.specs.Planes.{Plane, flight_in, plane_ask, plane_after}
use Rattle.tick_plane.specs.Windows.{window_at}
use Rattle.tick_plane.specs.declared.flight.Flight.{Flight}
use Rattle.tick_plane.proofs.AskedInWindow.{WindowGoes, IsLate, window-goes, window-over}
use Rattle.run_record.specs.Runs.{part_of}
use Rattle.run_record.specs.declared.done.Done.{Done}
use Rattle.run_engine.specs.runs.Runs.{plane_no, plane_at, IsNext, IsRun}
use Rattle.run_engine.proofs.Runs.RunLegal.{asked-plane, part-on, part-off, plane-by, run-stands}
use Rattle.plane_workers.specs.Answered.{answered, replies_along, IsAnswered}
use Rattle.plane_workers.specs.Windows.{LinksKept, LinkIsAhead, LinksAhead, KeepsGap}
use Rattle.run_engine.proofs.Keeping.Lookups.{head-same, tail-same}

each-late : (until from : ℕ) (flights : List Flight) → until ≤ from + 1 → Each (λ f. from < f.round) flights → Each (λ f. until ≤ f.round) flights
each-late until from [] within each = tt
each-late until from (f ∷ fs) within each = ((let first = each.0 in omega (arith, first, within)), each-late until from fs within each.1)

pub first-reply : (link : Link) (h : List Entry) (ask : Ask) (asks : List Ask) → replies_along link h (ask ∷ asks) ≡ reply_to link h ask ∷ replies_along link (record { ask = ask; reply = reply_to link h ask } ∷ h) asks
unfolding replies_along
first-reply link h ask asks = refl

first-answered : (link : Link) (h : List Entry) (ask : Ask) (asks : List Ask) → answered link h (ask ∷ asks) ≡ answered link (record { ask = ask; reply = reply_to link h ask } ∷ h) asks
unfolding answered
first-answered link h ask asks = refl

-- the first ask is answered
pub ahead-head : (link : Link) (stands : List Entry → Type 0) (left rest : List Reply) (h : List Entry) (ask : Ask) (asks asks' : List Ask) (reply : Reply) → LinkIsAhead link stands left h asks → asks ≡ ask ∷ asks' → left ≡ reply ∷ rest → reply ≡ reply_to link h ask
ahead-head link stands left rest h ask asks asks' reply is first told = head-same reply rest (reply_to link h ask) _ (sym told ∙ is.replied ∙ ap (replies_along link h) first ∙ first-reply link h ask asks')

pub ahead-tail : (link : Link) (stands : List Entry → Type 0) (left rest : List Reply) (h : List Entry) (ask : Ask) (asks asks' : List Ask) (reply : Reply) → LinkIsAhead link stands left h asks → asks ≡ ask ∷ asks' → left ≡ reply ∷ rest → LinkIsAhead link stands rest (record { ask = ask; reply = reply } ∷ h) asks'
ahead-tail link stands left rest h ask asks asks' reply is first told =
    let same = ahead-head link stands left rest h ask asks asks' reply is first told in
    subst (λ r. LinkIsAhead link stands rest (record { ask = ask; reply = r } ∷ h) asks') (sym same)
    (record {
      stands_on = subst stands (ap (answered link h) first ∙ first-answered link h ask asks') is.stands_on;
      replied = tail-same reply rest (reply_to link h ask) _ (sym told ∙ is.replied ∙ ap (replies_along link h) first ∙ first-reply link h ask asks');
    })

module _ {X : Type 0} (rules : X → Link) (stands : X → List Entry → Type 0) (left : X → List Reply) (network : Network) (fits : NetworkFits network) (until : ℕ) where
  -- one step of the plane
  pub record WindowStep (links : List X) (past : List Done) (done : Done) : Type 0 where
    pub next : IsNext network past done
    pub on : LinksAhead rules stands left network until links (done ∷ past)

  module _ (gap : ℕ) (keeps : KeepsGap network gap) (old new : List X) (past : List Done) (done : Done) (x y : X) (run : IsRun network past) (ahead : LinksAhead rules stands left network until old past) (by : actor_number done.actor ≡ plane_no network) (early : (plane_at network past).round < until) (near : until ≤ (plane_at network past).round + gap + 1)
      (asked : plane_ask network.rounds (plane_at network past) ≡ Some (done.link, done.ask)) (found : slice_get old (link_number done.link) ≡ Some x) (told : left x ≡ done.reply ∷ left y) where
    abbrev plane : Plane
    plane = plane_at network past

    few : length network.links ≤ 32
    few = fits.few

    some : plane.ticked < length network.links
    some = (run-stands network past fits run).ticked

    inside : link_number done.link < length network.links
    inside = slice_get_within network.links (link_number done.link) (rules x) (ahead.linked (link_number done.link) x found)

    goes : (n : ℕ) → n < length network.links → (reply : Reply) → IsLate until reply → WindowGoes n until plane (plane_after (length network.links) reply plane) done.link done.ask
    goes n within reply late = window-goes n (length network.links) network.rounds until plane done.link done.ask reply few some within early asked late

    is : LinkIsAhead (rules x) (stands x) (left x) (part_of (link_number done.link) past) (window_at (link_number done.link) until plane)
    is = ahead.ahead (link_number done.link) x found

    answers : done.reply ≡ reply_to (rules x) (part_of (link_number done.link) past) done.ask
    answers = ahead-head (rules x) (stands x) (left x) (left y) (part_of (link_number done.link) past) done.ask _ _ done.reply is ((goes (link_number done.link) inside Denied tt).own refl) told

    pub step-next : IsNext network past done
    step-next = record { link = rules x; linked = ahead.linked (link_number done.link) x found; asked = asked-plane network (actor_number done.actor) past by ∙ asked; answered = answers }

    late : IsLate until done.reply
    late = each-late until (plane.round + gap) (flight_in done.reply) near (keeps past done run step-next by)

    after : plane_at network (done ∷ past) ≡ plane_after (length network.links) done.reply plane
    after = plane-by network done past by

    own-ahead : rules y ≡ rules x → ((h : List Entry) → stands x h → stands y h) → LinkIsAhead (rules y) (stands y) (left y) (part_of (link_number done.link) (done ∷ past)) (window_at (link_number done.link) until (plane_at network (done ∷ past)))
    own-ahead same stay =
        let tail = ahead-tail (rules x) (stands x) (left x) (left y) (part_of (link_number done.link) past) done.ask _ _ done.reply is ((goes (link_number done.link) inside done.reply late).own refl) told in
        subst (λ p. LinkIsAhead (rules y) (stands y) (left y) (part_of (link_number done.link) (done ∷ past)) (window_at (link_number done.link) until p)) (sym after)
        (subst (λ h. LinkIsAhead (rules y) (stands y) (left y) h (window_at (link_number done.link) until (plane_after (length network.links) done.reply plane))) (sym (part-on (link_number done.link) done past refl))
        (subst (λ r. LinkIsAhead r (stands y) (left y) (record { ask = done.ask; reply = done.reply } ∷ part_of (link_number done.link) past) (window_at (link_number done.link) until (plane_after (length network.links) done.reply plane))) (sym same)
        (record { stands_on = stay _ tail.stands_on; replied = tail.replied })))

    other-ahead : (n : ℕ) (z : X) → n ≢ link_number done.link → slice_get old n ≡ Some z → LinkIsAhead (rules z) (stands z) (left z) (part_of n (done ∷ past)) (window_at n until (plane_at network (done ∷ past)))
    other-ahead n z off at =
        let within = slice_get_within network.links n (rules z) (ahead.linked n z at) in
        let same : window_at n until plane ≡ window_at n until (plane_at network (done ∷ past)) = (goes n within done.reply late).other (λ is. off (sym is)) ∙ ap (window_at n until) (sym after) in
        subst (λ asks. LinkIsAhead (rules z) (stands z) (left z) (part_of n (done ∷ past)) asks) same
        (subst (λ h. LinkIsAhead (rules z) (stands z) (left z) h (window_at n until plane)) (sym (part-off n done past (λ is. off (sym is)))) (ahead.ahead n z at))

    pub step-ahead : length new ≡ length old → ((n : ℕ) → n ≢ link_number done.link → slice_get new n ≡ slice_get old n) → slice_get new (link_number done.link) ≡ Some y → rules y ≡ rules x → ((h : List Entry) → stands x h → stands y h) → LinksAhead rules stands left network until new (done ∷ past)
    step-ahead long others own same stay = record {
      same = long ∙ ahead.same;
      linked = λ n z at.
          elim (cases_Bool (nat_eq n (link_number done.link))) [
            | inl on ↦
                (let here = eqb-true n (link_number done.link) on in
                let is-y : z ≡ y = same_Some z y (sym at ∙ ap (slice_get new) here ∙ own) in
                ap (slice_get network.links) here ∙ ahead.linked (link_number done.link) x found ∙ ap Some (sym same ∙ ap rules (sym is-y)))
            | inr off ↦ ahead.linked n z (sym (others n (eqb-false n (link_number done.link) off)) ∙ at)
          ];
      ahead = λ n z at.
          elim (cases_Bool (nat_eq n (link_number done.link))) [
            | inl on ↦
                (let here = eqb-true n (link_number done.link) on in
                let is-y : z ≡ y = same_Some z y (sym at ∙ ap (slice_get new) here ∙ own) in
                subst (λ (w : ℕ × X). LinkIsAhead (rules w.1) (stands w.1) (left w.1) (part_of w.0 (done ∷ past)) (window_at w.0 until (plane_at network (done ∷ past)))) (λ i. (sym here i, sym is-y i)) (own-ahead same stay))
            | inr off ↦ other-ahead n z (eqb-false n (link_number done.link) off) (sym (others n (eqb-false n (link_number done.link) off)) ∙ at)
          ];
    }

  -- the window begins where each link has answered what it is asked in it
  pub ahead-begins : (old new : List X) (run : List Done) → LinksKept rules stands network.links old run → length new ≡ length old
      → ((n : ℕ) (x y : X) → slice_get old n ≡ Some x → slice_get new n ≡ Some y → IsAnswered rules stands x y (window_at n until (plane_at network run)) (left y))
      → ((n : ℕ) (y : X) → slice_get new n ≡ Some y → (x : X) × (slice_get old n ≡ Some x)) → LinksAhead rules stands left network until new run
  ahead-begins old new run kept long made was = record {
    same = long ∙ kept.same;
    linked = λ n y at. (let x = was n y at in kept.linked n x.0 x.1 ∙ ap Some (sym (made n x.0 y x.1 at).same));
    ahead = λ n y at.
        (let x = was n y at in
        let is = made n x.0 y x.1 at in
        subst (λ r. LinkIsAhead r (stands y) (left y) (part_of n run) (window_at n until (plane_at network run))) (sym is.same)
        (record { stands_on = is.stands_on (part_of n run) (kept.parts n x.0 x.1); replied = is.replied (part_of n run) (kept.parts n x.0 x.1) }));
  }

  -- and is over where the plane has come to its end
  pub ahead-over : (links : List X) (run : List Done) → LinksAhead rules stands left network until links run → until ≤ (plane_at network run).round → LinksKept rules stands network.links links run
  unfolding answered
  ahead-over links run ahead over = record {
    same = ahead.same;
    linked = ahead.linked;
    parts = λ n x at. subst (λ asks. stands x (answered (rules x) (part_of n run) asks)) (window-over n until (plane_at network run) over) (ahead.ahead n x at).stands_on;
  }
