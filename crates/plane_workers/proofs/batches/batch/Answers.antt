-- Each link answers its own asks, and the replies are told in the order of the asks.
use Rattle.std.proofs.Common.{◌≡◌, ℕ, ◌<◌, ◌^◌, List, length, map, drop, Some, refl, sym, ap, ◌∙◌, subst, arith}
use Rattle.std.proofs.lemmas.List.{with_items_is, length-map}
use Rattle.std.specs.List.{slice_get}
use Rattle.std.specs.Vec.{with_items}
use Rattle.net_units.specs.Numbers.{link_number}
use Rattle.net_units.specs.declared.numbers.LinkNo.{LinkNo}
use Rattle.link_steps.specs.Lists.{Each}
use Rattle.link_steps.specs.declared.asks.Ask.{Ask}
use Rattle.link_steps.proofs.ListParts.{Each-at}
use Rattle.plane_workers.specs.Answered.{IsAnswered}
use Rattle.plane_workers.specs.Batches.{AreAhead, own_asks}
use Rattle.plane_workers.specs.Desks.{rules_at, stands_at, left_at}
use Rattle.plane_workers.specs.declared.desk.Desk.{Desk}
use Rattle.plane_workers.proofs.BatchReplies.{HasAll, desk-link, batch-has, batch-rules, batch-begins, link-of}
use Rattle.plane_workers.proofs.batches.batch.Goals as goal

pub answer_batch-requires-clause-fits : goal.answer_batch-requires-clause-fits
answer_batch-requires-clause-fits g c κs within = λ n desk found.
    let old : List (Desk g.row.L.Denot) = c.deref_mut.result.now in
    let are : map (λ (d : Desk g.row.L.Denot). d.link) c.deref_mut.result.now ≡ c.args.links.items = ap (map (λ (d : Desk g.row.L.Denot). d.link)) c.deref_mut.ensures.value ∙ c.in_ok-desks.ensures in
    c.requires.fits n desk.link (desk-link (λ (d : Desk g.row.L.Denot). d.link) g.L.LinkStep.link_of g.L.LinkStep.stands_for left_at c.args.links.items c.deref_mut.result.now c.deref_mut.result.now c.args.asks.now are n desk found)

pub answer_batch-requires-clause-early : goal.answer_batch-requires-clause-early
answer_batch-requires-clause-early g c κs within = λ n desk found.
    let old : List (Desk g.row.L.Denot) = c.deref_mut.result.now in
    let are : map (λ (d : Desk g.row.L.Denot). d.link) c.deref_mut.result.now ≡ c.args.links.items = ap (map (λ (d : Desk g.row.L.Denot). d.link)) c.deref_mut.ensures.value ∙ c.in_ok-desks.ensures in
    Each-at (λ link. g.L.LinkStep.clock_at link < 2 ^ 60) c.args.links.items n desk.link c.requires.early (desk-link (λ (d : Desk g.row.L.Denot). d.link) g.L.LinkStep.link_of g.L.LinkStep.stands_for left_at c.args.links.items c.deref_mut.result.now c.deref_mut.result.now c.args.asks.now are n desk found)

pub gather-requires-clause-among : goal.gather-requires-clause-among
gather-requires-clause-among g c =
    let old : List (Desk g.row.L.Denot) = c.deref_mut.result.now in
    let are : map (λ (d : Desk g.row.L.Denot). d.link) c.deref_mut.result.now ≡ c.args.links.items = ap (map (λ (d : Desk g.row.L.Denot). d.link)) c.deref_mut.ensures.value ∙ c.in_ok-desks.ensures in
    let held' : length c.answer_batch.new.desks ≡ c.in_ok-desks.desks.len = (let long = c.answer_batch.ensures.long in let own = c.in_ok-desks.desks.ok.0 in let value = ap length c.deref_mut.ensures.value in omega (arith, long, own, value)) in
    let now : c.deref_mut-2.result.now ≡ c.answer_batch.new.desks = c.deref_mut-2.ensures.value ∙ with_items_is c.in_ok-desks.desks c.answer_batch.new.desks held' in
    let seen : c.deref.result.now ≡ c.answer_batch.new.desks = c.deref.ensures.value ∙ with_items_is c.in_ok-desks.desks c.answer_batch.new.desks held' in
    let answers : (n : ℕ) (x y : Desk g.row.L.Denot) → slice_get c.deref_mut.result.now n ≡ Some x → slice_get c.answer_batch.new.desks n ≡ Some y → IsAnswered g.L.LinkStep.link_of g.L.LinkStep.stands_for x.link y.link (own_asks n c.args.asks.now) (drop y.told y.replies.items) =
    λ n x y found after. c.answer_batch.ensures.answered n x y found after (c.if-any_wanted.ensures refl n y (ap (λ ds. slice_get ds n) seen ∙ after)) in
    let long : length c.args.links.items ≡ length c.deref_mut-2.result.now = ap length (sym are) ∙ length-map c.deref_mut.result.now (λ (d : Desk g.row.L.Denot). d.link) ∙ sym c.answer_batch.ensures.long ∙ ap length (sym now) in
    subst (λ (k : ℕ). Each (λ (t : LinkNo × Ask). link_number t.0 < k) c.args.asks.now) long c.requires.among

pub gather-requires-clause-has : goal.gather-requires-clause-has
gather-requires-clause-has g c =
    let old : List (Desk g.row.L.Denot) = c.deref_mut.result.now in
    let are : map (λ (d : Desk g.row.L.Denot). d.link) c.deref_mut.result.now ≡ c.args.links.items = ap (map (λ (d : Desk g.row.L.Denot). d.link)) c.deref_mut.ensures.value ∙ c.in_ok-desks.ensures in
    let held' : length c.answer_batch.new.desks ≡ c.in_ok-desks.desks.len = (let long = c.answer_batch.ensures.long in let own = c.in_ok-desks.desks.ok.0 in let value = ap length c.deref_mut.ensures.value in omega (arith, long, own, value)) in
    let now : c.deref_mut-2.result.now ≡ c.answer_batch.new.desks = c.deref_mut-2.ensures.value ∙ with_items_is c.in_ok-desks.desks c.answer_batch.new.desks held' in
    let seen : c.deref.result.now ≡ c.answer_batch.new.desks = c.deref.ensures.value ∙ with_items_is c.in_ok-desks.desks c.answer_batch.new.desks held' in
    let answers : (n : ℕ) (x y : Desk g.row.L.Denot) → slice_get c.deref_mut.result.now n ≡ Some x → slice_get c.answer_batch.new.desks n ≡ Some y → IsAnswered g.L.LinkStep.link_of g.L.LinkStep.stands_for x.link y.link (own_asks n c.args.asks.now) (drop y.told y.replies.items) =
    λ n x y found after. c.answer_batch.ensures.answered n x y found after (c.if-any_wanted.ensures refl n y (ap (λ ds. slice_get ds n) seen ∙ after)) in
    subst (HasAll left_at c.args.asks.now) (sym now) (batch-has (λ (d : Desk g.row.L.Denot). d.link) g.L.LinkStep.link_of g.L.LinkStep.stands_for left_at c.args.links.items c.deref_mut.result.now c.answer_batch.new.desks c.args.asks.now are c.answer_batch.ensures.long answers)

pub returns-clause-same : goal.returns-clause-same
returns-clause-same g c =
    let old : List (Desk g.row.L.Denot) = c.deref_mut.result.now in
    let are : map (λ (d : Desk g.row.L.Denot). d.link) c.deref_mut.result.now ≡ c.args.links.items = ap (map (λ (d : Desk g.row.L.Denot). d.link)) c.deref_mut.ensures.value ∙ c.in_ok-desks.ensures in
    let held' : length c.answer_batch.new.desks ≡ c.in_ok-desks.desks.len = (let long = c.answer_batch.ensures.long in let own = c.in_ok-desks.desks.ok.0 in let value = ap length c.deref_mut.ensures.value in omega (arith, long, own, value)) in
    let now : c.deref_mut-2.result.now ≡ c.answer_batch.new.desks = c.deref_mut-2.ensures.value ∙ with_items_is c.in_ok-desks.desks c.answer_batch.new.desks held' in
    let seen : c.deref.result.now ≡ c.answer_batch.new.desks = c.deref.ensures.value ∙ with_items_is c.in_ok-desks.desks c.answer_batch.new.desks held' in
    let answers : (n : ℕ) (x y : Desk g.row.L.Denot) → slice_get c.deref_mut.result.now n ≡ Some x → slice_get c.answer_batch.new.desks n ≡ Some y → IsAnswered g.L.LinkStep.link_of g.L.LinkStep.stands_for x.link y.link (own_asks n c.args.asks.now) (drop y.told y.replies.items) =
    λ n x y found after. c.answer_batch.ensures.answered n x y found after (c.if-any_wanted.ensures refl n y (ap (λ ds. slice_get ds n) seen ∙ after)) in
    let gathered : length c.gather.new.desks ≡ c.in_ok-desks.desks.len = sym (length-map c.gather.new.desks (λ (d : Desk g.row.L.Denot). d.link)) ∙ ap length c.in_ok-replies.ensures.same ∙ length-map c.deref_mut-2.result.now (λ (d : Desk g.row.L.Denot). d.link) ∙ ap length now ∙ held' in
    let links : c.in_ok-links.links.items ≡ map (λ (d : Desk g.row.L.Denot). d.link) c.gather.new.desks = c.in_ok-links.ensures ∙ ap (map (λ (d : Desk g.row.L.Denot). d.link)) (with_items_is (with_items c.in_ok-desks.desks c.answer_batch.new.desks) c.gather.new.desks gathered) in
    let same : map (λ (d : Desk g.row.L.Denot). d.link) c.gather.new.desks ≡ map (λ (d : Desk g.row.L.Denot). d.link) c.answer_batch.new.desks = c.in_ok-replies.ensures.same ∙ ap (map (λ (d : Desk g.row.L.Denot). d.link)) now in
    ap (map g.L.LinkStep.link_of) (links ∙ same) ∙ batch-rules (λ (d : Desk g.row.L.Denot). d.link) g.L.LinkStep.link_of g.L.LinkStep.stands_for left_at c.args.links.items c.deref_mut.result.now c.answer_batch.new.desks c.args.asks.now are c.answer_batch.ensures.long answers

pub returns-clause-made : goal.returns-clause-made
returns-clause-made g c = λ hs at.
    let old : List (Desk g.row.L.Denot) = c.deref_mut.result.now in
    let are : map (λ (d : Desk g.row.L.Denot). d.link) c.deref_mut.result.now ≡ c.args.links.items = ap (map (λ (d : Desk g.row.L.Denot). d.link)) c.deref_mut.ensures.value ∙ c.in_ok-desks.ensures in
    let held' : length c.answer_batch.new.desks ≡ c.in_ok-desks.desks.len = (let long = c.answer_batch.ensures.long in let own = c.in_ok-desks.desks.ok.0 in let value = ap length c.deref_mut.ensures.value in omega (arith, long, own, value)) in
    let now : c.deref_mut-2.result.now ≡ c.answer_batch.new.desks = c.deref_mut-2.ensures.value ∙ with_items_is c.in_ok-desks.desks c.answer_batch.new.desks held' in
    let seen : c.deref.result.now ≡ c.answer_batch.new.desks = c.deref.ensures.value ∙ with_items_is c.in_ok-desks.desks c.answer_batch.new.desks held' in
    let answers : (n : ℕ) (x y : Desk g.row.L.Denot) → slice_get c.deref_mut.result.now n ≡ Some x → slice_get c.answer_batch.new.desks n ≡ Some y → IsAnswered g.L.LinkStep.link_of g.L.LinkStep.stands_for x.link y.link (own_asks n c.args.asks.now) (drop y.told y.replies.items) =
    λ n x y found after. c.answer_batch.ensures.answered n x y found after (c.if-any_wanted.ensures refl n y (ap (λ ds. slice_get ds n) seen ∙ after)) in
    let told = c.in_ok-replies.ensures.told (map g.L.LinkStep.link_of c.args.links.items) hs (subst (AreAhead (rules_at g.L.LinkStep.link_of) (stands_at g.L.LinkStep.stands_for) left_at (map g.L.LinkStep.link_of c.args.links.items) hs c.args.asks.now) (sym now) (batch-begins (λ (d : Desk g.row.L.Denot). d.link) g.L.LinkStep.link_of g.L.LinkStep.stands_for left_at c.args.links.items c.deref_mut.result.now c.answer_batch.new.desks c.args.asks.now are c.answer_batch.ensures.long answers hs at)) in
    let gathered : length c.gather.new.desks ≡ c.in_ok-desks.desks.len = sym (length-map c.gather.new.desks (λ (d : Desk g.row.L.Denot). d.link)) ∙ ap length c.in_ok-replies.ensures.same ∙ length-map c.deref_mut-2.result.now (λ (d : Desk g.row.L.Denot). d.link) ∙ ap length now ∙ held' in
    let links : c.in_ok-links.links.items ≡ map (λ (d : Desk g.row.L.Denot). d.link) c.gather.new.desks = c.in_ok-links.ensures ∙ ap (map (λ (d : Desk g.row.L.Denot). d.link)) (with_items_is (with_items c.in_ok-desks.desks c.answer_batch.new.desks) c.gather.new.desks gathered) in
    (told.0, (told.1.0, link-of (λ (d : Desk g.row.L.Denot). d.link) (λ n l. g.L.LinkStep.stands_for l (told.0 n)) c.in_ok-links.links.items c.gather.new.desks links told.1.1))
