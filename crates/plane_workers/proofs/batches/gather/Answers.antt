-- The link of the next ask has its reply; and so on to the last.
use Rattle.std.proofs.Common.{◌≡◌, ◌≢◌, ℕ, ◌+◌, ◌<◌, ◌≤◌, List, ◌∷◌, length, take, drop, sym, ap, ◌∙◌, subst, refl, inl, inr, arith}
use Rattle.std.proofs.lemmas.Bool.{cases_Bool, eqb-true, eqb-false}
use Rattle.std.proofs.lemmas.List.{take_all, drop_all}
use Rattle.std.proofs.lemmas.Option.{same_Some}
use Rattle.std.specs.List.{slice_get}
use Rattle.std.specs.Prelude.{nat_eq}
use Rattle.net_units.specs.Numbers.{link_number}
use Rattle.net_units.specs.declared.numbers.LinkNo.{LinkNo}
use Rattle.call_script.proofs.Walks.{left-at, before-at}
use Rattle.link_steps.proofs.ListParts.{Each-at}
use Rattle.link_steps.specs.declared.asks.Ask.{Ask}
use Rattle.link_steps.specs.declared.replies.Reply.{Reply}
use Rattle.run_engine.proofs.Keeping.Lookups.{held, found-at}
use Rattle.plane_workers.specs.Batches.{AreAhead, MadeInTurn}
use Rattle.plane_workers.specs.Desks.{rules_at, stands_at, left_at}
use Rattle.plane_workers.specs.declared.desk.Desk.{Desk}
use Rattle.plane_workers.proofs.BatchReplies.{HasAll, has-first, has-rest, made-so, ahead-so, ahead-end, in-turn-more, mapped-same, after-ask, nonempty-left}
use Rattle.plane_workers.proofs.batches.gather.Goals as goal

pub next_reply-requires-clause-left : goal.next_reply-requires-clause-left
next_reply-requires-clause-left g c = λ desk found.
    let asks : List (LinkNo × Ask) = c.args.asks.now in
    let i = c.loop-to.to-index in
    let to = c.to-item.result in
    let split : drop i c.args.asks.now ≡ c.to-item.result ∷ drop (i + 1) c.args.asks.now = left-at c.args.asks.now i to c.loop-to-test.true c.to-item.is in
    let number : c.from.result ≡ link_number to.0 = c.from.ensures ∙ c.get.ensures.value in
    let has : HasAll left_at (c.to-item.result ∷ drop (i + 1) c.args.asks.now) c.loop-to.desks = subst (λ more. HasAll left_at more c.loop-to.desks) split c.loop-to.invariant.has in
    nonempty-left desk.replies.items desk.told (has-first left_at to (drop (i + 1) c.args.asks.now) c.loop-to.desks desk has (ap (slice_get c.loop-to.desks) (sym number) ∙ found))

pub loop-to-preserved : goal.loop-to-preserved
loop-to-preserved g c =
    let asks : List (LinkNo × Ask) = c.args.asks.now in
    let i = c.loop-to.to-index in
    let to = c.to-item.result in
    let split : drop i c.args.asks.now ≡ c.to-item.result ∷ drop (i + 1) c.args.asks.now = left-at c.args.asks.now i to c.loop-to-test.true c.to-item.is in
    let number : c.from.result ≡ link_number to.0 = c.from.ensures ∙ c.get.ensures.value in
    let has : HasAll left_at (c.to-item.result ∷ drop (i + 1) c.args.asks.now) c.loop-to.desks = subst (λ more. HasAll left_at more c.loop-to.desks) split c.loop-to.invariant.has in
    let within : link_number to.0 < length c.loop-to.desks = (let each = Each-at (λ (t : LinkNo × Ask). link_number t.0 < length c.args.desks.now) c.args.asks.now i to c.requires.among (found-at c.args.asks.now c.args.asks.now i i to refl refl c.loop-to-test.true c.to-item.is) in let long = c.loop-to.invariant.long in omega (arith, each, long)) in
    let x = held c.loop-to.desks (link_number to.0) within in
    let y = held c.next_reply.new.desks (link_number to.0) (let long = c.next_reply.ensures.long in omega (arith, long, within)) in
    let found-x = ap (slice_get c.loop-to.desks) number ∙ x.found in
    let found-y = ap (slice_get c.next_reply.new.desks) number ∙ y.found in
    let told = c.next_reply.ensures.told x.item y.item found-x found-y in
    let same = c.next_reply.ensures.link x.item y.item found-x found-y in
    let others : (n : ℕ) → n ≢ link_number to.0 → slice_get c.next_reply.new.desks n ≡ slice_get c.loop-to.desks n = λ n off. c.next_reply.ensures.others n (λ at. off (at ∙ number)) in
    record {
      long = c.next_reply.ensures.long ∙ c.loop-to.invariant.long;
      same = mapped-same (λ (d : Desk g.row.L.Denot). d.link) c.loop-to.desks c.next_reply.new.desks c.next_reply.ensures.long (λ n a b found after.
          elim (cases_Bool (nat_eq n (link_number to.0))) [
            | inl on ↦ (let here = eqb-true n (link_number to.0) on in c.next_reply.ensures.link a b (ap (slice_get c.loop-to.desks) (number ∙ sym here) ∙ found) (ap (slice_get c.next_reply.new.desks) (number ∙ sym here) ∙ after))
            | inr off ↦ ap (λ (d : Desk g.row.L.Denot). d.link) (same_Some b a (sym after ∙ others n (eqb-false n (link_number to.0) off) ∙ found))
          ]) ∙ c.loop-to.invariant.same;
      has = has-rest left_at to (drop (i + 1) c.args.asks.now) c.loop-to.desks c.next_reply.new.desks x.item y.item c.next_reply.result has x.found y.found told others;
      told = λ links hs ahead.
          let so = c.loop-to.invariant.told links hs ahead in
          let are : AreAhead (rules_at g.L.LinkStep.link_of) (stands_at g.L.LinkStep.stands_for) left_at links so.0 (c.to-item.result ∷ drop (i + 1) c.args.asks.now) c.loop-to.desks = subst (λ more. AreAhead (rules_at g.L.LinkStep.link_of) (stands_at g.L.LinkStep.stands_for) left_at links so.0 more c.loop-to.desks) split so.1.1 in (
            _,
            (
              subst (λ (w : List (LinkNo × Ask) × List Reply). MadeInTurn links hs w.0 w.1 (after-ask (rules_at g.L.LinkStep.link_of) (stands_at g.L.LinkStep.stands_for) left_at (g.L.LinkStep.link_of x.item.link) so.0 to)) (λ k. (sym (before-at c.args.asks.now i to c.loop-to-test.true c.to-item.is) k, sym c.in_ok-push.ensures.items k))
                  (in-turn-more links hs so.0 _ (take i c.args.asks.now) c.loop-to.replies.items to c.next_reply.result so.1.0 (made-so (rules_at g.L.LinkStep.link_of) (stands_at g.L.LinkStep.stands_for) left_at links so.0 to (drop (i + 1) c.args.asks.now) c.loop-to.desks c.next_reply.new.desks x.item y.item c.next_reply.result are x.found told)),
              ahead-so (rules_at g.L.LinkStep.link_of) (stands_at g.L.LinkStep.stands_for) left_at links so.0 to (drop (i + 1) c.args.asks.now) c.loop-to.desks c.next_reply.new.desks x.item y.item c.next_reply.result are x.found told c.next_reply.ensures.long others y.found (ap g.L.LinkStep.link_of same) (λ h stands. subst (λ link. g.L.LinkStep.stands_for link h) (sym same) stands),
            ),
          );
    }

pub returns-clause-told : goal.returns-clause-told
returns-clause-told g c = λ links hs ahead.
    let so = c.loop-to.invariant.told links hs ahead in
    let over : length c.args.asks.now ≤ c.loop-to.to-index = (let end = c.loop-to-test.false in omega (arith, end)) in (
      so.0,
      (
        subst (λ more. MadeInTurn links hs more c.loop-to.replies.items so.0) (take_all c.loop-to.to-index c.args.asks.now over) so.1.0,
        ahead-end (rules_at g.L.LinkStep.link_of) (stands_at g.L.LinkStep.stands_for) left_at links so.0 c.loop-to.desks (subst (λ more. AreAhead (rules_at g.L.LinkStep.link_of) (stands_at g.L.LinkStep.stands_for) left_at links so.0 more c.loop-to.desks) (drop_all c.loop-to.to-index c.args.asks.now over) so.1.1),
      ),
    )
