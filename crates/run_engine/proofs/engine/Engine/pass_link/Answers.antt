-- The quiet reply is that of the actor's next step in each run that the engine stands for.
use Rattle.std.proofs.Common.{◌≡◌, ◌∷◌, length, sym, ap, subst, ◌∙◌, arith}
use Rattle.run_engine.proofs.Words.{with_items_is, slice_get, actor_number, link_number, network_of, Tick, quiet_reply, Done}
use Rattle.call_script.proofs.PlansFit.{plan-fits}
use Rattle.run_engine.specs.schedules.Standing.{LinksStand}
use Rattle.run_engine.proofs.Keeping.EngineStep.{asking-in}
use Rattle.run_engine.proofs.Keeping.KeptLinks.{clock-small}
use Rattle.run_engine.proofs.Keeping.NextStep.{asked-within, next-by, links-stepped}
use Rattle.run_engine.proofs.engine.Engine.pass_link.Goals as goal

pub rest_link-requires-clause-inside : goal.rest_link-requires-clause-inside
rest_link-requires-clause-inside c =
    let about = c.requires.about in
    let asks = asking-in about.0 c.args.self.now c.deref_mut.result.now about.1 about.2 c.args.link Tick c.get.result c.from.result about.3 c.deref_mut.ensures.value c.from.ensures c.get.ensures.value in
    omega (arith, asked-within about.0 c.deref_mut.result.now about.1 (actor_number about.2) c.args.link Tick asks.plan asks.run asks.stand asks.asked, asks.is)

pub rest_link-requires-clause-rests : goal.rest_link-requires-clause-rests
rest_link-requires-clause-rests c = λ link found.
    let about = c.requires.about in
    let asks = asking-in about.0 c.args.self.now c.deref_mut.result.now about.1 about.2 c.args.link Tick c.get.result c.from.result about.3 c.deref_mut.ensures.value c.from.ensures c.get.ensures.value in
    c.requires.rests link (ap (λ ls. slice_get ls (link_number c.args.link)) (sym c.deref_mut.ensures.value) ∙ ap (slice_get c.deref_mut.result.now) asks.is ∙ found)

pub rest_link-requires-clause-early : goal.rest_link-requires-clause-early
rest_link-requires-clause-early c = λ link found.
    let about = c.requires.about in
    let asks = asking-in about.0 c.args.self.now c.deref_mut.result.now about.1 about.2 c.args.link Tick c.get.result c.from.result about.3 c.deref_mut.ensures.value c.from.ensures c.get.ensures.value in
    clock-small (network_of about.0) c.deref_mut.result.now about.1 c.from.result link (plan-fits about.0 asks.plan) asks.run asks.stand found

pub returns : goal.returns
returns c = λ parts run actor about.
    let asks = asking-in parts c.args.self.now c.deref_mut.result.now run actor c.args.link Tick c.get.result c.from.result about c.deref_mut.ensures.value c.from.ensures c.get.ensures.value in
    let reply = quiet_reply c.rest_link.result in
    let done : Done = record { actor = actor; link = c.args.link; ask = Tick; reply = reply } in
    let next = next-by parts c.deref_mut.result.now run actor c.args.link Tick reply c.from.result asks.plan asks.run asks.stand asks.asked asks.is c.rest_link.ensures.legal in
    let long : length c.rest_link.new.links ≡ c.args.self.now.links.len = omega (arith, c.rest_link.ensures.length, ap length c.deref_mut.ensures.value, c.args.self.now.links.ok.0) in
    record {
      due = record { plan = asks.plan; run = asks.run; next = next; stand = c.ready.ensures.stand parts run about.stands.actors; room = c.in_ok-ready.ensures.room };
      links =
          subst (λ ls. LinksStand (network_of parts).links ls (done ∷ run)) (sym (with_items_is c.args.self.now.links c.rest_link.new.links long))
          (links-stepped parts c.deref_mut.result.now c.rest_link.new.links run done c.from.result asks.stand asks.is c.rest_link.ensures.length c.rest_link.ensures.others c.rest_link.ensures.same c.rest_link.ensures.entered);
    }
