-- The link's reply is that of the actor's next step in each run that the engine stands for.
use Rattle.std.proofs.Common.{◌≡◌, ◌∷◌, length, sym, ap, subst, ◌∙◌, arith}
use Rattle.run_engine.proofs.Words.{with_items_is, slice_get, actor_number, network_of, Done}
use Rattle.call_script.proofs.PlansFit.{plan-fits}
use Rattle.run_engine.specs.schedules.Standing.{LinksStand}
use Rattle.run_engine.proofs.Keeping.EngineStep.{asking-in}
use Rattle.run_engine.proofs.Keeping.KeptLinks.{clock-small}
use Rattle.run_engine.proofs.Keeping.NextStep.{asked-within, fits-at, next-by, links-stepped}
use Rattle.run_engine.proofs.engine.Engine.ask_into.Goals as goal

pub step_link_into-requires-clause-inside : goal.step_link_into-requires-clause-inside
step_link_into-requires-clause-inside c =
    let about = c.requires.about in
    let asks = asking-in about.0 c.args.self.now c.deref_mut.result.now about.1 about.2 c.args.link c.args.ask.now c.get.result c.from.result about.3 c.deref_mut.ensures.value c.from.ensures c.get.ensures.value in
    omega (arith, asked-within about.0 c.deref_mut.result.now about.1 (actor_number about.2) c.args.link c.args.ask.now asks.plan asks.run asks.stand asks.asked, asks.is)

pub step_link_into-requires-clause-fits : goal.step_link_into-requires-clause-fits
step_link_into-requires-clause-fits c = λ link found.
    let about = c.requires.about in
    let asks = asking-in about.0 c.args.self.now c.deref_mut.result.now about.1 about.2 c.args.link c.args.ask.now c.get.result c.from.result about.3 c.deref_mut.ensures.value c.from.ensures c.get.ensures.value in
    fits-at about.0 c.deref_mut.result.now about.1 about.2 c.args.link c.args.ask.now link asks.plan asks.run asks.stand asks.asked (ap (slice_get c.deref_mut.result.now) asks.is ∙ found)

pub step_link_into-requires-clause-early : goal.step_link_into-requires-clause-early
step_link_into-requires-clause-early c = λ link found.
    let about = c.requires.about in
    let asks = asking-in about.0 c.args.self.now c.deref_mut.result.now about.1 about.2 c.args.link c.args.ask.now c.get.result c.from.result about.3 c.deref_mut.ensures.value c.from.ensures c.get.ensures.value in
    clock-small (network_of about.0) c.deref_mut.result.now about.1 c.from.result link (plan-fits about.0 asks.plan) asks.run asks.stand found

pub returns : goal.returns
returns c = λ parts run actor about.
    let asks = asking-in parts c.args.self.now c.deref_mut.result.now run actor c.args.link c.args.ask.now c.get.result c.from.result about c.deref_mut.ensures.value c.from.ensures c.get.ensures.value in
    let done : Done = record { actor = actor; link = c.args.link; ask = c.args.ask.now; reply = c.step_link_into.new.reply } in
    let next = next-by parts c.deref_mut.result.now run actor c.args.link c.args.ask.now c.step_link_into.new.reply c.from.result asks.plan asks.run asks.stand asks.asked asks.is c.step_link_into.ensures.legal in
    let long : length c.step_link_into.new.links ≡ c.args.self.now.links.len = omega (arith, c.step_link_into.ensures.length, ap length c.deref_mut.ensures.value, c.args.self.now.links.ok.0) in
    record {
      due = record { plan = asks.plan; run = asks.run; next = next; stand = about.stands.actors; room = c.requires.room };
      links =
          subst (λ ls. LinksStand (network_of parts).links ls (done ∷ run)) (sym (with_items_is c.args.self.now.links c.step_link_into.new.links long))
          (links-stepped parts c.deref_mut.result.now c.step_link_into.new.links run done c.from.result asks.stand asks.is c.step_link_into.ensures.length c.step_link_into.ensures.others c.step_link_into.ensures.same c.step_link_into.ensures.entered);
    }
