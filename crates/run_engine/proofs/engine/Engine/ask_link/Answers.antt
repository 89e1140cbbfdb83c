-- The link's reply is that of the actor's next step in each run that the engine stands for.
use Rattle.std.proofs.Common.{◌≡◌, ◌∷◌, length, sym, ap, subst, ◌∙◌, refl, arith}
use Rattle.std.proofs.lemmas.Result.{on_err_weaker}
use Rattle.run_engine.proofs.Words.{with_items_is, slice_get, actor_number, network_of, part_of, Done}
use Rattle.call_script.proofs.PlansFit.{plan-fits}
use Rattle.run_engine.specs.schedules.Standing.{LinksStand}
use Rattle.run_engine.proofs.Keeping.EngineStep.{asking-in, both-ok}
use Rattle.run_engine.proofs.Keeping.KeptLinks.{clock-small, links-with}
use Rattle.run_engine.proofs.Keeping.NextStep.{asked-within, fits-at, next-by, links-stepped}
use Rattle.run_engine.proofs.engine.Engine.ask_link.Goals as goal

pub step_link-requires-clause-inside : goal.step_link-requires-clause-inside
step_link-requires-clause-inside c =
    let asks = asking-in c.requires.0 c.args.self.now c.deref_mut.result.now c.requires.1 c.requires.2 c.args.link c.args.ask.now c.get.result c.from.result c.requires.3 c.deref_mut.ensures.value c.from.ensures c.get.ensures.value in
    omega (arith, asked-within c.requires.0 c.deref_mut.result.now c.requires.1 (actor_number c.requires.2) c.args.link c.args.ask.now asks.plan asks.run asks.stand asks.asked, asks.is)

pub step_link-requires-clause-fits : goal.step_link-requires-clause-fits
step_link-requires-clause-fits c = λ link found.
    let asks = asking-in c.requires.0 c.args.self.now c.deref_mut.result.now c.requires.1 c.requires.2 c.args.link c.args.ask.now c.get.result c.from.result c.requires.3 c.deref_mut.ensures.value c.from.ensures c.get.ensures.value in
    fits-at c.requires.0 c.deref_mut.result.now c.requires.1 c.requires.2 c.args.link c.args.ask.now link asks.plan asks.run asks.stand asks.asked (ap (slice_get c.deref_mut.result.now) asks.is ∙ found)

pub step_link-requires-clause-early : goal.step_link-requires-clause-early
step_link-requires-clause-early c = λ link found.
    let asks = asking-in c.requires.0 c.args.self.now c.deref_mut.result.now c.requires.1 c.requires.2 c.args.link c.args.ask.now c.get.result c.from.result c.requires.3 c.deref_mut.ensures.value c.from.ensures c.get.ensures.value in
    clock-small (network_of c.requires.0) c.deref_mut.result.now c.requires.1 c.from.result link (plan-fits c.requires.0 asks.plan) asks.run asks.stand found

pub returns-clause-answered : goal.returns-clause-answered
returns-clause-answered c =
    both-ok c.step_link.result
    (λ reply legal entered parts run actor about.
    let asks = asking-in parts c.args.self.now c.deref_mut.result.now run actor c.args.link c.args.ask.now c.get.result c.from.result about c.deref_mut.ensures.value c.from.ensures c.get.ensures.value in
    let done : Done = record { actor = actor; link = c.args.link; ask = c.args.ask.now; reply = reply } in
    let next = next-by parts c.deref_mut.result.now run actor c.args.link c.args.ask.now reply c.from.result asks.plan asks.run asks.stand asks.asked asks.is legal in
    let long : length c.step_link.new.links ≡ c.args.self.now.links.len = omega (arith, c.step_link.ensures.length, ap length c.deref_mut.ensures.value, c.args.self.now.links.ok.0) in
    record {
      due = record { plan = asks.plan; run = asks.run; next = next; stand = c.ready.ensures.stand parts run about.stands.actors; room = c.in_ok-ready.ensures.room };
      links =
          subst (λ ls. LinksStand (network_of parts).links ls (done ∷ run)) (sym (with_items_is c.args.self.now.links c.step_link.new.links long))
          (links-stepped parts c.deref_mut.result.now c.step_link.new.links run done c.from.result asks.stand asks.is c.step_link.ensures.length c.step_link.ensures.others c.step_link.ensures.same entered);
    })
    c.step_link.ensures.legal c.step_link.ensures.entered

pub returns-clause-memory : goal.returns-clause-memory
returns-clause-memory c =
    on_err_weaker c.step_link.result
    (λ memory parts run stands.
    let network = network_of parts in
    let long : length c.step_link.new.links ≡ c.args.self.now.links.len = omega (arith, c.step_link.ensures.length, ap length c.deref_mut.ensures.value, c.args.self.now.links.ok.0) in
    record {
      plan = stands.plan;
      run = stands.run;
      links =
          subst (λ ls. LinksStand network.links ls run) (sym (with_items_is c.args.self.now.links c.step_link.new.links long))
          (links-with network.links c.deref_mut.result.now c.step_link.new.links c.from.result run run c.step_link.ensures.length c.step_link.ensures.others c.step_link.ensures.same (λ n other. refl)
          (λ link next found after linked. memory link next (part_of c.from.result run) found after linked)
          (subst (λ ls. LinksStand network.links ls run) (sym c.deref_mut.ensures.value) stands.links));
      actors = c.ready.ensures.stand parts run stands.actors;
    })
    c.step_link.ensures.memory
