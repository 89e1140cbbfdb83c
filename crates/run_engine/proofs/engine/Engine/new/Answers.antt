-- Nothing is asked yet.
use Rattle.call_script.specs.Tasks.{network_of}
use Rattle.run_engine.proofs.Keeping.KeptLinks.{links-new}
use Rattle.run_engine.proofs.Keeping.NextStep.{fresh-run}
use Rattle.run_engine.proofs.engine.Engine.new.Goals as goal

pub returns : goal.returns
returns c = record {
  plan = c.in_ok-links.ensures.plan;
  run = fresh-run c.args.plan.now;
  links = links-new (network_of c.args.plan.now).links c.in_ok-links.links.items c.in_ok-links.ensures.rules c.in_ok-links.ensures.stand;
  actors = c.in_ok-actors.ensures.stand;
}
