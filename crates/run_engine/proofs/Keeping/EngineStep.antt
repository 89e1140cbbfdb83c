-- What is known where an engine makes the step that an actor is about to make, and what it then stands for.
use Rattle.std.proofs.Common.{◌≡◌, ℕ, List, sym, subst, ◌∙◌}
use Rattle.run_engine.proofs.Words.{Result, Ok, Err, IfOk, link_number, ActorNo, LinkNo, AnyLink, Ask, PlanParts, network_of, Done}
use Rattle.run_engine.specs.schedules.Standing.{ActorsStand, IsAboutTo, LinksStand}
use Rattle.run_engine.specs.declared.actors.Actors.{Actors}
use Rattle.run_engine.specs.declared.engine.Engine.{Engine}
use Rattle.run_engine.proofs.Keeping.NextStep.{Asking}

pub asking-in : (parts : PlanParts) (engine : Engine) (links : List AnyLink) (run : List Done) (actor : ActorNo) (to : LinkNo) (ask : Ask) (own number : ℕ) → IsAboutTo parts engine run actor to ask → links ≡ engine.links.items → number ≡ own → own ≡ link_number to → Asking parts links run actor to ask number
asking-in parts engine links run actor to ask own number about same from get = record {
  plan = about.stands.plan;
  run = about.stands.run;
  stand = subst (λ ls. LinksStand (network_of parts).links ls run) (sym same) about.stands.links;
  asked = about.asks;
  is = sym (from ∙ get);
}

-- actors that stand for the run, too, change nothing of what is asked
pub still-about : (parts : PlanParts) (engine : Engine) (actors : Actors) (run : List Done) (actor : ActorNo) (to : LinkNo) (ask : Ask) → IsAboutTo parts engine run actor to ask → ActorsStand parts actors run → IsAboutTo parts (record { links = engine.links; actors = actors }) run actor to ask
still-about parts engine actors run actor to ask about stand = record {
  stands = record { plan = about.stands.plan; run = about.stands.run; links = about.stands.links; actors = stand };
  asks = about.asks;
}

-- two facts of a result make a third
pub both-ok : {X E : Type 0} {P Q R : X → Type 0} (result : Result X E) → ((x : X) → P x → Q x → R x) → IfOk result P → IfOk result Q → IfOk result R
both-ok (Ok x) both one other = both x one other
both-ok (Err e) both one other = tt
