-- No task is left.
use Rattle.std.proofs.Common.{◌∙◌, [], map, drop, ap, sym, subst, arith}
use Rattle.std.proofs.lemmas.List.{length-map}
use Rattle.call_script.specs.Tasks.{request_of}
use Rattle.call_script.specs.Work.{WorkStands}
use Rattle.call_script.specs.declared.work.Work.TheVariants as work
use Rattle.call_script.proofs.CallerStanding.{none-left}
use Rattle.call_script.proofs.actor.Actor.begin.Goals as goal

pub returns-in-None-clause-stands : goal.returns-in-None-clause-stands
returns-in-None-clause-stands c = λ outcomes are counts. record {
  under_way = subst (λ tasks. WorkStands work.Idle tasks []) (sym (c.in-None.ensures.none outcomes are)) tt;
  rest = ap (drop 1) (c.in-None.ensures.none outcomes are) ∙ sym (none-left (map request_of c.args.requests.now) c.args.ops.now);
  within = omega arith;
  outcomes = are;
  channels = counts ∙ sym (length-map c.args.requests.now request_of);
}
