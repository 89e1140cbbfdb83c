-- The plan has that request alone.
use Rattle.std.proofs.Common.{◌≡◌, [], ◌∷◌, IfOk, length, subst, ap}
use Rattle.setup_protocol.specs.Requests.{jitter_of}
use Rattle.one_link_plans.proofs.plans.opened.Goals as goal

pub returns-clause-request : goal.returns-clause-request
returns-clause-request c = record {
  entry = c.in_ok-request.request;
  only = subst (λ made. IfOk made (λ plan. plan.requests ≡ c.in_ok-request.request ∷ [])) c.in_ok-branch.was c.in_ok-plan.ensures.requests;
  is = c.in_ok-request.ensures.is;
  asks = record {
    one = c.in_ok-request.ensures.one;
    delay = c.in_ok-request.ensures.asked.1;
    jitter = ap jitter_of c.in_ok-request.ensures.asked.0;
  };
}

pub returns-clause-links : goal.returns-clause-links
returns-clause-links c = ap length (subst (λ made. IfOk made (λ plan. plan.links ≡ c.in_ok-link.link ∷ [])) c.in_ok-branch.was c.in_ok-plan.ensures.links)

pub returns-clause-callers : goal.returns-clause-callers
returns-clause-callers c = ap length (subst (λ made. IfOk made (λ plan. plan.callers ≡ c.in_ok-caller.caller ∷ [])) c.in_ok-branch.was c.in_ok-plan.ensures.callers)
