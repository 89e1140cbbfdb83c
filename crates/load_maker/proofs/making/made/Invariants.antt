use Rattle.std.proofs.Common.{◌≡◌}
use Rattle.load_maker.specs.Made.{callers_to, requests_to}
use Rattle.load_maker.proofs.making.made.Given as goal

-- the callers so far are made, with their requests
abbrev pub invariant-loop-caller : goal.invariant-loop-caller
invariant-loop-caller l = record { requests : l.requests.items ≡ requests_to l.number l.size l.caller; callers : l.callers.items ≡ callers_to l.number l.size l.caller }
