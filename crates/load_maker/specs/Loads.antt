-- What is drawn for a request: how many of the four links its route has and which is the first of them, its contract, the bound on its
-- delay, how its jitter is controlled, and how many packets are sent on it. Each request takes six draws.
use Rattle.std.specs.Prelude.{ℕ, zero, suc, ◌+◌, ◌*◌, ◌-◌, ◌%◌}
use Rattle.setup_protocol.specs.declared.request.Control.{Control}
use Rattle.setup_protocol.specs.declared.request.Control.TheVariants.{Rate, Jitter}
use Rattle.traffic_contract.specs.Contract.{Traffic, terms_of}
use Rattle.load_maker.specs.Draws.{state_after, draw}
use Rattle.load_maker.specs.declared.load.Load.{Load}

-- one of the four contracts
abbrev pub contract_drawn : ℕ → Traffic
contract_drawn zero = terms_of 20 40 200 50
contract_drawn (suc zero) = terms_of 50 100 400 100
contract_drawn (suc (suc zero)) = terms_of 200 200 200 20
contract_drawn (suc (suc (suc n))) = terms_of 10 50 500 30

-- an even draw asks for rate-jitter control, an odd one for delay-jitter control
abbrev pub control_of : ℕ → Control
control_of zero = Rate
control_of (suc n) = Jitter 400

-- how many links the route has, of six draws from this state on
abbrev pub hops_from : ℕ → ℕ
hops_from x = 1 + draw 1 x % 4

-- the load of six draws from this state on; the first link is counted from 0
abbrev pub load_from : ℕ → Load
load_from x = record {
  hops = hops_from x;
  first = draw 2 x % (5 - hops_from x);
  contract = contract_drawn (draw 3 x % 4);
  delay = 105 * hops_from x + 400 * (draw 4 x % 4);
  control = control_of (draw 5 x % 2);
  count = 1 + draw 6 x % 16;
}

-- the load of the request of this number, from 0: the draws are made in the order of the requests
abbrev pub load_at : ℕ → ℕ → Load
load_at number n = load_from (state_after (6 * n) number)
