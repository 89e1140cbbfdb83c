use Rattle.std.proofs.Common.{◌≡◌, ◌*◌, ◌++◌, length}
use Rattle.load_maker.specs.Draws.{state_after}
use Rattle.load_maker.specs.Made.{own_ops, own_requests}
use Rattle.load_maker.proofs.script.script.Given as goal

-- the requests so far are made, each from its draws
abbrev pub invariant-loop-n : goal.invariant-loop-n
invariant-loop-n l = record {
  requests : l.requests.items ≡ l.initial.requests.items ++ own_requests l.number (length l.initial.requests.items) l.caller l.n;
  ops : l.ops.items ≡ own_ops l.number (length l.initial.requests.items) l.caller l.n;
  state : l.draws.state ≡ state_after (6 * l.n) l.number;
}
