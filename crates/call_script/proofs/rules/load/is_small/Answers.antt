-- The load so far and that of the callers left are the whole, until none is left or it is above the limit.
use Rattle.std.proofs.Common.{◌≡◌, ℕ, ◌+◌, List, drop, refl, sym, ap, ◌∙◌, arith}
use Rattle.std.proofs.lemmas.Bool.{le-leb, lt-leb}
use Rattle.std.specs.List.{list_all}
use Rattle.net_units.specs.Limits.{most_packets}
use Rattle.call_script.specs.Rules.{op_in_range, loads_after, ops_load, ops_over, load_in}
use Rattle.call_script.proofs.ScriptLoads.{over-at-hand, over-past, tests-left, none-within, some-within}
use Rattle.call_script.proofs.rules.load.is_small.Goals as goal

pub returns-in-None : goal.returns-in-None
returns-in-None c =
    let ops : c.as_slice.result.now ≡ c.caller-item.result.ops = c.as_slice.ensures in
    let here = over-at-hand c.args.requests.now c.loop-caller.loads.items c.args.callers.now c.loop-caller.caller-index c.caller-item.result c.loop-caller-test.true c.caller-item.is in
    let by = ap (ops_load c.args.requests.now c.loop-caller.loads.items) ops in
    let over = none-within _ (sym c.in-None.is ∙ c.in_ok-sum.ensures.load) in
    sym (lt-leb (load_in c.args.requests.now c.args.callers.now) most_packets (omega (arith, c.loop-caller.invariant.whole, here, by, over)))

pub loop-caller-preserved : goal.loop-caller-preserved
loop-caller-preserved c =
    let ops : c.as_slice.result.now ≡ c.caller-item.result.ops = c.as_slice.ensures in
    let here = over-at-hand c.args.requests.now c.loop-caller.loads.items c.args.callers.now c.loop-caller.caller-index c.caller-item.result c.loop-caller-test.true c.caller-item.is in
    let by = ap (ops_load c.args.requests.now c.loop-caller.loads.items) ops in
    let sum = some-within _ _ (sym c.in-Some.is ∙ c.in_ok-sum.ensures.load) in
    let loads : c.load_with.new.loads.items ≡ loads_after c.loop-caller.loads.items c.caller-item.result.ops = rw c.in-Some.is at c.in_ok-sum.ensures.loads refl ∙ ap (loads_after c.loop-caller.loads.items) ops in
    let rest = ap (λ (loads : List ℕ). ops_load c.args.requests.now loads (ops_over (drop (c.loop-caller.caller-index + 1) c.args.callers.now))) loads in
    record {
      within = omega (arith, sum.0, sum.1);
      few = c.in_ok-sum.ensures.few;
      whole = omega (arith, c.loop-caller.invariant.whole, here, by, sum.0, rest);
      range = tests-left (λ caller. list_all op_in_range caller.ops) c.args.callers.now c.loop-caller.caller-index c.caller-item.result c.loop-caller-test.true c.caller-item.is c.loop-caller.invariant.range;
    }

pub returns : goal.returns
returns c =
    let none = over-past c.args.requests.now c.loop-caller.loads.items c.args.callers.now c.loop-caller.caller-index c.loop-caller-test.false in
    sym (le-leb (load_in c.args.requests.now c.args.callers.now) most_packets (omega (arith, c.loop-caller.invariant.whole, c.loop-caller.invariant.within, none)))
