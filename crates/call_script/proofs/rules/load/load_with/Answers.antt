-- The load so far and that of the operations left are the whole, until none is left or it is above the limit.
use Rattle.std.proofs.Common.{◌≡◌, ℕ, ◌+◌, List, drop, sym, ap, ◌∙◌, arith}
use Rattle.call_script.specs.Rules.{op_in_range, load_of, loads_after, ops_load}
use Rattle.call_script.proofs.ScriptLoads.{load-at-hand, loads-at-hand, load-over, loads-over, tests-left, load-above, load-inside}
use Rattle.call_script.proofs.rules.load.load_with.Goals as goal

pub returns-then-load-gt-MOST_PACKETS-clause-load : goal.returns-then-load-gt-MOST_PACKETS-clause-load
returns-then-load-gt-MOST_PACKETS-clause-load c =
    let here = load-at-hand c.args.requests.now c.loop-op.loads.items c.args.ops.now c.loop-op.op-index c.op-item.result c.loop-op-test.true c.op-item.is in
    let of : c.load_of-load.result ≡ _ = c.load_of-load.ensures.value in
    let at = ap (λ (loads : List ℕ). load_of c.args.requests.now loads c.op-item.result) c.deref.ensures.value in
    load-above _ (omega (arith, c.loop-op.invariant.whole, here, of, at, c.if-load-gt-MOST_PACKETS.true))

pub loop-op-preserved : goal.loop-op-preserved
loop-op-preserved c =
    let here = load-at-hand c.args.requests.now c.loop-op.loads.items c.args.ops.now c.loop-op.op-index c.op-item.result c.loop-op-test.true c.op-item.is in
    let then = loads-at-hand c.loop-op.loads.items c.args.ops.now c.loop-op.op-index c.op-item.result c.loop-op-test.true c.op-item.is in
    let of : c.load_of-load.result ≡ _ = c.load_of-load.ensures.value in
    let at = ap (λ (loads : List ℕ). load_of c.args.requests.now loads c.op-item.result) c.deref.ensures.value in
    let rest = ap (λ (loads : List ℕ). ops_load c.args.requests.now loads (drop (c.loop-op.op-index + 1) c.args.ops.now)) c.in_ok-put_load.ensures.loads in
    record {
      within = omega (arith, c.if-load-gt-MOST_PACKETS.false);
      few = c.in_ok-put_load.ensures.few;
      whole = omega (arith, c.loop-op.invariant.whole, here, of, at, rest);
      loads = c.loop-op.invariant.loads ∙ then ∙ ap (λ (loads : List ℕ). loads_after loads (drop (c.loop-op.op-index + 1) c.args.ops.now)) (sym c.in_ok-put_load.ensures.loads);
      range = tests-left op_in_range c.args.ops.now c.loop-op.op-index c.op-item.result c.loop-op-test.true c.op-item.is c.loop-op.invariant.range;
    }

pub returns-clause-load : goal.returns-clause-load
returns-clause-load c =
    let none = load-over c.args.requests.now c.loop-op.loads.items c.args.ops.now c.loop-op.op-index c.loop-op-test.false in
    let whole : c.args.before + ops_load c.args.requests.now c.args.loads.now.items c.args.ops.now ≡ c.loop-op.load = omega (arith, c.loop-op.invariant.whole, none) in
    rw whole (load-inside c.loop-op.load c.loop-op.invariant.within)

pub returns-clause-loads : goal.returns-clause-loads
returns-clause-loads c = λ _. sym (c.loop-op.invariant.loads ∙ loads-over c.loop-op.loads.items c.args.ops.now c.loop-op.op-index c.loop-op-test.false)
