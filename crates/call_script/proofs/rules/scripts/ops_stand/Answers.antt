-- The operation at hand passes, and its channel joins the set where it adds one; or it doesn't pass.
use Rattle.std.proofs.Common.{◌≡◌, true, cond, ap, sym, ◌∙◌, take, nat_eq}
use Rattle.std.specs.HashSet.{contains}
use Rattle.std.specs.List.{list_any}
use Rattle.call_script.specs.Rules.{hits, may_stand, named, is_in, stands}
use Rattle.call_script.proofs.Walks.{after-skip, after-stop, any-more, any-same, over, stands-same}
use Rattle.call_script.proofs.rules.scripts.ops_stand.Goals as goal
use Rattle.call_script.proofs.rules.scripts.ops_stand.Goals.{in-Some+in_ok-insert, in_default}

pub returns-then-not-may_stand : goal.returns-then-not-may_stand
returns-then-not-may_stand c =
    let same : c.may_stand.result ≡ may_stand c.args.place (λ chan. list_any (is_in c.args.adds chan) (take c.loop-op.op-index c.args.ops.now)) (named c.args.asks c.op-item.result) =
    c.may_stand.ensures ∙ ap (may_stand c.args.place (contains nat_eq c.loop-op.above)) c.named.ensures ∙ stands-same c.args.place (contains nat_eq c.loop-op.above) _ (named c.args.asks c.op-item.result) c.loop-op.invariant.above in
    sym (c.loop-op.invariant.left ∙ after-stop (stands c.args.place c.args.asks c.args.adds) c.args.ops.now c.loop-op.op-index c.op-item.result c.loop-op-test.true c.op-item.is
    (sym same ∙ c.if-not-may_stand.true))

pub loop-op-preserved : goal.loop-op-preserved
loop-op-preserved c =
    let same : c.may_stand.result ≡ may_stand c.args.place (λ chan. list_any (is_in c.args.adds chan) (take c.loop-op.op-index c.args.ops.now)) (named c.args.asks c.op-item.result) =
    c.may_stand.ensures ∙ ap (may_stand c.args.place (contains nat_eq c.loop-op.above)) c.named.ensures ∙ stands-same c.args.place (contains nat_eq c.loop-op.above) _ (named c.args.asks c.op-item.result) c.loop-op.invariant.above in
    record {
      above = λ q. elim c.match-named.branch [
        | in-Some+in_ok-insert w ↦
            rw w.above-is (any-more (is_in c.args.adds q) c.args.ops.now c.loop-op.op-index c.op-item.result _ _ c.loop-op-test.true c.op-item.is (c.loop-op.invariant.above q)
            (w.in_ok-insert.ensures.updates.0 q ∙ ap (λ test. cond test true (contains nat_eq c.loop-op.above q)) (sym (ap (hits (λ chan. nat_eq chan q)) (sym c.named-in-loop-op.ensures ∙ w.in-Some.is)))))
        | in_default w ↦
            rw w.above-is (any-same (is_in c.args.adds q) c.args.ops.now c.loop-op.op-index c.op-item.result _ c.loop-op-test.true c.op-item.is (c.loop-op.invariant.above q)
            (ap (hits (λ chan. nat_eq chan q)) (sym c.named-in-loop-op.ensures ∙ w.in_default.is)))
      ];
      left = c.loop-op.invariant.left ∙ after-skip (stands c.args.place c.args.asks c.args.adds) c.args.ops.now c.loop-op.op-index c.op-item.result c.loop-op-test.true c.op-item.is
          (sym same ∙ c.if-not-may_stand.false);
    }

pub returns : goal.returns
returns c = sym (c.loop-op.invariant.left ∙ over (stands c.args.place c.args.asks c.args.adds) c.args.ops.now c.loop-op.op-index c.loop-op-test.false)
