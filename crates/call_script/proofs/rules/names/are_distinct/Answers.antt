-- The name at hand: it is new, and joins the set; or the set has it already.
use Rattle.std.proofs.Common.{ap, sym, ◌∙◌, not}
use Rattle.call_script.specs.Rules.{is_named, is_new}
use Rattle.call_script.proofs.Walks.{after-skip, after-stop, any-more, over}
use Rattle.call_script.proofs.rules.names.are_distinct.Goals as goal

pub returns-then-not-branch : goal.returns-then-not-branch
returns-then-not-branch c =
    sym (c.loop-name.invariant.left ∙ after-stop is_new c.args.names.now c.loop-name.name-index c.name-item.result c.loop-name-test.true c.name-item.is
    (sym (ap not (c.loop-name.invariant.seen c.name-item.result)) ∙ sym c.in_ok-insert.ensures.added ∙ c.if-not-branch.true))

pub loop-name-preserved : goal.loop-name-preserved
loop-name-preserved c = record {
  seen = λ q. any-more (is_named q) c.args.names.now c.loop-name.name-index c.name-item.result _ _ c.loop-name-test.true c.name-item.is (c.loop-name.invariant.seen q) (c.in_ok-insert.ensures.updates.0 q);
  left = c.loop-name.invariant.left ∙ after-skip is_new c.args.names.now c.loop-name.name-index c.name-item.result c.loop-name-test.true c.name-item.is
      (sym (ap not (c.loop-name.invariant.seen c.name-item.result)) ∙ sym c.in_ok-insert.ensures.added ∙ c.if-not-branch.false);
}

pub returns : goal.returns
returns c = sym (c.loop-name.invariant.left ∙ over is_new c.args.names.now c.loop-name.name-index c.loop-name-test.false)
