use Rattle.std.proofs.Common.{◌≡◌, true, false, List, ◌++◌, ap, sym, ◌∙◌}
use Rattle.call_script.specs.declared.operations.Op.{Op}
use Rattle.question_plans.specs.Alone.{is_open}
use Rattle.question_plans.proofs.OpensMade.{one-open, no-open}
use Rattle.question_plans.proofs.alone.add_open.Goals as goal

pub returns-then-not-is_open : goal.returns-then-not-is_open
returns-then-not-is_open c =
    let other : is_open c.args.op.now ≡ false = sym c.is_open.ensures ∙ c.if-not-is_open.true in
    no-open c.args.op.now c.args.opens.now.items other

pub returns : goal.returns
returns c =
    let opens : is_open c.args.op.now ≡ true = sym c.is_open.ensures ∙ c.if-not-is_open.false in
    c.in_ok-push.ensures.items ∙ ap (λ (last : List Op). c.args.opens.now.items ++ last) (sym (one-open c.args.op.now opens))
