use Rattle.std.proofs.Common.{◌≡◌, ◌-◌, suc, length, true, false, sym, ap, ◌∙◌, arith}
use Rattle.race_run.specs.Turns.{ends_with}
use Rattle.race_run.proofs.PieceSteps.OneMoreTurn.{runs-again, runs-new, ends-true, ends-some, ends-false, count-fits}
use Rattle.race_run.proofs.turns.add_turn.Goals as goal

pub overflow_add-index_mut : goal.overflow_add-index_mut
overflow_add-index_mut c =
    let ends : ends_with c.args.actor c.args.items.now.items ≡ true = ap (ends_with c.args.actor) (sym c.as_slice.ensures.value) ∙ sym c.ends_with.ensures ∙ c.if-ends_with.true in
    let some = ends-some c.args.actor c.args.items.now.items ends in
    let is = c.len-last.ensures in
    let fits = count-fits c.args.items.now.items (c.len-last.result - 1) c.index_mut.result.now (omega (arith, some, is)) c.index_mut.ensures.value c.requires.few in
    omega (arith, fits)

pub returns-then-ends_with : goal.returns-then-ends_with
returns-then-ends_with c =
    let ends : ends_with c.args.actor c.args.items.now.items ≡ true = ap (ends_with c.args.actor) (sym c.as_slice.ensures.value) ∙ sym c.ends_with.ensures ∙ c.if-ends_with.true in
    let some = ends-some c.args.actor c.args.items.now.items ends in
    let is = c.len-last.ensures in
    let long : length c.args.items.now.items ≡ suc (c.len-last.result - 1) = omega (arith, some, is) in
    λ actors runs. runs-again actors c.args.items.now.items (c.len-last.result - 1) c.index_mut.result.now c.args.actor long (sym c.index_mut.ensures.value) (ends-true c.args.actor c.args.items.now.items (c.len-last.result - 1) c.index_mut.result.now ends long (sym c.index_mut.ensures.value)) runs

pub returns : goal.returns
returns c =
    let ends : ends_with c.args.actor c.args.items.now.items ≡ false = ap (ends_with c.args.actor) (sym c.as_slice.ensures.value) ∙ sym c.ends_with.ensures ∙ c.if-ends_with.false in
    λ actors runs. rw c.in_ok-push.ensures.items (runs-new actors c.args.items.now.items c.args.actor (ends-false c.args.actor c.args.items.now.items ends) runs)
