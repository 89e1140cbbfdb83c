use Rattle.std.proofs.Common.{◌≡◌, ℕ, ◌+◌, ◌++◌, ◌∷◌, [], length, sym, ap, ◌∙◌, subst, arith}
use Rattle.std.proofs.lemmas.List.{length-append}
use Rattle.network_questions.specs.Asked.{AreRowsFrom, IsRowOf}
use Rattle.network_questions.proofs.RowsSoFar.{no-rows, rows-more}
use Rattle.network_questions.proofs.asking.rows_of.Goals as goal

pub loop-number-init : goal.loop-number-init
loop-number-init c = record {
  are = subst (AreRowsFrom c.args.network.now c.args.asking.now 0) (sym c.new-rows.ensures.items) (no-rows c.args.network.now c.args.asking.now);
  many = ap length c.new-rows.ensures.items;
  most = omega arith;
}

pub loop-number-preserved : goal.loop-number-preserved
loop-number-preserved c =
    let network = c.args.network.now in
    let asking = c.args.asking.now in
    let rows = c.loop-number.rows.items in
    let row = c.in_ok-row_of.field-0 in
    let counted : length rows ≡ 0 + length rows = omega arith in
    let number : c.loop-number.number ≡ 0 + length rows = sym c.loop-number.invariant.many ∙ counted in
    let added : c.push.new.self.items ≡ rows ++ row ∷ [] = c.in_ok-push.ensures.items in
    record {
      are = subst (AreRowsFrom network asking 0) (sym added) (rows-more network asking 0 rows row c.loop-number.invariant.are (subst (λ (n : ℕ). IsRowOf network asking n row) number c.in_ok-row_of.ensures));
      many = ap length added ∙ length-append rows (row ∷ []) ∙ ap (λ (n : ℕ). n + 1) c.loop-number.invariant.many;
      most = omega (arith, c.loop-number-test.true, ap length c.requests-number-end.ensures.value);
    }

pub returns : goal.returns
returns c = record {
  are = c.loop-number.invariant.are;
  all = omega (arith, c.loop-number.invariant.many, c.loop-number.invariant.most, c.loop-number-test.false, ap length c.requests-number-end.ensures.value);
}
