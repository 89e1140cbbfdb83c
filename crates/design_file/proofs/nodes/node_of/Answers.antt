use Rattle.std.proofs.Common.{◌≡◌, true, false, sym, ◌∙◌, arith}
use Rattle.call_script.specs.Rules.{is_named}
use Rattle.scenario_reader.proofs.Finding.NodeSteps.{node-first, node-second, node-later, node-none}
use Rattle.design_file.proofs.nodes.node_of.Goals as goal

pub returns-then-eq-clause-value : goal.returns-then-eq-clause-value
returns-then-eq-clause-value c =
    let entry = c.entry-item.result in
    let first : is_named c.args.name.now entry.from ≡ true = sym c.eq.ensures ∙ c.if-eq.true in
    sym (c.loop-entry.invariant.rest ∙ node-first c.loop-entry.node c.args.links.now c.loop-entry.entry-index entry c.args.name.now c.loop-entry-test.true (sym c.entry-item.is) first)

pub returns-then-eq-2-clause-value : goal.returns-then-eq-2-clause-value
returns-then-eq-2-clause-value c =
    let entry = c.entry-item.result in
    let no : is_named c.args.name.now entry.from ≡ false = sym c.eq.ensures ∙ c.if-eq.false in
    let second : is_named c.args.name.now entry.to ≡ true = sym c.eq-in-loop-entry.ensures ∙ c.if-eq-2.true in
    sym (c.loop-entry.invariant.rest ∙ node-second c.loop-entry.node c.args.links.now c.loop-entry.entry-index entry c.args.name.now c.loop-entry-test.true (sym c.entry-item.is) no second)

pub loop-entry-preserved : goal.loop-entry-preserved
loop-entry-preserved c =
    let entry = c.entry-item.result in
    let no : is_named c.args.name.now entry.from ≡ false = sym c.eq.ensures ∙ c.if-eq.false in
    let other : is_named c.args.name.now entry.to ≡ false = sym c.eq-in-loop-entry.ensures ∙ c.if-eq-2.false in
    record {
      node = omega (arith, c.loop-entry.invariant.node);
      rest = c.loop-entry.invariant.rest ∙ node-later c.loop-entry.node c.args.links.now c.loop-entry.entry-index entry c.args.name.now c.loop-entry-test.true (sym c.entry-item.is) no other;
    }

pub returns-clause-value : goal.returns-clause-value
returns-clause-value c = sym (c.loop-entry.invariant.rest ∙ node-none c.loop-entry.node c.args.links.now c.loop-entry.entry-index c.args.name.now c.loop-entry-test.false)
