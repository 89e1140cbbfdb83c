-- One hop more over the next link.
use Rattle.std.proofs.Common.{◌<◌, ◌++◌, ◌∷◌, [], length, length-append, ap, sym, ◌∙◌, arith}
use Rattle.scenario_reader.proofs.Finding.HopsInCells.{run-more, whole-run}
use Rattle.scenario_reader.proofs.draft.Draft.hops_said.Goals as goal

pub loop-place-init : goal.loop-place-init
loop-place-init c = record {
  kept = c.new-hops.ensures ∙ sym (run-more c.args.self.now.links c.args.run.now 0 c.hop_said.result c.requires.some c.hop_said.ensures);
  count = ap length c.new-hops.ensures;
}

pub loop-place-preserved : goal.loop-place-preserved
loop-place-preserved c =
    let hop = c.hop_said-in-loop-place.result in
    let within : c.loop-place.place < length c.args.run.now = omega (arith, c.loop-place-test.true, ap length c.as_slice-values.ensures) in
    record {
      kept = c.push.ensures ∙ ap (λ hops. hops ++ hop ∷ []) c.loop-place.invariant.kept
          ∙ sym (run-more c.args.self.now.links c.args.run.now c.loop-place.place hop within c.hop_said-in-loop-place.ensures);
      count = ap length c.push.ensures ∙ length-append c.loop-place.hops (hop ∷ []) ∙ omega (arith, c.loop-place.invariant.count);
    }

pub returns : goal.returns
returns c = c.loop-place.invariant.kept ∙ whole-run c.args.self.now.links c.args.run.now c.loop-place.place (omega (arith, c.loop-place-test.false, ap length c.as_slice-values.ensures))
