use Rattle.std.proofs.Common.{[], rules, inl, inr}
use Rattle.scenario_reader.proofs.Auditing.TableReading.{agree-more, line-begins}
use Rattle.scenario_reader.proofs.audit.table_reader.begins_with_line.Goals as goal

pub loop-mine-init : goal.loop-mine-init
loop-mine-init c = ([], search rules, search rules)

pub loop-mine-preserved : goal.loop-mine-preserved
loop-mine-preserved c =
    agree-more c.args.bytes.now c.args.line.now _ _ _ _ c.in-Some.mine.now c.in-Some.theirs.now c.loop-mine.invariant c.in-Some.ensures.steps.0 c.in-Some.ensures.steps.1 c.if-mine-theirs.false

pub returns : goal.returns
returns c = λ yes.
    line-begins c.args.bytes.now c.args.line.now _ _ c.loop-mine.invariant (elim c.in-None.ensures.steps [
      | inl none ↦ inl none.1.0
      | inr none ↦ inr none.1.0
    ]) c.if-bytes-line.false c.if-bytes-line-ne-FEED.false
