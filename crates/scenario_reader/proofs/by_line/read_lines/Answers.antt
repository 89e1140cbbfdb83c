use Rattle.std.proofs.Common.{rules, ◌+◌, ◌∙◌, ap, arith}
use Rattle.std.proofs.lemmas.Bool.{both_ways}
use Rattle.byte_ends.specs.Cutting.{Cutting}
use Rattle.scenario_reader.specs.ReadSteps.{TellsLines}
use Rattle.scenario_reader.proofs.Passing.ReadingAhead.{at_start, ended, ended-early, foretells-at_start, foretells-next, passes-at_start, passes-next, reads-to-fault, reads-too-many, tells-handed, tells-refused}
use Rattle.scenario_reader.proofs.by_line.read_lines.Goals as goal

pub loop-lines-init : goal.loop-lines-init
loop-lines-init g c =
    let k = g.D.TakesLines.language in
    let made = c.in_ok-lines.ensures.made in
    record {
      most = ap (λ (t : Cutting). t.most) made;
      cutting = c.in_ok-lines.ensures.stands;
      source = λ e. absurd (both_ways c.in_ok-lines.lines.ended (ap (λ (t : Cutting). t.ended) made) e);
      same = rw (c.in_ok-lines.ensures.made, c.requires) (foretells-at_start k (g.S.Source.left c.args.source.now));
      passed = rw (c.in_ok-lines.ensures.made, c.requires) (passes-at_start k (g.S.Source.left c.args.source.now));
      counts = omega arith;
    }

pub loop-lines-preserved : goal.loop-lines-preserved
loop-lines-preserved g c =
    let k = g.D.TakesLines.language in
    let reads = rw c.if-branch.true at c.in_ok-read_line.ensures.reads in
    record {
      most = reads.most ∙ c.loop-lines.invariant.most;
      cutting = reads.cutting;
      source = reads.source;
      same = foretells-next k (g.S.Source.left c.args.source.now) _ _ c.loop-lines.invariant.same reads.same;
      passed = passes-next k at_start _ _ k.first _ _ _ _ _ c.loop-lines.invariant.passed reads.passes;
      counts = omega arith;
    }

pub returns-in_err-read_line-clause-passing : goal.returns-in_err-read_line-clause-passing
returns-in_err-read_line-clause-passing g c =
    λ fault.
    let left = g.S.Source.left in
    reads-to-fault g.D.TakesLines.language c.in_err-read_line.field-0.0 c.loop-lines.lines c.read_line.new.lines c.loop-lines.draft c.read_line.new.draft
    (left c.args.source.now) (left c.loop-lines.source) (left c.read_line.new.source) _ _ (search rules) c.loop-lines.invariant.most c.loop-lines.invariant.passed c.in_err-read_line.ensures.reads

pub returns-in_err-read_line-clause-told : goal.returns-in_err-read_line-clause-told
returns-in_err-read_line-clause-told g c =
    let left = g.S.Source.left in
    let k = g.D.TakesLines.language in
    tells-handed c.from_residual-in_err-read_line.result c.in_err-read_line.field-0.0 (λ r. TellsLines k r c.read_line.new.draft (left c.args.source.now)) c.from_residual-in_err-read_line.ensures.1
    (tells-refused k c.in_err-read_line.field-0.0 c.loop-lines.lines c.read_line.new.lines c.loop-lines.draft c.read_line.new.draft
    (left c.args.source.now) (left c.loop-lines.source) (left c.read_line.new.source) _ _ c.loop-lines.invariant.most c.loop-lines.invariant.same c.in_err-read_line.ensures.reads)

pub returns-in-Ok-clause-told : goal.returns-in-Ok-clause-told
returns-in-Ok-clause-told g c =
    let left = g.S.Source.left in
    let reads = rw c.if-branch.false at c.in_ok-read_line.ensures.reads in
    ended g.D.TakesLines.language (left c.args.source.now) c.loop-lines.lines c.read_line.new.lines c.loop-lines.draft c.read_line.new.draft (left c.loop-lines.source) (left c.read_line.new.source) c.loop-lines.invariant.same reads

pub returns-clause-told : goal.returns-clause-told
returns-clause-told g c =
    let left = g.S.Source.left in
    let reads = rw c.if-branch.false at c.in_ok-read_line.ensures.reads in
    ended-early g.D.TakesLines.language (left c.args.source.now) c.loop-lines.lines c.read_line.new.lines c.loop-lines.draft c.read_line.new.draft (left c.loop-lines.source) (left c.read_line.new.source) _ c.in-Err.cause c.into.result g.met.D.TakesLines.by_line
    c.loop-lines.invariant.same reads (ap (λ n. n + 1) c.number.ensures) c.in-Err.ensures c.into.ensures

pub returns-in_err-read_line-clause-over : goal.returns-in_err-read_line-clause-over
returns-in_err-read_line-clause-over g c =
    λ taken is.
    let left = g.S.Source.left in
    reads-too-many g.D.TakesLines.language c.in_err-read_line.field-0.0 c.loop-lines.lines c.read_line.new.lines taken c.loop-lines.draft c.read_line.new.draft
    (left c.args.source.now) (left c.loop-lines.source) (left c.read_line.new.source) _ _ (search rules) c.loop-lines.invariant.most c.loop-lines.invariant.passed c.in_err-read_line.ensures.reads
