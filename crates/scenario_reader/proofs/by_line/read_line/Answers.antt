use Rattle.scenario_reader.specs.ReadSteps.{ReadsLine}
use Rattle.scenario_reader.proofs.Passing.ReadingAhead.{cut-reads, end-reads, line-reads, over-reads, passes-fault, refused-reads, tells-handed}
use Rattle.scenario_reader.proofs.by_line.read_line.Goals as goal

pub returns-in_err-take_line-in-Ok-Line-clause-reads : goal.returns-in_err-take_line-in-Ok-Line-clause-reads
returns-in_err-take_line-in-Ok-Line-clause-reads g c =
    let k = g.D.TakesLines.language in
    let left = g.S.Source.left in
    let faults = g.S.Source.faults in
    let a = rw c.in-Ok-Line.field-0-is at c.in-Ok-Line.ensures.answers in
    let told = rw c.in-Ok-Line.field-0-is at c.in-Ok-Line.ensures.told in
    let adds = rw (c.number.ensures, c.line.ensures) at c.in_err-take_line-in-Ok-Line.ensures in
    tells-handed c.from_residual.result c.in_err-take_line-in-Ok-Line.field-0.0
    (λ r. ReadsLine k r c.args.lines.now c.read_line.new.self c.args.draft.now c.take_line.new.draft (left c.args.source.now) (left c.read_line.new.source) (faults c.args.source.now) (faults c.read_line.new.source)) c.from_residual.ensures.1
    (refused-reads k c.args.lines.now c.read_line.new.self c.args.draft.now c.take_line.new.draft (left c.args.source.now) (left c.read_line.new.source) _ _ _ g.met.D.TakesLines.by_line a.number (told c.requires.source) adds)

pub returns-in_ok-take_line-in-Ok-Line-clause-reads : goal.returns-in_ok-take_line-in-Ok-Line-clause-reads
returns-in_ok-take_line-in-Ok-Line-clause-reads g c =
    let left = g.S.Source.left in
    let a = rw c.in-Ok-Line.field-0-is at c.in-Ok-Line.ensures.answers in
    let told = rw c.in-Ok-Line.field-0-is at c.in-Ok-Line.ensures.told in
    let adds = rw (c.number.ensures, c.line.ensures) at c.in_ok-take_line-in-Ok-Line.ensures in
    line-reads g.D.TakesLines.language c.args.lines.now c.read_line.new.self c.args.draft.now c.take_line.new.draft (left c.args.source.now) (left c.read_line.new.source) g.met.D.TakesLines.by_line c.read_line.ensures.stands c.requires.source a (told c.requires.source) adds

pub returns-in-Err-ReadFault-clause-reads : goal.returns-in-Err-ReadFault-clause-reads
returns-in-Err-ReadFault-clause-reads g c =
    let a = rw c.in-Err-ReadFault.field-0-is at c.in-Err-ReadFault.ensures.answers in
    record {
      rises = a.rises;
      stops = passes-fault g.D.TakesLines.language c.args.lines.now c.read_line.new.self c.args.draft.now (g.S.Source.left c.args.source.now) (g.S.Source.left c.read_line.new.source) _ _ a;
    }

pub returns-in-Err-TooLong-clause-reads : goal.returns-in-Err-TooLong-clause-reads
returns-in-Err-TooLong-clause-reads g c =
    let a = rw c.in-Err-TooLong.field-0-is at c.in-Err-TooLong.ensures.answers in
    let told = rw c.in-Err-TooLong.field-0-is at c.in-Err-TooLong.ensures.told in
    rw c.in-Err-TooLong.field-0-is (over-reads g.D.TakesLines.language c.args.lines.now c.read_line.new.self c.in-Err-TooLong.taken c.args.draft.now (g.S.Source.left c.args.source.now) (g.S.Source.left c.read_line.new.source) g.met.D.TakesLines.by_line a (told c.requires.source))

pub returns-in-Ok-End-clause-reads : goal.returns-in-Ok-End-clause-reads
returns-in-Ok-End-clause-reads g c =
    let left = g.S.Source.left in
    let a = rw c.in-Ok-End.field-0-is at c.in-Ok-End.ensures.answers in
    let told = rw c.in-Ok-End.field-0-is at c.in-Ok-End.ensures.told in
    end-reads g.D.TakesLines.language c.args.lines.now c.read_line.new.self c.args.draft.now (left c.args.source.now) (left c.read_line.new.source) c.requires.source a (told c.requires.source)

pub returns-in-Err-NoLineEnd-clause-reads : goal.returns-in-Err-NoLineEnd-clause-reads
returns-in-Err-NoLineEnd-clause-reads g c =
    let left = g.S.Source.left in
    let a = rw c.in-Err-NoLineEnd.field-0-is at c.in-Err-NoLineEnd.ensures.answers in
    let told = rw c.in-Err-NoLineEnd.field-0-is at c.in-Err-NoLineEnd.ensures.told in
    rw c.in-Err-NoLineEnd.field-0-is (cut-reads g.D.TakesLines.language c.args.lines.now c.read_line.new.self c.in-Err-NoLineEnd.line c.args.draft.now (left c.args.source.now) (left c.read_line.new.source) g.met.D.TakesLines.by_line a (told c.requires.source))
