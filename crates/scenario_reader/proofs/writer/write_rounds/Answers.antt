use Rattle.text_writer.specs.Lines.{whole_line}
use Rattle.scenario_reader.specs.line.Rounds.{rounds_fields, tail_fields, rounds_text}
use Rattle.text_writer.proofs.TextsTold.{both-told, first-failed}
use Rattle.scenario_reader.proofs.writer.write_rounds.Goals as goal

pub returns-in_err-tell_line : goal.returns-in_err-tell_line
unfolding rounds_text
returns-in_err-tell_line g c =
    first-failed c.from_residual.result c.in_err-tell_line.field-0.0 _ _ c.args.out.now c.tell_line.new.gather _ _ (whole_line (rounds_fields c.args.rounds)) (whole_line (tail_fields c.args.tail)) c.from_residual.ensures.1 (c.in_err-tell_line.ensures.told (whole_line (rounds_fields c.args.rounds)) c.rounds_line.ensures)

pub returns : goal.returns
unfolding rounds_text
returns g c =
    both-told c.tell_line-2.result _ _ _ _ _ _ _ _ _ (whole_line (rounds_fields c.args.rounds)) (whole_line (tail_fields c.args.tail)) (c.in_ok-tell_line.ensures.told (whole_line (rounds_fields c.args.rounds)) c.rounds_line.ensures)
    (c.tell_line-2.ensures.told (whole_line (tail_fields c.args.tail)) c.tail_line.ensures)
