use Rattle.std.proofs.Common.{length, ap, ◌∙◌, get_or, arith}
use Rattle.net_units.specs.Numbers.{actor_number}
use Rattle.channel_report.proofs.tally.TallyWatch.steps_of.Goals as goal

pub returns : goal.returns
returns c = λ parts run seen.
    let n = actor_number c.args.actor in
    let small = c.args.actor.small in
    let same = ap length c.as_slice.ensures.value in
    c.steps_at.ensures 0 (omega (arith, small, same, seen.made.all)) ∙ ap (λ counts. get_or counts n 0) c.as_slice.ensures.value ∙ seen.made.tells n 0 (omega (arith, small))
