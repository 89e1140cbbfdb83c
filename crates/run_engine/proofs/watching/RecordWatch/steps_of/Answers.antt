use Rattle.std.proofs.Common.{length, reverse, ap, ◌∙◌}
use Rattle.run_engine.proofs.Words.{actor_number, replies_to}
use Rattle.run_engine.proofs.watching.RecordWatch.steps_of.Goals as goal

pub returns : goal.returns
returns c = λ parts run seen.
    c.steps_among.ensures ∙ ap (λ entries. length (replies_to (actor_number c.args.actor) (reverse entries))) c.entries.ensures
    ∙ ap (λ past. length (replies_to (actor_number c.args.actor) past)) seen
