use Rattle.std.proofs.Common.{reverse, subst}
use Rattle.std.proofs.lemmas.List.{reverse-reverse}
use Rattle.link_steps.specs.Lists.{Each}
use Rattle.run_record.specs.Rows.{IsEarly}
use Rattle.run_record.specs.declared.done.Done.{Done}
use Rattle.packet_answers.proofs.playing.Played.rows.Goals as goal

pub rows-requires : goal.rows-requires
rows-requires c =
    let entries = c.args.self.now.record.entries in
    record { early = subst (Each (λ (done : Done). IsEarly done.reply)) (reverse-reverse entries) (c.every_tick_is_early.ensures c.requires.0 (reverse entries) c.requires.1.plan c.requires.1.run) }
