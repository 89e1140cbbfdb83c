-- The counts go on by what the reply tells.
use Rattle.std.proofs.Common.{◌+◌, ap, ◌∙◌, arith}
use Rattle.channel_report.specs.Links.{one_if}
use Rattle.channel_report.proofs.CountsPerLink.{are-small, tally-else, tally-refused, tally-ticked}
use Rattle.channel_report.proofs.link_tally.LinkTally.add.Goals as goal

pub overflow_add-self : goal.overflow_add-self
overflow_add-self c = (let small = are-small c.requires.0 c.args.self.now c.requires.1.0 c.requires.1.1 in omega (arith, small.clock, c.ticks.ensures.most))

pub overflow_add-self-in-Ticked : goal.overflow_add-self-in-Ticked
overflow_add-self-in-Ticked c = (let small = are-small c.requires.0 c.args.self.now c.requires.1.0 c.requires.1.1 in omega (arith, small.sent, c.one.ensures.most))

pub overflow_add-self-in-Ticked-3 : goal.overflow_add-self-in-Ticked-3
overflow_add-self-in-Ticked-3 c = (let small = are-small c.requires.0 c.args.self.now c.requires.1.0 c.requires.1.1 in omega (arith, small.best_sent, c.one-in-Ticked.ensures.most))

pub overflow_add-self-in-Ticked-4 : goal.overflow_add-self-in-Ticked-4
overflow_add-self-in-Ticked-4 c = (let small = are-small c.requires.0 c.args.self.now c.requires.1.0 c.requires.1.1 in omega (arith, small.best_lost, c.one-in-Ticked-2.ensures.most))

pub overflow_add-self-in-Refused : goal.overflow_add-self-in-Refused
overflow_add-self-in-Refused c = (let small = are-small c.requires.0 c.args.self.now c.requires.1.0 c.requires.1.1 in omega (arith, small.pours_refused, c.pours.ensures.most))

pub returns-in-Ticked : goal.returns-in-Ticked
returns-in-Ticked c = λ h is.
    tally-ticked h c.args.ask.now c.args.reply.now c.args.self.now c.in-Ticked.clock c.in-Ticked.full c.in-Ticked.sent c.in-Ticked.best_sent c.in-Ticked.best_lost _ _ _ _ _ is c.in-Ticked.is (omega (arith, c.ticks.ensures.value c.args.self.now.clock))
    (ap (λ n. c.args.self.now.sent + n) (c.one.ensures.value ∙ ap one_if c.is_some.ensures)) (ap (λ n. c.args.self.now.dropped + n) c.wide.ensures.value) (omega (arith, c.wide.ensures.value, c.wide.ensures.few))
    (ap (λ n. c.args.self.now.best_sent + n) c.one-in-Ticked.ensures.value) (ap (λ n. c.args.self.now.best_lost + n) c.one-in-Ticked-2.ensures.value)

pub returns-in-Refused : goal.returns-in-Refused
returns-in-Refused c = λ h is.
    tally-refused h c.args.ask.now c.args.reply.now c.args.self.now c.in-Refused.field-0 _ _ is c.in-Refused.is (omega (arith, c.ticks.ensures.value c.args.self.now.clock)) (ap (λ n. c.args.self.now.pours_refused + n) c.pours.ensures.value)

pub returns-in_default : goal.returns-in_default
returns-in_default c = λ h is. tally-else h c.args.ask.now c.args.reply.now c.args.self.now _ is c.in_default.not-Ticked c.in_default.not-Refused (omega (arith, c.ticks.ensures.value c.args.self.now.clock))
