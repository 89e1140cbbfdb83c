-- The counts go on by what the tick tells.
use Rattle.std.proofs.Common.{◌+◌, refl, ap, ◌∙◌, arith}
use Rattle.link_steps.specs.Scan.{clock_of}
use Rattle.link_steps.specs.declared.asks.Ask.TheVariants.{Tick}
use Rattle.channel_report.specs.Links.{one_if}
use Rattle.channel_report.specs.Tallies.{at_clock}
use Rattle.channel_report.proofs.CountsPerLink.{are-small}
use Rattle.channel_report.proofs.LaggingTallies.{other-untold, told-stays, told-ticked}
use Rattle.channel_report.proofs.link_tally.LinkTally.tell.Goals as goal

pub overflow_add-self : goal.overflow_add-self
overflow_add-self c = (let small = are-small c.requires.0 (at_clock (clock_of c.requires.0) c.args.self.now) c.requires.1.0 c.requires.1.1 in omega (arith, small.sent, c.one.ensures.most))

pub overflow_add-self-in-Ticked-2 : goal.overflow_add-self-in-Ticked-2
overflow_add-self-in-Ticked-2 c = (let small = are-small c.requires.0 (at_clock (clock_of c.requires.0) c.args.self.now) c.requires.1.0 c.requires.1.1 in omega (arith, small.best_sent, c.one-in-Ticked.ensures.most))

pub overflow_add-self-in-Ticked-3 : goal.overflow_add-self-in-Ticked-3
overflow_add-self-in-Ticked-3 c = (let small = are-small c.requires.0 (at_clock (clock_of c.requires.0) c.args.self.now) c.requires.1.0 c.requires.1.1 in omega (arith, small.best_lost, c.one-in-Ticked-2.ensures.most))

pub returns-in-Ticked : goal.returns-in-Ticked
returns-in-Ticked c = λ h is.
    told-ticked h c.args.reply.now c.args.self.now c.in-Ticked.clock c.in-Ticked.full c.in-Ticked.sent c.in-Ticked.best_sent c.in-Ticked.best_lost _ _ _ _ is c.in-Ticked.is
    (ap (λ n. c.args.self.now.sent + n) (c.one.ensures.value ∙ ap one_if c.is_some.ensures)) (ap (λ n. c.args.self.now.dropped + n) c.wide.ensures.value) (omega (arith, c.wide.ensures.value, c.wide.ensures.few))
    (ap (λ n. c.args.self.now.best_sent + n) c.one-in-Ticked.ensures.value) (ap (λ n. c.args.self.now.best_lost + n) c.one-in-Ticked-2.ensures.value)

pub returns-in_default : goal.returns-in_default
returns-in_default c = λ h is. told-stays h Tick c.args.reply.now c.args.self.now refl (other-untold c.args.reply.now c.in_default.not-Ticked) is
