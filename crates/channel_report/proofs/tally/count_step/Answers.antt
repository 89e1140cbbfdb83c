-- The actor of the entry has one more step.
use Rattle.std.proofs.Common.{◌∙◌, arith}
use Rattle.channel_report.proofs.StepTallies.{replies-few, steps-more}
use Rattle.channel_report.proofs.tally.count_step.Goals as goal

pub overflow_add-index_mut : goal.overflow_add-index_mut
overflow_add-index_mut c =
    let number = c.from-place.ensures ∙ c.get.ensures.value in
    let small = c.args.actor.small in
    let told = c.requires.1.0.tells c.from-place.result c.index_mut.result.now (omega (arith, number, small)) in
    let few = replies-few c.from-place.result c.requires.0 in
    omega (arith, c.index_mut.ensures.value, told, few, c.requires.1.1)

pub returns : goal.returns
returns c = λ past done are same.
    let number = c.from-place.ensures ∙ c.get.ensures.value in
    let small = c.args.actor.small in
    steps-more past done c.args.made.now.items c.from-place.result _ are (omega (arith, same, number)) (omega (arith, number, small)) (omega arith)
