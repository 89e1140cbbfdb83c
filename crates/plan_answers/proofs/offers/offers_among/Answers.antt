use Rattle.std.proofs.Common.{false, List, reverse, refl, ap, ◌∙◌}
use Rattle.std.proofs.lemmas.List.{take_all}
use Rattle.net_units.specs.Numbers.{channel_number}
use Rattle.run_engine.specs.replies.Verdicts.{setup_replies}
use Rattle.run_record.specs.declared.done.Done.{Done}
use Rattle.setup_protocol.specs.Setup.{offers_in}
use Rattle.plan_answers.specs.declared.offers.Offers.{Offers}
use Rattle.plan_answers.proofs.OffersKept.{none-seen, seen-more}
use Rattle.plan_answers.proofs.offers.offers_among.Goals as goal

pub loop-done-init : goal.loop-done-init
loop-done-init c =
    let none : Offers = record { levels = c.new.result; are_over = false } in
    none-seen none (channel_number c.args.chan) c.new.ensures.items refl

pub loop-done-preserved : goal.loop-done-preserved
loop-done-preserved c =
    seen-more c.loop-done.offers c.see.new.self (channel_number c.args.chan) c.args.entries.now c.loop-done.done-index c.done-item.result c.loop-done-test.true c.done-item.is c.in_ok-see.ensures c.loop-done.invariant

pub returns : goal.returns
returns c =
    c.loop-done.invariant.levels
    ∙ ap (λ (entries : List Done). offers_in (setup_replies (channel_number c.args.chan) (reverse entries))) (take_all c.loop-done.done-index c.args.entries.now c.loop-done-test.false)
