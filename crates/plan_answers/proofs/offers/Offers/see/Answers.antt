use Rattle.std.proofs.Common.{sym, ◌∙◌}
use Rattle.net_units.specs.Numbers.{channel_number}
use Rattle.plan_answers.proofs.OffersKept.{seen-of-setup, seen-other}
use Rattle.plan_answers.proofs.offers.Offers.see.Goals as goal

pub returns-then-not-is_of_setup : goal.returns-then-not-is_of_setup
returns-then-not-is_of_setup c = λ past kept. seen-other c.args.self.now (channel_number c.args.chan) past c.args.done.now (sym c.is_of_setup.ensures ∙ c.if-not-is_of_setup.true) kept

pub returns : goal.returns
returns c =
    λ past kept. seen-of-setup c.args.self.now c.take.new.self (channel_number c.args.chan) past c.args.done.now (sym c.is_of_setup.ensures ∙ c.if-not-is_of_setup.false) c.in_ok-take.ensures kept
