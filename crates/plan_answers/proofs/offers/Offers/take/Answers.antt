use Rattle.std.proofs.Common.{true, refl, ap, inl, inr}
use Rattle.setup_protocol.specs.Setup.{is_offer, level_in}
use Rattle.plan_answers.specs.declared.offers.Offers.{Offers}
use Rattle.plan_answers.proofs.OffersKept.{not-offer, offered-more, offered-over}
use Rattle.plan_answers.proofs.offers.Offers.take.Goals as goal

pub returns-in_default : goal.returns-in_default
returns-in_default c =
    let new : Offers = record { levels = c.args.self.now.levels; are_over = true } in
    λ replies kept. offered-over c.args.self.now new replies c.args.reply.now (inr (not-offer c.args.reply.now c.in_default.not-Offer)) refl refl kept

pub returns-then-self : goal.returns-then-self
returns-then-self c = λ replies kept. offered-over c.args.self.now c.args.self.now replies c.args.reply.now (inl c.if-self.true) refl c.if-self.true kept

pub returns : goal.returns
returns c =
    let new : Offers = record { levels = c.push.new.self; are_over = c.args.self.now.are_over } in
    λ replies kept. offered-more c.args.self.now new replies c.args.reply.now c.in-Offer.level c.if-self.false (ap is_offer c.in-Offer.is) (ap level_in c.in-Offer.is) c.in_ok-push.ensures.items refl kept
