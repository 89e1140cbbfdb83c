use Rattle.std.proofs.Common.{reverse, take}
use Rattle.net_units.specs.Numbers.{channel_number}
use Rattle.run_engine.specs.replies.Verdicts.{setup_replies}
use Rattle.plan_answers.specs.Offers.{AreOffersOf}
use Rattle.plan_answers.proofs.offers.offers_among.Given as goal

-- the offers of the replies so far
abbrev pub invariant-loop-done : goal.invariant-loop-done
invariant-loop-done l = AreOffersOf l.offers (setup_replies (channel_number l.chan) (reverse (take l.done-index l.entries)))
