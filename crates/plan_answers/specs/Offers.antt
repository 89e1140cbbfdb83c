-- The offers of a setup are kept as its replies come: the levels offered so far, and whether a reply that is no offer has come, after which
-- no more count.
use Rattle.std.specs.Prelude.{◌≡◌, ◌≢◌, true, false, List, [], map}
use Rattle.net_units.specs.Numbers.{level_number}
use Rattle.link_steps.specs.declared.replies.Reply.{Reply}
use Rattle.setup_protocol.specs.Setup.{offers_in, after_offers}
use Rattle.plan_answers.specs.declared.offers.Offers.{Offers}

-- these are the offers of a setup with these replies
pub record AreOffersOf (kept : Offers) (replies : List Reply) : Type 0 where
  pub levels : map level_number kept.levels.items ≡ offers_in replies
  pub going : kept.are_over ≡ false → after_offers replies ≡ []
  pub over : kept.are_over ≡ true → after_offers replies ≢ []
