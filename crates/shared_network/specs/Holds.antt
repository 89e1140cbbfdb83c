-- What a link holds of a channel, as the owner's own entries there show. Nobody else asks for the channel, so these entries
-- determine it: an offer is held until it is denied, and a relax commits it. Once the channel is released, or where the entries
-- don't determine it, nothing is said.
use Rattle.std.specs.Prelude.{◌≡◌, ◌==◌, ℕ, false, Option, Some, None, if◌then◌else◌, List, [], ◌∷◌}
use Rattle.net_units.specs.Numbers.{channel_number}
use Rattle.net_units.specs.declared.numbers.Level.{Level}
use Rattle.link_steps.specs.Reservation.{Reservation, is_phase, tentative, committed}
use Rattle.link_steps.specs.declared.asks.Ask.{Ask}
use Rattle.link_steps.specs.declared.asks.Ask.TheVariants.{Reserve, Relax, Deny, Release}
use Rattle.link_steps.specs.declared.replies.Phase.TheVariants.{Closing}
use Rattle.link_steps.specs.declared.replies.Reply.{Reply}
use Rattle.link_steps.specs.declared.replies.Reply.TheVariants.{Offer, Relaxed, Denied, Refused}
use Rattle.link_ledger.specs.declared.entries.OwnEntry.{OwnEntry}

-- no reservation, this one, or nothing is told
pub data Hold : Type 0 where
  Free : Hold
  Holds : Reservation → Hold
  Untold : Hold

-- after an offer with these terms
abbrev pub hold_offered : Hold → Reservation → Hold
hold_offered Free terms = Holds terms
hold_offered (Holds old) terms = Untold
hold_offered Untold terms = Untold

-- after the reply to a reserve, whose offer at a level and reach has these terms
abbrev pub reserved : Hold → (Level → Level → Reservation) → Reply → Hold
reserved hold terms (Offer level reach) = hold_offered hold (terms level reach)
reserved hold terms (Refused refusal) = hold
reserved hold terms _ = Untold

abbrev pub hold_settled : Hold → (Reservation → Reservation) → Hold
hold_settled Free change = Free
hold_settled (Holds terms) change = Holds (change terms)
hold_settled Untold change = Untold

-- after the reply to a relax, which changes the terms so
abbrev pub hold_relaxed : Hold → (Reservation → Reservation) → Reply → Hold
hold_relaxed hold change (Relaxed clock) = hold_settled hold change
hold_relaxed hold change _ = Untold

abbrev pub freed : Hold → Hold
freed Free = Free
freed (Holds terms) = Free
freed Untold = Untold

-- after the reply to a deny
abbrev pub denied : Hold → Reply → Hold
denied hold Denied = freed hold
denied hold _ = Untold

-- what one entry makes of it
abbrev pub hold_with : ℕ → Hold → Ask → Reply → Hold
hold_with c hold (Reserve chan contract kind delay up_reach first next) reply = if channel_number chan == c then reserved hold (λ level reach. tentative chan contract kind first next up_reach level reach) reply else hold
hold_with c hold (Relax chan level up_bound) reply = if channel_number chan == c then hold_relaxed hold (committed level up_bound) reply else hold
hold_with c hold (Deny chan) reply = if channel_number chan == c then denied hold reply else hold
hold_with c hold (Release chan upstream) reply = if channel_number chan == c then Untold else hold
hold_with c hold _ reply = hold

unfoldable pub hold_from : ℕ → Hold → List OwnEntry → Hold
hold_from c hold [] = hold
hold_from c hold (e ∷ own) = hold_from c (hold_with c hold e.ask e.reply) own

-- by the own entries at the link, in their order
abbrev pub hold_of : ℕ → List OwnEntry → Hold
hold_of c own = hold_from c Free own

-- it tells what is held
abbrev pub IsHeld : Hold → Option Reservation → Type 0
IsHeld Free held = held ≡ None
IsHeld (Holds terms) held = (held ≡ Some terms) × (is_phase terms.phase Closing ≡ false)
IsHeld Untold held = Unit {0}
