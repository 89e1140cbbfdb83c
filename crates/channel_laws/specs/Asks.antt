-- Words on one ask and its reply: which asks reserve, which name another channel or none, and which replies an admissible
-- history may give.
use Rattle.std.specs.Prelude.{◌≢◌, ℕ, ◌≤◌, List, length}
use Rattle.net_units.specs.Numbers.{channel_number, level_number}
use Rattle.net_units.specs.declared.numbers.Level.{Level}
use Rattle.link_steps.specs.declared.asks.Ask.{Ask}
use Rattle.link_steps.specs.declared.asks.Ask.TheVariants.{Reserve, Relax, Deny, Submit, Release}
use Rattle.link_steps.specs.declared.replies.Entry.{Entry}
use Rattle.link_steps.specs.declared.replies.Reply.{Reply}
use Rattle.link_steps.specs.declared.shape.LinkShape.{LinkShape}
use Rattle.link_steps.specs.Admissible.{MayAnswer}
use Rattle.link_steps.specs.Scan.{clock_of, scan_of}

-- the reply is one that an admissible history may give to the ask
abbrev pub MayReplyTo : LinkShape → List Entry → Ask → Reply → Type 0
MayReplyTo shape h ask reply = MayAnswer shape (clock_of h) (scan_of shape h) ask reply

abbrev pub IsReserve : Ask → Type 0
IsReserve (Reserve chan contract kind delay up_reach first next) = Unit {0}
IsReserve _ = ⊥

-- what an offer tells: it is the reply to a reserve, and its level is one of the link's
pub record OfferTells (shape : LinkShape) (ask : Ask) (level : Level) : Type 0 where
  pub reserve : IsReserve ask
  pub most : level_number level ≤ length shape.bounds

-- the ask names no channel, or another
abbrev pub IsOff : ℕ → Ask → Type 0
IsOff c (Reserve chan contract kind delay up_reach first next) = channel_number chan ≢ c
IsOff c (Relax chan level up_bound) = channel_number chan ≢ c
IsOff c (Deny chan) = channel_number chan ≢ c
IsOff c (Submit chan count gap size) = channel_number chan ≢ c
IsOff c (Release chan upstream) = channel_number chan ≢ c
IsOff c _ = Unit {0}

-- it neither reserves, relaxes nor denies the channel
abbrev pub IsMild : ℕ → Ask → Type 0
IsMild c (Reserve chan contract kind delay up_reach first next) = channel_number chan ≢ c
IsMild c (Relax chan level up_bound) = channel_number chan ≢ c
IsMild c (Deny chan) = channel_number chan ≢ c
IsMild c _ = Unit {0}
