-- A channel on which nothing was submitted at a link, and what its first submit and a release come to.
use Rattle.std.specs.Prelude.{◌≢◌, ◌≤◌, ℕ, List}
use Rattle.net_units.specs.Limits.{most_packets}
use Rattle.net_units.specs.Numbers.{channel_number}
use Rattle.link_steps.specs.declared.asks.Ask.{Ask}
use Rattle.link_steps.specs.declared.asks.Ask.TheVariants.{Submit}
use Rattle.link_steps.specs.declared.replies.Entry.{Entry}
use Rattle.link_steps.specs.declared.replies.Reply.{Reply}
use Rattle.link_steps.specs.declared.replies.Reply.TheVariants.{Planned, Closing}
use Rattle.link_steps.specs.Lists.{Each}

-- the ask submits nothing on the channel
abbrev pub IsUnsent : ℕ → Ask → Type 0
IsUnsent c (Submit chan count gap size) = channel_number chan ≢ c
IsUnsent c _ = Unit {0}

-- nor does any in the history
abbrev pub NoneSent : ℕ → List Entry → Type 0
NoneSent c h = Each (λ e. IsUnsent c e.ask) h

abbrev pub IsPlanned : Reply → Type 0
IsPlanned (Planned clock) = Unit {0}
IsPlanned _ = ⊥

-- a release cancels no more packets than one submit may plan
abbrev pub FewCancelled : Reply → Type 0
FewCancelled (Closing count cancelled) = cancelled ≤ most_packets
FewCancelled _ = Unit {0}
