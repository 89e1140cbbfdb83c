-- The replies that decide a request: those in a run to the reserves, the relaxes and the denies of its channel.
use Rattle.std.specs.Prelude.{ℕ, Bool, false, nat_eq, if◌then◌else◌, List, [], ◌∷◌, ◌++◌}
use Rattle.net_units.specs.Numbers.{channel_number}
use Rattle.link_steps.specs.declared.asks.Ask.{Ask}
use Rattle.link_steps.specs.declared.asks.Ask.TheVariants.{Reserve, Relax, Deny}
use Rattle.link_steps.specs.declared.replies.Reply.{Reply}
use Rattle.run_record.specs.declared.done.Done.{Done}

-- whether a setup of the channel of this number asks so
abbrev pub is_setup_ask : ℕ → Ask → Bool
is_setup_ask c (Reserve chan contract kind delay up_reach first next) = nat_eq (channel_number chan) c
is_setup_ask c (Relax chan level up_bound) = nat_eq (channel_number chan) c
is_setup_ask c (Deny chan) = nat_eq (channel_number chan) c
is_setup_ask c _ = false

-- the replies of a run to them, in the order of time
unfoldable pub setup_replies : ℕ → List Done → List Reply
setup_replies c [] = []
setup_replies c (done ∷ past) = if is_setup_ask c done.ask then setup_replies c past ++ done.reply ∷ [] else setup_replies c past
