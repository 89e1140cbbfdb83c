-- A link on its own in a window, for a watcher that may lag: of its replies those that tell something are kept, in their order, and it is
-- counted how many of these have been shown.
use Rattle.std.specs.Prelude.{◌≡◌, ℕ, ◌-◌, ◌^◌, List, [], ◌∷◌, ◌++◌, drop, filter}
use Rattle.link_quota.specs.Any.{any_rules, AnyStands}
use Rattle.link_quota.specs.declared.any_link.AnyLink.{AnyLink}
use Rattle.link_steps.specs.Split.{Link}
use Rattle.link_steps.specs.declared.asks.Ask.{Ask}
use Rattle.link_steps.specs.declared.replies.Entry.{Entry}
use Rattle.link_steps.specs.declared.replies.Reply.{Reply}
use Rattle.link_steps.specs.declared.replies.Reply.TheVariants.{Ticked}
use Rattle.run_engine.specs.schedules.Lagging.{is_told}
use Rattle.plane_workers.specs.Answered.{answered, replies_along}
use Rattle.plane_workers.specs.declared.track.Track.{Track}

-- a link was asked these: for every history that it stood for, it stands for the one with them, and these are the replies that tell
-- something, by the rules
pub record HasTold {X : Type 0} (rules : X → Link) (stands : X → List Entry → Type 0) (old new : X) (asks : List Ask) (replies : List Reply) : Type 0 where
  pub same : rules new ≡ rules old
  pub stands_on : (h : List Entry) → stands old h → stands new (answered (rules old) h asks)
  pub told : (h : List Entry) → stands old h → replies ≡ filter is_told (replies_along (rules old) h asks)

-- and these stand behind what was told before
pub record TellsMore (old new : AnyLink) (asks : List Ask) (before after : List Reply) : Type 0 where
  pub more : List Reply
  pub tells : HasTold any_rules AnyStands old new asks more
  pub behind : after ≡ before ++ more

abbrev pub track_rules : Track → Link
track_rules track = any_rules track.link

abbrev pub track_stands : Track → List Entry → Type 0
track_stands track = AnyStands track.link

-- those that aren't shown yet
abbrev pub track_left : Track → List Reply
track_left track = drop track.shown track.told.items

-- ---- when the next of them was given

-- no link's clock is as late
abbrev pub never : ℕ
never = 2 ^ 64 - 1

abbrev pub clock_told : Reply → ℕ
clock_told (Ticked clock full sent best_sent best_lost) = clock
clock_told _ = never

abbrev pub next_clock : List Reply → ℕ
next_clock [] = never
next_clock (reply ∷ more) = clock_told reply
