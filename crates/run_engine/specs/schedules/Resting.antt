-- An engine that rests: no packet reaches a link in the next n rounds, and nothing falls due in a link. Then it makes these rounds in
-- one stride, and stands for its runs continued by n quiet rounds.
use Rattle.std.specs.Prelude.{◌≡◌, ℕ, ◌+◌, ◌<◌, ◌≤◌, Some, List, length}
use Rattle.std.specs.List.{slice_get}
use Rattle.net_units.specs.Numbers.{link_number}
use Rattle.net_units.specs.declared.numbers.LinkNo.{LinkNo}
use Rattle.link_quota.specs.Any.{any_clock, any_account, any_rules, AnyStands}
use Rattle.link_quota.specs.declared.any_link.AnyLink.{AnyLink}
use Rattle.link_steps.specs.declared.asks.Ask.TheVariants.{Tick}
use Rattle.link_steps.specs.declared.replies.Entry.{Entry}
use Rattle.link_steps.specs.Lists.{Each}
use Rattle.link_steps.specs.Quiet.{RestsUntil, quiet_reply, quiet_ticks}
use Rattle.link_steps.specs.Replies.{reply_to}
use Rattle.call_script.specs.Parts.{PlanParts}
use Rattle.call_script.specs.Tasks.{network_of}
use Rattle.tick_plane.specs.QuietRounds.{HasQuietRounds}
use Rattle.run_engine.specs.schedules.Quiet.{rested, RestsFor, GoesOnAtRest}
use Rattle.run_engine.specs.schedules.Standing.{EngineStands}
use Rattle.run_engine.specs.declared.engine.Engine.{Engine}
use Rattle.run_record.specs.declared.done.Done.{Done}

-- ---- links

-- nothing falls due in its next n ticks
abbrev pub RestsBy : ℕ → AnyLink → Type 0
RestsBy n link = (until : ℕ) × (RestsUntil (any_rules link).shape until (any_account link) × (any_clock link + n ≤ until))

-- it has made n such ticks
pub record HasRested (n : ℕ) (old new : AnyLink) : Type 0 where
  pub rules : any_rules new ≡ any_rules old
  pub made : (h : List Entry) → AnyStands old h → AnyStands new (quiet_ticks n (any_clock old) h)
  pub legal : (m : ℕ) (h : List Entry) → m < n → AnyStands old h → quiet_reply (any_clock old + m) ≡ reply_to (any_rules old) (quiet_ticks m (any_clock old) h) Tick

-- each of them has
pub record HaveRested (n : ℕ) (old new : List AnyLink) : Type 0 where
  pub same : length new ≡ length old
  pub each : (k : ℕ) (link next : AnyLink) → slice_get old k ≡ Some link → slice_get new k ≡ Some next → HasRested n link next

-- ---- an engine

-- the link of this number rests in its next tick
abbrev pub RestsAt : Engine → LinkNo → Type 0
RestsAt engine to = (link : AnyLink) → slice_get engine.links.items (link_number to) ≡ Some link → RestsBy 1 link

-- its plane and its links rest for n rounds
pub record EngineRests (engine : Engine) (n : ℕ) : Type 0 where
  pub plane : HasQuietRounds engine.actors.plane.rounds n engine.actors.plane.at
  pub links : Each (RestsBy n) engine.links.items

-- the run rests for n rounds and goes on by as many quiet ones, and it stands for the run with them
pub record MakesStride (parts : PlanParts) (engine : Engine) (run : List Done) (n : ℕ) : Type 0 where
  pub rests : RestsFor (network_of parts) n run
  pub goes : GoesOnAtRest (network_of parts) n run
  pub stands : EngineStands parts engine (rested (network_of parts) n run)
