-- Who owns a channel. One caller opens a request, sends on it and then may close it; after that it never names it again. No other
-- caller names its channel.
use Rattle.std.specs.Prelude.{◌≡◌, ◌≢◌, ℕ, ◌<◌, ◌⊎◌, Option, Some, None, List, [], ◌∷◌, length}
use Rattle.std.specs.List.{slice_get}
use Rattle.net_units.specs.Numbers.{channel_number}
use Rattle.net_units.specs.declared.numbers.ChanNo.{ChanNo}
use Rattle.hop_reservation.specs.declared.route.Hop.{Hop}
use Rattle.link_steps.specs.Lists.{Each}
use Rattle.setup_protocol.specs.Hops.{RequestFits}
use Rattle.setup_protocol.specs.declared.request.Request.{Request}
use Rattle.call_script.specs.Tasks.{Network}
use Rattle.call_script.specs.declared.tasks.Task.{Task}
use Rattle.call_script.specs.declared.tasks.Task.TheVariants.{Opens, Sends, Closes, Moves}

-- packets of another channel, or best-effort ones, which have none
abbrev pub PacketsOff : ℕ → Option ChanNo → Type 0
PacketsOff c None = Unit {0}
PacketsOff c (Some chan) = channel_number chan ≢ c

-- the task names another channel, or none
abbrev pub TaskOff : ℕ → Task → Type 0
TaskOff c (Opens request) = channel_number request.chan ≢ c
TaskOff c (Sends link chan count gap size) = PacketsOff c chan
TaskOff c (Closes request) = channel_number request.chan ≢ c
TaskOff c (Moves old new gap size) = (channel_number old.chan ≢ c) × (channel_number new.chan ≢ c)

-- a send on the request, at the first hop of its route
pub record IsSendOn (request : Request) (task : Task) : Type 0 where
  pub hop : Hop
  pub count : ℕ
  pub gap : ℕ
  pub size : ℕ
  pub stands : slice_get request.route 0 ≡ Some hop
  pub is : task ≡ Sends hop.link (Some request.chan) count gap size

-- a move of what is planned on the request to another, and from another to it
pub record IsMoveFrom (request : Request) (task : Task) : Type 0 where
  pub new : Request
  pub gap : ℕ
  pub size : ℕ
  pub is : task ≡ Moves request new gap size
  pub other : channel_number new.chan ≢ channel_number request.chan

pub record IsMoveOnto (request : Request) (task : Task) : Type 0 where
  pub old : Request
  pub gap : ℕ
  pub size : ℕ
  pub is : task ≡ Moves old request gap size
  pub other : channel_number old.chan ≢ channel_number request.chan

-- once a move has left it, a request may be closed
abbrev pub ClosesOnce : Request → List Task → Type 0
ClosesOnce request [] = Unit {0}
ClosesOnce request (task ∷ tasks) =
    (TaskOff (channel_number request.chan) task × ClosesOnce request tasks)
    ⊎ ((task ≡ Closes request) × Each (TaskOff (channel_number request.chan)) tasks)

-- it is sent on, and closed at last or left by a move
abbrev pub SendsOnce : Request → List Task → Type 0
SendsOnce request [] = Unit {0}
SendsOnce request (task ∷ tasks) =
    (TaskOff (channel_number request.chan) task × SendsOnce request tasks)
    ⊎ ((IsSendOn request task × SendsOnce request tasks)
    ⊎ (((task ≡ Closes request) × Each (TaskOff (channel_number request.chan)) tasks)
    ⊎ (IsMoveFrom request task × ClosesOnce request tasks)))

-- after its opening a request may be moved onto before it is used; a send or a move from it is its first use
abbrev pub UsedOnce : Request → List Task → Type 0
UsedOnce request [] = Unit {0}
UsedOnce request (task ∷ tasks) =
    (TaskOff (channel_number request.chan) task × UsedOnce request tasks)
    ⊎ ((IsMoveOnto request task × SendsOnce request tasks)
    ⊎ ((IsSendOn request task × SendsOnce request tasks)
    ⊎ (((task ≡ Closes request) × Each (TaskOff (channel_number request.chan)) tasks)
    ⊎ (IsMoveFrom request task × ClosesOnce request tasks))))

abbrev pub FullScript : Request → List Task → Type 0
FullScript request [] = Unit {0}
FullScript request (task ∷ tasks) = (TaskOff (channel_number request.chan) task × FullScript request tasks) ⊎ ((task ≡ Opens request) × UsedOnce request tasks)

-- the caller of this number opens the request, sends on it and closes it; no other caller names its channel
pub record OwnedFully (network : Network) (request : Request) (owner : ℕ) : Type 0 where
  pub inside : owner < length network.scripts
  pub own : (tasks : List Task) → slice_get network.scripts owner ≡ Some tasks → FullScript request tasks
  pub others : (actor : ℕ) (tasks : List Task) → actor ≢ owner → slice_get network.scripts actor ≡ Some tasks → Each (TaskOff (channel_number request.chan)) tasks

-- the channel of this number has an owner
pub record IsOwned (network : Network) (c : ℕ) : Type 0 where
  pub request : Request
  pub owner : ℕ
  pub sound : RequestFits network.links request
  pub full : OwnedFully network request owner
  pub chan : channel_number request.chan ≡ c

-- no script names it
abbrev pub IsUnnamed : Network → ℕ → Type 0
IsUnnamed network c = (actor : ℕ) (tasks : List Task) → slice_get network.scripts actor ≡ Some tasks → Each (TaskOff c) tasks

-- each channel has one owner, or no script names it
abbrev pub AllOwned : Network → Type 0
AllOwned network = (c : ℕ) → IsOwned network c ⊎ IsUnnamed network c
