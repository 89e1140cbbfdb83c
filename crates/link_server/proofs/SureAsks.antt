-- An ask that is sure to be answered is an arrive or a tick, and takes no memory.
use Rattle.std.proofs.Common.{◌≡◌, refl}
use Rattle.link_steps.specs.declared.asks.Ask.{Ask}
use Rattle.link_steps.specs.declared.asks.Ask.TheVariants.{Reserve, Relax, Deny, Submit, Release, Arrive, Tick, Pour}
use Rattle.link_steps.specs.declared.asks.Packet.{Packet}
use Rattle.link_server.specs.Asks.{IsArriveOrTick, TakesNone}

pub is-tick : (ask : Ask) → IsArriveOrTick ask → ((packet : Packet) → ask ≡ Arrive packet → ⊥) → ask ≡ Tick
is-tick (Reserve chan contract kind delay up_reach first next) sure other = absurd sure
is-tick (Relax chan level up_bound) sure other = absurd sure
is-tick (Deny chan) sure other = absurd sure
is-tick (Submit chan count gap size) sure other = absurd sure
is-tick (Release chan upstream) sure other = absurd sure
is-tick (Arrive packet) sure other = absurd (other packet refl)
is-tick Tick sure other = refl
is-tick (Pour count gap size) sure other = absurd sure

pub takes-none : (ask : Ask) → IsArriveOrTick ask → TakesNone ask
takes-none (Reserve chan contract kind delay up_reach first next) sure = sure
takes-none (Relax chan level up_bound) sure = tt
takes-none (Deny chan) sure = tt
takes-none (Submit chan count gap size) sure = tt
takes-none (Release chan upstream) sure = tt
takes-none (Arrive packet) sure = tt
takes-none Tick sure = tt
takes-none (Pour count gap size) sure = tt
