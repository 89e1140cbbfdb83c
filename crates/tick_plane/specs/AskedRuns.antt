-- What a link is asked in a window, where its ticks are counted and not written out one by one.
use Rattle.std.specs.Prelude.{ℕ, zero, suc, List, [], ◌∷◌, ◌++◌}
use Rattle.link_steps.specs.declared.asks.Ask.{Ask}
use Rattle.link_steps.specs.declared.asks.Ask.TheVariants.{Arrive, Tick}
use Rattle.tick_plane.specs.declared.asked.Asked.{Asked}
use Rattle.tick_plane.specs.declared.asked.Asked.TheVariants.{Arrives, Ticks}

-- so many ticks
unfoldable pub ticks : ℕ → List Ask
ticks zero = []
ticks (suc n) = Tick ∷ ticks n

-- the asks, written out
unfoldable pub asks_in : List Asked → List Ask
asks_in [] = []
asks_in (Arrives packet ∷ more) = Arrive packet ∷ asks_in more
asks_in (Ticks count ∷ more) = ticks count ++ asks_in more
