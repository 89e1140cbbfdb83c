-- A tick keeps an account sound: rows expire, the sources bring their packets, and the link serves.
use Rattle.std.proofs.Common.{ℕ, suc, ◌+◌, length}
use Rattle.link_server.proofs.Words.{Tick, Reply, LinkShape}
use Rattle.link_steps.specs.Account.{Account, brought, present, occupies, account_after_tick, account_after}
use Rattle.link_server.specs.Sound.{IsSound, with_brought}
use Rattle.link_server.proofs.Sound.Service.{served-running}
use Rattle.link_server.proofs.Sound.Served.{service-sound}
use Rattle.link_server.proofs.Sound.Rows.{left-ahead}
use Rattle.link_server.proofs.Sound.Sources.{brought-sound, brought-rows}

pub sound-tick : (shape : LinkShape) (room : ℕ) (k : Account) (reply : Reply) → IsSound shape room k → IsSound shape room (account_after shape k Tick reply)
unfolding account_after account_after_tick with_brought
sound-tick shape room k reply sound =
    let served = brought-sound shape room k sound in
    service-sound shape room (with_brought shape k) (occupies shape k) served (brought-rows shape room k sound) (left-ahead k.clock (suc k.clock) k.best_left sound.best_ahead)
    (served-running shape (length shape.bounds) (k.taken + length (brought shape k)) k.clock (present shape k) k.on served.numbered served.packets served.running)
