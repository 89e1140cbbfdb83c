-- The service of a tick keeps an account sound.
use Rattle.std.proofs.Common.{◌≡◌, ℕ, suc, ◌<◌, Bool, true, false, cond, not, List, length, Option, Some, None, refl, subst, arith}
use Rattle.std.proofs.lemmas.Bool.{leb-false}
use Rattle.std.proofs.lemmas.Option.{same_Some}
use Rattle.link_server.proofs.Words.{filter, LinkShape, is_best, Each}
use Rattle.std.specs.Option.{ForSome}
use Rattle.link_steps.specs.Account.{Account, leaves_by, still_on, is_other, still_here}
use Rattle.link_steps.specs.Service.{Arrival, Start, leaves_at}
use Rattle.link_steps.proofs.SearchAndFilter.{Each-filter}
use Rattle.link_server.specs.Sound.{of_channels, AreNumberedWithin, AreAhead, IsSoundPacket, IsRunning, IsSoundRow, IsSound}
use Rattle.link_server.proofs.Sound.Packets.{HasLead, packets-lead, numbered-filter}
use Rattle.link_server.proofs.Sound.Service.{LeavesOne, one-leaves, left-places}
use Rattle.link_server.proofs.Sound.Best.{channels-filter, best-fewer}

-- of the channels' packets one leaves at most
channels-leave : (start : Start) (bounds : List ℕ) (here : List Arrival) (levels taken : ℕ) → AreNumberedWithin 0 here taken → Each (IsSoundPacket levels taken) here → LeavesOne (of_channels bounds here) (filter (is_other start) (of_channels bounds here))
unfolding of_channels
channels-leave start bounds here levels taken numbered each =
    one-leaves start 0 (filter (λ p. not (is_best bounds p)) here) taken (numbered-filter (λ p. not (is_best bounds p)) 0 here taken numbered) (Each-filter HasLead (λ p. not (is_best bounds p)) here (packets-lead levels taken here each))

-- ---- the account

-- the account with another clock, other packets here, and another that occupies the link
abbrev with_service : Account → ℕ → List Arrival → Option Start → Account
with_service k clock here on = record k { clock = clock; here = here; on = on }

-- no packet occupies the link
serves-none : (shape : LinkShape) (room : ℕ) (k : Account) → IsSound shape room k → Each (IsSoundRow (length shape.bounds) (suc k.clock) k.taken) k.rows → AreAhead (suc k.clock) k.best_left → IsSound shape room (with_service k (suc k.clock) k.here None)
serves-none shape room k sound later ahead = record {
  taken_most = omega (arith, sound.taken_most);
  numbered = sound.numbered;
  packets = sound.packets;
  apart = sound.apart;
  rows = later;
  fits = sound.fits;
  best_few = sound.best_few;
  best_ahead = ahead;
  running = λ start some. cc;
}

-- the one that occupies it stays
serves-on : (shape : LinkShape) (room : ℕ) (k : Account) (start : Start) → IsSound shape room k → Each (IsSoundRow (length shape.bounds) (suc k.clock) k.taken) k.rows → AreAhead (suc k.clock) k.best_left → IsRunning shape.rate k.clock k.here start → suc k.clock < leaves_at shape.rate start → IsSound shape room (with_service k (suc k.clock) k.here (Some start))
serves-on shape room k start sound later ahead running goes = record {
  taken_most = omega (arith, sound.taken_most);
  numbered = sound.numbered;
  packets = sound.packets;
  apart = sound.apart;
  rows = later;
  fits = sound.fits;
  best_few = sound.best_few;
  best_ahead = ahead;
  running = λ other same. subst (IsRunning shape.rate (suc k.clock) k.here) (same_Some start other same) (record { is_here = running.is_here; eligible = running.eligible; begun = omega (arith, running.begun); leaves_later = goes });
}

-- or it leaves
serves-last : (shape : LinkShape) (room : ℕ) (k : Account) (start : Start) → IsSound shape room k → Each (IsSoundRow (length shape.bounds) (suc k.clock) k.taken) k.rows → AreAhead (suc k.clock) k.best_left → IsRunning shape.rate k.clock k.here start → IsSound shape room (with_service k (suc k.clock) (filter (is_other start) k.here) None)
serves-last shape room k start sound later ahead running =
    let levels : ℕ = length shape.bounds in
    let leaves = one-leaves start 0 k.here k.taken sound.numbered (packets-lead levels k.taken k.here sound.packets) in
    record {
      taken_most = omega (arith, sound.taken_most, leaves.fewer, leaves.most);
      numbered = numbered-filter (is_other start) 0 k.here k.taken sound.numbered;
      packets = Each-filter (IsSoundPacket levels k.taken) (is_other start) k.here sound.packets;
      apart = sound.apart;
      rows = later;
      fits = rw (channels-filter shape.bounds (is_other start) k.here) (omega (arith, left-places shape.bounds (of_channels shape.bounds k.here) (filter (is_other start) (of_channels shape.bounds k.here)) k.rows sound.apart (channels-leave start shape.bounds k.here levels k.taken sound.numbered sound.packets), sound.fits));
      best_few = omega (arith, best-fewer shape.bounds (is_other start) k.here, sound.best_few);
      best_ahead = ahead;
      running = λ other some. cc;
    }

serves-start : (shape : LinkShape) (room : ℕ) (k : Account) (start : Start) (by : Bool) → IsSound shape room k → Each (IsSoundRow (length shape.bounds) (suc k.clock) k.taken) k.rows → AreAhead (suc k.clock) k.best_left → IsRunning shape.rate k.clock k.here start → leaves_by shape.rate k.clock start ≡ by → IsSound shape room (with_service k (suc k.clock) (cond by (filter (is_other start) k.here) k.here) (cond by None (Some start)))
serves-start shape room k start true sound later ahead running by = serves-last shape room k start sound later ahead running
serves-start shape room k start false sound later ahead running by = serves-on shape room k start sound later ahead running (leb-false (leaves_at shape.rate start) (suc k.clock) by)

-- the tick is over for the packets here and the one that occupies the link in it
pub service-sound : (shape : LinkShape) (room : ℕ) (k : Account) (on : Option Start) → IsSound shape room k → Each (IsSoundRow (length shape.bounds) (suc k.clock) k.taken) k.rows → AreAhead (suc k.clock) k.best_left → ForSome on (IsRunning shape.rate k.clock k.here) → IsSound shape room (with_service k (suc k.clock) (still_here shape.rate k.clock on k.here) (still_on shape.rate k.clock on))
service-sound shape room k None sound later ahead running = serves-none shape room k sound later ahead
service-sound shape room k (Some start) sound later ahead running = serves-start shape room k start (leaves_by shape.rate k.clock start) sound later ahead (running start refl) refl
