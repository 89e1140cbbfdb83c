-- The account of a tick can be served once its packets have come.
use Rattle.std.proofs.Common.{ℕ, arith}
use Rattle.link_server.proofs.Words.{LinkShape, Account}
use Rattle.link_server.specs.Serving.{CanServe}
use Rattle.link_server.specs.Sound.{IsSound}

-- a sound account can be served: the packet that occupies the link can go on
pub sound-serves : (shape : LinkShape) (room : ℕ) (k : Account) → IsSound shape room k → CanServe shape k.clock k.on
sound-serves shape room k sound = record {
  goes_on = λ start on. (let running = sound.running start on in record { eligible = omega (arith, running.eligible, running.begun); leaves_later = running.leaves_later });
}
