-- What a caller knows of its accepted request.
use Rattle.std.specs.Prelude.{◌≡◌, ℕ, List}
use Rattle.hop_reservation.specs.Offers.{delay_over}
use Rattle.setup_protocol.specs.Laws.{KeepsRequest}
use Rattle.setup_protocol.specs.declared.request.Request.{Request}

-- the levels keep what the request asks for, and the delay is theirs over its route
pub record VerdictSums (request : Request) (levels : List ℕ) (delay : ℕ) : Type 0 where
  pub keeps : KeepsRequest request levels delay
  pub sum : delay ≡ delay_over request.route levels
