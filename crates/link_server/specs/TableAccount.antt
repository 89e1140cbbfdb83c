-- The rows of a link as the link's rules see them, in the order of their reserves. Beside these it has how many packets of each
-- have departed, the server by which they are admitted, how many units its buffer has, and the tick in which the link last
-- looked which of them fall due.
use Rattle.std.specs.Prelude.{ℕ, List}
use Rattle.traffic_contract.specs.Admission.{Server}
use Rattle.link_steps.specs.Account.{AccountRow}

-- what a contract sees of a table
pub record TableAccount : Type 0 where
  pub rows : List AccountRow
  pub departed : List ℕ
  pub server : Server
  pub buffer : ℕ
  pub looked : ℕ
