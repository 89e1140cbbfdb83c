-- What the limits of a contract say of its burst.
use Rattle.std.proofs.Common.{◌≤◌, arith}
use Rattle.std.proofs.lemmas.Nat.{le-div}
use Rattle.traffic_contract.specs.Contract.{Traffic, IsContract, burst_of}

-- an interval holds at least one average gap
pub burst-least : (c : Traffic) → IsContract c → 1 ≤ burst_of c
burst-least c valid = le-div 1 c.interval c.xave (omega (arith, valid.xmin_least, valid.xave_least)) (omega (arith, valid.interval_least))
