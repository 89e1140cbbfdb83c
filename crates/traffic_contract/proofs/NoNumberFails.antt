-- A contract has no number that fails.
use Rattle.std.proofs.Common.{◌≡◌, None, refl, arith}
use Rattle.std.proofs.lemmas.Bool.{le-leb}
use Rattle.traffic_contract.specs.Contract.{Traffic, IsContract, burst_of}
use Rattle.traffic_contract.specs.Refusal.{first_bad}

pub no-number-fails : (terms : Traffic) → IsContract terms → first_bad terms ≡ None
no-number-fails terms c =
    rw (
      le-leb 1 terms.xmin c.xmin_least,
      le-leb terms.xmin 1048576 (omega (arith, c.xave_least, c.xave_most)),
      le-leb terms.xmin terms.xave c.xave_least,
      le-leb terms.xave 1048576 c.xave_most,
      le-leb terms.xave terms.interval c.interval_least,
      le-leb terms.interval 16777216 c.interval_most,
      le-leb (burst_of terms) 256 c.burst_most,
      le-leb 1 terms.smax c.smax_least,
      le-leb terms.smax 65536 c.smax_most,
    ) refl
