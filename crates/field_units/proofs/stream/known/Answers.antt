use Rattle.std.proofs.Common.{arith}
use Rattle.traffic_contract.specs.Contract.{terms_of}
use Rattle.traffic_contract.proofs.NoNumberFails.{no-number-fails}
use Rattle.field_units.proofs.stream.known.Goals as goal

pub unreachable-requires : goal.unreachable-requires
unreachable-requires c =
    let none = no-number-fails (terms_of c.args.xmin c.args.xave c.args.interval c.args.smax) c.requires in
    grind (arith, none)
