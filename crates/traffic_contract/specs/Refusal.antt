-- Four numbers are refused as a contract for the first of them that fails, in the order xmin, xave, interval,
-- smax. The least gap is from 1 to 1,048,576 ticks. The average gap is at least that, and also at most
-- 1,048,576. The interval is at least the average gap, at most 16,777,216 ticks, and holds at most 256 average
-- gaps. The largest packet is from 1 to 65,536 units.
use Rattle.std.specs.Prelude.{Bool, nat_le, ◌&&◌, Option, Some, None, if◌then◌else◌}
use Rattle.net_units.specs.Limits.{most_burst, most_gap, most_interval, most_size}
use Rattle.traffic_contract.specs.Contract.{Traffic, burst_of}
use Rattle.traffic_contract.specs.declared.contract.ContractField.{ContractField}
use Rattle.traffic_contract.specs.declared.contract.ContractField.TheVariants.{Xmin, Xave, Interval, Smax}

abbrev pub fits_xmin : Traffic → Bool
fits_xmin c = nat_le 1 c.xmin && nat_le c.xmin most_gap

abbrev pub fits_xave : Traffic → Bool
fits_xave c = nat_le c.xmin c.xave && nat_le c.xave most_gap

abbrev pub fits_interval : Traffic → Bool
fits_interval c = nat_le c.xave c.interval && nat_le c.interval most_interval && nat_le (burst_of c) most_burst

abbrev pub fits_smax : Traffic → Bool
fits_smax c = nat_le 1 c.smax && nat_le c.smax most_size

-- the field that is refused, if there is one
abbrev pub first_bad : Traffic → Option ContractField
first_bad c =
    if fits_xmin c then (
    if fits_xave c then (
    if fits_interval c then (
    if fits_smax c then None else Some Smax
    ) else Some Interval
    ) else Some Xave
    ) else Some Xmin
