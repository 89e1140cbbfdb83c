-- What a contract brings into its intervals, rounded down, rises no faster than its work.
use Rattle.std.proofs.Common.{◌≡◌, ◌∙◌}
use Rattle.net_units.specs.Quotient.{ceil_quotient}
use Rattle.traffic_contract.specs.Contract.{burst_of}
use Rattle.rcsp_admission.proofs.LinesBelowWork.{steep-below}
use Rattle.rcsp_admission.proofs.lines.slope_of.Goals as goal

pub returns-clause-below : goal.returns-clause-below
returns-clause-below c =
    let ticks : c.ceil_div-ticks.result ≡ ceil_quotient c.args.contract.now.smax c.args.rate = cc in
    let burst : c.from-3.result ≡ burst_of c.args.contract.now = c.from-3.ensures ∙ c.burst.ensures.value in
    let interval : c.from-4.result ≡ c.args.contract.now.interval = c.from-4.ensures ∙ c.interval.ensures.value in
    steep-below c.args.rate c.args.contract.now _ 0 c.interval.ensures.valid (cc (ticks, burst, interval))
