use Rattle.traffic_contract.proofs.WindowsAreBounded.{count_in-le}
use Rattle.traffic_contract.proofs.laws.every_window_is_bounded.Goals as goal

pub returns : goal.returns
returns c = count_in-le
