use Rattle.step_stamp.proofs.EachStampOnce.{each_once}
use Rattle.step_stamp.proofs.laws.each_stands_once.Goals as goal

pub returns : goal.returns
returns c = each_once
