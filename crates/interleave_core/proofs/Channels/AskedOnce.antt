-- In every run each channel that has one owner is asked once at each hop of its route, and nowhere else.
use Rattle.interleave_core.specs.channels.Laws.{EveryChannelIsAskedOnce}
use Rattle.run_engine.proofs.Replies.RunCloses.{fully-asked}

pub channels-asked : EveryChannelIsAskedOnce
channels-asked network request owner run fits sound full is = fully-asked network request owner fits sound full run is
