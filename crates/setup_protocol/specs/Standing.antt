-- A setup stands for the replies after which it has come as far as it has.
use Rattle.std.specs.Prelude.{◌≡◌, List}
use Rattle.link_steps.specs.declared.replies.Reply.{Reply}
use Rattle.setup_protocol.specs.Setup.{Progress, progress_of}
use Rattle.setup_protocol.specs.State.{progress_at}
use Rattle.setup_protocol.specs.declared.setup.Setup.{Setup}

abbrev pub progress_in : Setup → Progress
progress_in setup = progress_at setup.itinerary.levels setup.itinerary.reach setup.state

-- a setup stands for these replies, in their order
abbrev pub SetupStands : Setup → List Reply → Type 0
SetupStands setup replies = progress_in setup ≡ progress_of setup.request replies
