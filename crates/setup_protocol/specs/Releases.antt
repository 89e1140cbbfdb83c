-- A teardown as it is kept: its channel, its route, how many hops have replied, and the count that the first hop has
-- reported. It stands for the replies after which this is so.
use Rattle.std.specs.Prelude.{◌≡◌, List, length}
use Rattle.link_steps.specs.declared.replies.Reply.{Reply}
use Rattle.setup_protocol.specs.Teardown.{first_count}
use Rattle.setup_protocol.specs.declared.teardown.Teardown.{Teardown}

-- a teardown stands for these replies, in their order
pub record Releases (teardown : Teardown) (replies : List Reply) : Type 0 where
  pub made : teardown.made ≡ length replies
  pub count : teardown.count ≡ first_count replies
