-- What a link keeps is an account: its clock, its rows, and the packets that it has taken, that are here, and that
-- occupy it.
use Rattle.std.specs.Prelude.{ℕ, List}
use Rattle.link_steps.specs.Account.{Account, AccountRow}
use Rattle.link_server.specs.QueueAccount.{QueueAccount}

-- the account of a clock, a queue of packets and rows
abbrev pub account : ℕ → QueueAccount → List AccountRow → Account
account clock queue rows = record { clock = clock; taken = queue.taken; rows = rows; here = queue.here; on = queue.on; best_left = queue.best }
