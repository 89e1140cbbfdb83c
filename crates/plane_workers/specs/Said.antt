-- What a link has replied, with its quiet ticks counted and not written out.
use Rattle.std.specs.Prelude.{ℕ, zero, suc, Option, Some, None, List, [], ◌∷◌, ◌++◌}
use Rattle.link_steps.specs.Quiet.{quiet_reply}
use Rattle.link_steps.specs.declared.replies.Reply.{Reply}
use Rattle.plane_workers.specs.declared.quiet_run.QuietRun.{QuietRun}
use Rattle.plane_workers.specs.declared.lane.Said.{Said}
use Rattle.plane_workers.specs.declared.lane.Said.TheVariants.{Quiet, Replied}

-- the replies to so many quiet ticks, the first of them at this clock
unfoldable pub quiets : ℕ → ℕ → List Reply
quiets t zero = []
quiets t (suc n) = quiet_reply t ∷ quiets (suc t) n

-- the replies, written out
unfoldable pub said_in : List Said → List Reply
said_in [] = []
said_in (Quiet run ∷ more) = quiets run.clock run.ticks ++ said_in more
said_in (Replied reply ∷ more) = reply ∷ said_in more

-- the quiet ticks that come first, if they do
abbrev pub run_in : List Said → Option QuietRun
run_in [] = None
run_in (Quiet run ∷ more) = Some run
run_in (Replied reply ∷ more) = None
