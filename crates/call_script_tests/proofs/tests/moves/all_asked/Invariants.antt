use Rattle.std.proofs.Common.{List}
use Rattle.link_steps.specs.declared.replies.Reply.{Reply}
use Rattle.call_script.specs.Standing.{CallerStands}
use Rattle.call_script_tests.proofs.tests.moves.all_asked.Given as goal

-- the caller stands for the replies so far
abbrev pub invariant-loop-ask : goal.invariant-loop-ask
invariant-loop-ask g l = (replies : List Reply) × CallerStands l.plan l.actor replies
