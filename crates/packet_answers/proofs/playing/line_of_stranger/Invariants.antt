use Rattle.std.proofs.Common.{take}
use Rattle.link_steps.specs.Lists.{Each}
use Rattle.packet_answers.specs.Plays.{IsActorAmong}
use Rattle.packet_answers.proofs.playing.line_of_stranger.Given as goal

-- the actors of the items so far
abbrev pub invariant-loop-item : goal.invariant-loop-item
invariant-loop-item l = Each (IsActorAmong l.callers) (take l.item-index l.items)
