use Rattle.byte_ends.proofs.Settling.{pending-below-block}
use Rattle.byte_ends.proofs.Blocks.{GivesNone-after, Answers-settled}
use Rattle.byte_ends.proofs.lines.Lines.read_on.Goals as goal

pub returns-in-Some-clause-answers : goal.returns-in-Some-clause-answers
returns-in-Some-clause-answers g c =
    let stays = GivesNone-after _ _ _ _ _ _ _ _ c.loop-self.invariant c.in_ok-fetch.ensures.fetches.stays in
    Answers-settled c.in-Some.answer _ _ _ _ _ _ _ stays.moves stays.same_number c.in-Some.ensures.settles

pub returns-in-Some-clause-near : goal.returns-in-Some-clause-near
returns-in-Some-clause-near g c =
    let more = c.in_ok-fetch.ensures.fetches in
    λ line. pending-below-block c.loop-self.self c.fetch.new.self c.settle.new.self _ _ _ c.loop-self.invariant.undecided more.stays.moves more.one_block (rw line at c.in-Some.ensures.settles)
