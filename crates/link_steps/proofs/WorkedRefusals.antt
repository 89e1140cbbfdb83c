-- Asks for which two or more causes apply at once: the reply tells the first of the fixed order.
use Rattle.std.proofs.Common.{◌≡◌, [], ◌∷◌, Some, refl, ◌∙◌, lit≤}
use Rattle.net_units.specs.declared.Kind.TheVariants.{Rate}
use Rattle.traffic_contract.specs.Contract.{terms_of}
use Rattle.link_steps.specs.declared.asks.Ask.TheVariants.{Deny, Submit, Release, Pour}
use Rattle.link_steps.specs.declared.replies.Phase.TheVariants as phase
use Rattle.link_steps.specs.declared.replies.Refusal.TheVariants.{NoLevel, NoBuffer, Twice, TooWide, NotInPhase, Busy, TooBig, Stray}
use Rattle.link_steps.specs.declared.replies.Reply.TheVariants.{Relaxed, Planned, Closing, Taken, Refused}
use Rattle.link_steps.specs.declared.replies.Why.TheVariants.{FirstHop, Uncommitted, WrongNumber, PastCount, Big}
use Rattle.link_steps.specs.Split.{whole}
use Rattle.link_steps.proofs.Play.{legal_replies, replied, replied-legal}
use Rattle.link_steps.proofs.WorkedBest.{best_a}
use Rattle.link_steps.proofs.WorkedLaterHop.{reserve_after, relax_after, arrive}
use Rattle.link_steps.proofs.WorkedLink.{shape_a, with_buffer, voice, chan1, chan2, chan3, chan4, reserve, relax, offer}

-- a reserve that is too wide and comes twice, a submit on a tentative reservation whose packets are too large, a relax of a
-- committed one beyond its reach, a submit that is busy and too large, and a reserve that comes twice where no level is left
refused-twice : legal_replies (whole shape_a) []
    (reserve chan1 voice 12
    ∷ reserve chan1 (terms_of 5 10 20 5) 50
    ∷ Submit chan1 1 1 3
    ∷ relax chan1 1
    ∷ relax chan1 2
    ∷ Submit chan1 3 10 2
    ∷ Submit chan1 1 1 3
    ∷ reserve chan2 voice 22
    ∷ relax chan2 2
    ∷ reserve chan3 voice 22
    ∷ relax chan3 2
    ∷ reserve chan4 voice 22
    ∷ reserve chan4 voice 100
    ∷ [])
    ≡ offer 1 1
    ∷ Refused (TooWide 5 4)
    ∷ Refused (NotInPhase phase.Tentative)
    ∷ Relaxed 0
    ∷ Refused (NotInPhase phase.Committed)
    ∷ Planned 0
    ∷ Refused (Busy 3)
    ∷ offer 2 2
    ∷ Relaxed 0
    ∷ offer 2 2
    ∷ Relaxed 0
    ∷ offer 2 2
    ∷ Refused (Twice phase.Tentative)
    ∷ []
unfolding replied
refused-twice = replied-legal (whole shape_a) _ ∙ refl

-- a reserve that no level admits, for which the buffer lacks room too: a packet of 4 units in each tick brings 160 ticks of
-- work into the 40 of the last level, and a packet of another level blocks it for 4
no-level-and-no-buffer : legal_replies (whole (with_buffer 3 (lit≤ tt))) []
    (reserve chan1 (terms_of 1 1 40 4) 50
    ∷ reserve chan1 (terms_of 1 1 40 5) 50
    ∷ reserve chan1 (terms_of 5 10 20 2) 50
    ∷ [])
    ≡ Refused (NoLevel 164 40)
    ∷ Refused (TooWide 5 4)
    ∷ Refused (NoBuffer 8 3)
    ∷ []
unfolding replied
no-level-and-no-buffer = replied-legal (whole (with_buffer 3 (lit≤ tt))) _ ∙ refl

-- packets with two causes and more to have no place here, and asks of a closing reservation
no-place-twice : legal_replies (whole shape_a) []
    (reserve chan2 voice 12
    ∷ arrive chan2 2 3 0
    ∷ reserve_after chan1 Rate
    ∷ arrive chan1 2 3 0
    ∷ relax_after chan1 2
    ∷ arrive chan1 2 3 0
    ∷ arrive chan1 1 2 0
    ∷ arrive chan1 2 2 0
    ∷ arrive chan1 3 2 0
    ∷ arrive chan1 4 2 0
    ∷ arrive chan1 5 3 0
    ∷ Release chan1 (Some 4)
    ∷ arrive chan1 6 3 0
    ∷ arrive chan1 5 3 0
    ∷ Release chan1 (Some 9)
    ∷ relax_after chan1 1
    ∷ Deny chan1
    ∷ [])
    ≡ offer 1 1
    ∷ Refused (Stray FirstHop)
    ∷ offer 2 3
    ∷ Refused (Stray Uncommitted)
    ∷ Relaxed 0
    ∷ Refused (Stray (WrongNumber 1))
    ∷ Taken 0 0
    ∷ Taken 0 5
    ∷ Taken 0 20
    ∷ Taken 0 25
    ∷ Refused (Stray (Big 2))
    ∷ Closing 4 0
    ∷ Refused (Stray (WrongNumber 5))
    ∷ Refused (Stray (PastCount 4))
    ∷ Refused (NotInPhase phase.Closing)
    ∷ Refused (NotInPhase phase.Closing)
    ∷ Refused (NotInPhase phase.Closing)
    ∷ []
unfolding replied
no-place-twice = replied-legal (whole shape_a) _ ∙ refl

-- a pour that is busy and too large, and one that is too large alone
pours-twice : legal_replies (whole best_a) []
    (Pour 1 1 5
    ∷ Pour 2 1 4
    ∷ Pour 1 1 5
    ∷ [])
    ≡ Refused (TooBig 5 4)
    ∷ Planned 0
    ∷ Refused (Busy 2)
    ∷ []
unfolding replied
pours-twice = replied-legal (whole best_a) _ ∙ refl
