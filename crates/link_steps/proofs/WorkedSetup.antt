-- Setup, submit and release at one link: what each ask is replied, in order.
use Rattle.std.proofs.Common.{◌≡◌, [], ◌∷◌, ◌++◌, None, refl, ◌∙◌, lit≤, false}
use Rattle.link_steps.specs.declared.asks.Ask.TheVariants.{Deny, Submit, Release, Arrive, Tick}
use Rattle.link_steps.specs.declared.replies.Phase.TheVariants.{Tentative, Committed}
use Rattle.link_steps.specs.declared.replies.Refusal.TheVariants.{NoLevel, Twice, Unfit, NotInPhase, Busy, TooBig, Stray, NoSuch, NoBuffer, TooWide}
use Rattle.link_steps.specs.declared.replies.Reply.TheVariants.{Relaxed, Denied, Planned, Closing, Refused, Ticked}
use Rattle.link_steps.specs.declared.replies.Why.TheVariants.{NoRow}
use Rattle.traffic_contract.specs.Contract.{terms_of}
use Rattle.link_steps.specs.Levels.{level_of}
use Rattle.link_steps.specs.Split.{whole}
use Rattle.link_steps.proofs.Play.{legal_replies, replied, replied-legal}
use Rattle.link_steps.proofs.WorkedLink.{shape_a, with_buffer, voice, chan1, chan2, chan3, chan4, chan5, chan9, reserve, relax, offer, ticks, quiet, left, sends}

-- each ask in the life of a reservation, and the refusals of a second reserve, of a level past the reach, of a deny
-- when it is committed, of a second plan, of a packet of another channel and of a second release
life-of-a-reservation : legal_replies (whole shape_a) []
    (reserve chan1 voice 12
    ∷ reserve chan1 voice 12
    ∷ relax chan1 2
    ∷ relax chan1 1
    ∷ Deny chan1
    ∷ Submit chan1 3 10 2
    ∷ Submit chan1 3 10 2
    ∷ Arrive (record { chan = chan9; number = 1; size = 1; due = 0 })
    ∷ Release chan1 None
    ∷ Tick
    ∷ Release chan1 None
    ∷ [])
    ≡ offer 1 1
    ∷ Refused (Twice Tentative)
    ∷ Refused (Unfit (level_of 1) (level_of 1) 0)
    ∷ Relaxed 0
    ∷ Refused (NotInPhase Committed)
    ∷ Planned 0
    ∷ Refused (Busy 3)
    ∷ Refused (Stray NoRow)
    ∷ Closing 0 3
    ∷ Ticked 0 0 None false false
    ∷ Refused NoSuch
    ∷ []
unfolding replied
life-of-a-reservation = replied-legal (whole shape_a) _ ∙ refl

-- the second reservation is denied, and the three after it fill the second level up
denied-then-filled : legal_replies (whole shape_a) []
    (reserve chan1 voice 12
    ∷ relax chan1 1
    ∷ reserve chan2 voice 12
    ∷ Deny chan2
    ∷ reserve chan3 voice 22
    ∷ relax chan3 2
    ∷ reserve chan4 voice 22
    ∷ relax chan4 2
    ∷ reserve chan5 voice 22
    ∷ relax chan5 2
    ∷ [])
    ≡ offer 1 1
    ∷ Relaxed 0
    ∷ offer 2 2
    ∷ Denied
    ∷ offer 2 2
    ∷ Relaxed 0
    ∷ offer 2 2
    ∷ Relaxed 0
    ∷ offer 2 2
    ∷ Relaxed 0
    ∷ []
unfolding replied
denied-then-filled = replied-legal (whole shape_a) _ ∙ refl

-- a submit of packets that are too large, one that is planned, and one that finds its packets left
submits : legal_replies (whole shape_a) []
    (reserve chan1 voice 12
    ∷ relax chan1 1
    ∷ Submit chan1 1 1 3
    ∷ Submit chan1 3 10 2
    ∷ Submit chan1 1 1 2
    ∷ ticks 30)
    ≡ (offer 1 1
    ∷ Relaxed 0
    ∷ Refused (TooBig 3 2)
    ∷ Planned 0
    ∷ Refused (Busy 3)
    ∷ quiet 0 1)
    ++ (sends 1 (left chan1 1 2 0 0 2 10) ∷ quiet 2 9)
    ++ (sends 11 (left chan1 2 2 10 10 12 10) ∷ quiet 12 9)
    ++ (sends 21 (left chan1 3 2 20 20 22 10) ∷ quiet 22 8)
unfolding replied ticks quiet
submits = replied-legal (whole shape_a) _ ∙ refl

-- a link of 10 units. A tentative reservation with a reach of 40 ticks keeps 8 of them. Relaxed to the first level it
-- keeps 4, so that a second one with a reach of 20 ticks finds the 4 that it needs, and a third one finds 2 and is
-- refused
buffer-is-cut-by-the-relax : legal_replies (whole (with_buffer 10 (lit≤ tt))) []
    (reserve chan1 voice 50
    ∷ relax chan1 1
    ∷ reserve chan2 voice 22
    ∷ reserve chan3 voice 22
    ∷ [])
    ≡ offer 1 3
    ∷ Relaxed 0
    ∷ offer 2 2
    ∷ Refused (NoBuffer 4 2)
    ∷ []
unfolding replied
buffer-is-cut-by-the-relax = replied-legal (whole (with_buffer 10 (lit≤ tt))) _ ∙ refl

-- a contract whose packets are too large for the link, and one that no level admits: with it the load of the last
-- level would be 44 ticks, over its bound of 40
refused-reserves : legal_replies (whole shape_a) []
    (reserve chan9 (terms_of 5 10 20 5) 50
    ∷ reserve chan1 voice 12
    ∷ relax chan1 1
    ∷ reserve chan2 voice 22
    ∷ relax chan2 2
    ∷ reserve chan3 voice 22
    ∷ relax chan3 2
    ∷ reserve chan4 voice 22
    ∷ relax chan4 2
    ∷ reserve chan5 voice 100
    ∷ [])
    ≡ Refused (TooWide 5 4)
    ∷ offer 1 1
    ∷ Relaxed 0
    ∷ offer 2 2
    ∷ Relaxed 0
    ∷ offer 2 2
    ∷ Relaxed 0
    ∷ offer 2 2
    ∷ Relaxed 0
    ∷ Refused (NoLevel 44 40)
    ∷ []
unfolding replied
refused-reserves = replied-legal (whole shape_a) _ ∙ refl
