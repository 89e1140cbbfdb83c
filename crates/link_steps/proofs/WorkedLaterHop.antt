-- The same link as a hop past a channel's first: packets arrive from the link before.
use Rattle.std.proofs.Common.{◌≡◌, ℕ, false, [], ◌∷◌, ◌++◌, None, Some, refl, ◌∙◌}
use Rattle.net_units.specs.declared.Kind.{Kind}
use Rattle.net_units.specs.declared.Kind.TheVariants.{Rate, Jitter}
use Rattle.net_units.specs.declared.numbers.ChanNo.{ChanNo}
use Rattle.link_steps.specs.declared.asks.Ask.{Ask}
use Rattle.link_steps.specs.declared.asks.Ask.TheVariants.{Reserve, Relax, Submit, Release, Arrive, Tick}
use Rattle.link_steps.specs.declared.replies.Phase.TheVariants as Is
use Rattle.link_steps.specs.declared.replies.Refusal.TheVariants.{Twice, Full, Stray, NoSuch}
use Rattle.link_steps.specs.declared.replies.Reply.TheVariants.{Relaxed, Closing, Taken, Ticked, Refused}
use Rattle.link_steps.specs.declared.replies.Why.TheVariants.{FirstHop, Uncommitted, WrongNumber, PastCount, Big}
use Rattle.link_steps.specs.Levels.{level_of}
use Rattle.link_steps.specs.Split.{whole}
use Rattle.link_steps.proofs.Play.{legal_replies, replied, replied-legal}
use Rattle.link_steps.proofs.WorkedLink.{shape_a, voice, chan1, chan2, reserve, offer, ticks, quiet, left, sends}

-- a reserve after a hop with a reach of 40 ticks, a relax after one allotted 20 ticks, and a packet that arrives
abbrev pub reserve_after : ChanNo → Kind → Ask
reserve_after chan kind = Reserve chan voice kind 50 40 false None

abbrev pub relax_after : ChanNo → ℕ → Ask
relax_after chan level = Relax chan (level_of level) 20

abbrev pub arrive : ChanNo → ℕ → ℕ → ℕ → Ask
arrive chan number size due = Arrive (record { chan = chan; number = number; size = size; due = due })

-- under delay-jitter control packets that arrive at 4 and 14 wait until 22 and 32, at which they are due
waits-until-due : legal_replies (whole shape_a) []
    ((reserve_after chan1 Jitter ∷ relax_after chan1 1 ∷ ticks 4)
    ++ (arrive chan1 1 2 22 ∷ ticks 10)
    ++ (arrive chan1 2 2 32 ∷ ticks 26))
    ≡ (offer 1 3 ∷ Relaxed 0 ∷ quiet 0 4)
    ++ (Taken 4 22 ∷ quiet 4 10)
    ++ (Taken 14 32 ∷ quiet 14 9)
    ++ (sends 23 (left chan1 1 2 4 22 24 10) ∷ quiet 24 9)
    ++ (sends 33 (left chan1 2 2 14 32 34 10) ∷ quiet 34 6)
unfolding replied ticks quiet
waits-until-due = replied-legal (whole shape_a) _ ∙ refl

-- the reservation has 4 slots. Each cause for which a packet has no place here, and a release that is told a count
-- of 5, more than are taken
packets-without-a-place : legal_replies (whole shape_a) []
    ((reserve chan2 voice 12
    ∷ arrive chan2 1 2 0
    ∷ reserve_after chan1 Rate
    ∷ arrive chan1 1 2 0
    ∷ relax_after chan1 2
    ∷ arrive chan1 2 2 0
    ∷ arrive chan1 1 3 0
    ∷ arrive chan1 1 2 0
    ∷ arrive chan1 2 2 0
    ∷ arrive chan1 3 2 0
    ∷ arrive chan1 4 2 0
    ∷ arrive chan1 5 2 0
    ∷ Submit chan1 1 1 1
    ∷ Release chan1 None
    ∷ Release chan1 (Some 5)
    ∷ ticks 2)
    ++ (arrive chan1 5 2 0 ∷ arrive chan1 6 2 0 ∷ []))
    ≡ offer 1 1
    ∷ Refused (Stray FirstHop)
    ∷ offer 2 3
    ∷ Refused (Stray Uncommitted)
    ∷ Relaxed 0
    ∷ Refused (Stray (WrongNumber 1))
    ∷ Refused (Stray (Big 2))
    ∷ Taken 0 0
    ∷ Taken 0 5
    ∷ Taken 0 20
    ∷ Taken 0 25
    ∷ Refused (Full 4 4)
    ∷ Refused NoSuch
    ∷ Refused NoSuch
    ∷ Closing 5 0
    ∷ Ticked 0 0 None false false
    ∷ sends 1 (left chan1 1 2 0 0 2 20)
    ∷ Taken 2 40
    ∷ Refused (Stray (PastCount 5))
    ∷ []
unfolding replied ticks
packets-without-a-place = replied-legal (whole shape_a) _ ∙ refl

-- a release that is told a count of 1 while that packet is on its way: the reservation is held until the packet,
-- which arrives at 4, has been eligible for the 40 ticks of the link's largest bound
held-for-a-packet-on-its-way : legal_replies (whole shape_a) []
    ((reserve_after chan1 Rate ∷ relax_after chan1 2 ∷ ticks 2)
    ++ (Release chan1 (Some 1) ∷ ticks 2)
    ++ (arrive chan1 1 2 22 ∷ ticks 40)
    ++ (reserve_after chan1 Rate ∷ Tick ∷ reserve_after chan1 Rate ∷ []))
    ≡ (offer 1 3 ∷ Relaxed 0 ∷ quiet 0 2)
    ++ (Closing 1 0 ∷ quiet 2 2)
    ++ (Taken 4 4 ∷ quiet 4 1)
    ++ (sends 5 (left chan1 1 2 4 4 6 20) ∷ quiet 6 38)
    ++ (Refused (Twice Is.Closing) ∷ Ticked 44 0 None false false ∷ offer 1 3 ∷ [])
unfolding replied ticks quiet
held-for-a-packet-on-its-way = replied-legal (whole shape_a) _ ∙ refl
