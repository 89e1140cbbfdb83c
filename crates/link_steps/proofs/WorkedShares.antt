-- What a reservation after another hop keeps of the buffer, before its relax and after it; and a release that is told fewer
-- packets than the link has taken.
use Rattle.std.proofs.Common.{◌≡◌, [], ◌∷◌, Some, refl, ◌∙◌, lit≤}
use Rattle.net_units.specs.declared.Kind.TheVariants.{Rate}
use Rattle.link_steps.specs.declared.asks.Ask.TheVariants.{Relax, Release}
use Rattle.link_steps.specs.declared.replies.Refusal.TheVariants.{NoBuffer, Unfit, NotInPhase}
use Rattle.link_steps.specs.declared.replies.Reply.TheVariants.{Relaxed, Closing, Taken, Refused}
use Rattle.link_steps.specs.declared.replies.Phase.TheVariants as phase
use Rattle.link_steps.specs.Levels.{level_of}
use Rattle.link_steps.specs.Split.{whole}
use Rattle.link_steps.proofs.Play.{legal_replies, replied, replied-legal}
use Rattle.link_steps.proofs.WorkedLaterHop.{reserve_after, relax_after, arrive}
use Rattle.link_steps.proofs.WorkedLink.{shape_a, with_buffer, voice, chan1, chan2, chan3, chan4, reserve, relax, offer}

-- after a reach of 40 ticks, with a reach of 40 of its own, it keeps 8 packets of 2 units: all that come in 80 ticks
needs-both-reaches : legal_replies (whole (with_buffer 15 (lit≤ tt))) [] (reserve_after chan1 Rate ∷ []) ≡ Refused (NoBuffer 16 15) ∷ []
unfolding replied
needs-both-reaches = replied-legal (whole (with_buffer 15 (lit≤ tt))) _ ∙ refl

-- relaxed to 10 ticks after 20 it keeps 4: those that come in 30. So 8 units are free, for two that keep 4 each
keeps-both-bounds : legal_replies (whole (with_buffer 16 (lit≤ tt))) []
    (reserve_after chan1 Rate
    ∷ reserve chan2 voice 22
    ∷ relax_after chan1 1
    ∷ reserve chan2 voice 22
    ∷ relax chan2 2
    ∷ reserve chan3 voice 22
    ∷ relax chan3 2
    ∷ reserve chan4 voice 22
    ∷ [])
    ≡ offer 1 3
    ∷ Refused (NoBuffer 4 0)
    ∷ Relaxed 0
    ∷ offer 2 2
    ∷ Relaxed 0
    ∷ offer 2 2
    ∷ Relaxed 0
    ∷ Refused (NoBuffer 4 0)
    ∷ []
unfolding replied
keeps-both-bounds = replied-legal (whole (with_buffer 16 (lit≤ tt))) _ ∙ refl

-- released, it keeps them still
keeps-them-when-closing : legal_replies (whole (with_buffer 16 (lit≤ tt))) []
    (reserve_after chan1 Rate
    ∷ relax_after chan1 1
    ∷ Release chan1 (Some 1)
    ∷ reserve chan2 voice 50
    ∷ reserve chan3 voice 22
    ∷ [])
    ≡ offer 1 3
    ∷ Relaxed 0
    ∷ Closing 1 0
    ∷ offer 2 3
    ∷ Refused (NoBuffer 4 0)
    ∷ []
unfolding replied
keeps-them-when-closing = replied-legal (whole (with_buffer 16 (lit≤ tt))) _ ∙ refl

-- of two packets that are taken, a release tells two, though it is told one
told-fewer : legal_replies (whole shape_a) []
    (reserve_after chan1 Rate
    ∷ relax_after chan1 2
    ∷ arrive chan1 1 2 0
    ∷ arrive chan1 2 2 0
    ∷ Release chan1 (Some 1)
    ∷ [])
    ≡ offer 1 3
    ∷ Relaxed 0
    ∷ Taken 0 0
    ∷ Taken 0 5
    ∷ Closing 2 0
    ∷ []
unfolding replied
told-fewer = replied-legal (whole shape_a) _ ∙ refl

-- a relax is granted up to the bounds that its reserve reckoned with, and no further
up-to-the-reaches : legal_replies (whole shape_a) []
    (reserve_after chan1 Rate
    ∷ Relax chan1 (level_of 3) 41
    ∷ Relax chan1 (level_of 3) 40
    ∷ reserve_after chan2 Rate
    ∷ Relax chan2 (level_of 1) 0
    ∷ Relax chan2 (level_of 2) 0
    ∷ [])
    ≡ offer 1 3
    ∷ Refused (Unfit (level_of 1) (level_of 3) 40)
    ∷ Relaxed 0
    ∷ offer 1 3
    ∷ Relaxed 0
    ∷ Refused (NotInPhase phase.Committed)
    ∷ []
unfolding replied
up-to-the-reaches = replied-legal (whole shape_a) _ ∙ refl
