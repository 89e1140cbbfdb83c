-- Two sources with one contract, at one link. That of the first channel offers packets at 0, 2, 4 and 6, which breaks the
-- contract: one is held back until 5 and one until 20, and the last finds both slots taken and is dropped. That of the
-- second offers packets at 0, 10 and 20, which keeps it: each is eligible as it arrives, and leaves at most the 20 ticks
-- of its level after it arrives. (In `WorkedPackets` the same fast source is alone, in `fast-source`.)
use Rattle.std.proofs.Common.{◌≡◌, true, false, [], ◌∷◌, ◌++◌, Some, refl, ◌∙◌}
use Rattle.traffic_contract.specs.Keeping.{keeps, are_spaced}
use Rattle.link_steps.specs.declared.asks.Ask.TheVariants.{Submit}
use Rattle.link_steps.specs.declared.replies.Reply.TheVariants.{Relaxed, Planned, Ticked}
use Rattle.link_steps.specs.Split.{whole}
use Rattle.link_steps.proofs.Play.{legal_replies, replied, replied-legal}
use Rattle.link_steps.proofs.WorkedLink.{shape_a, voice, chan1, chan2, reserve, relax, offer, ticks, quiet, left, sends}

first-source-breaks-its-contract : keeps voice (0 ∷ 2 ∷ 4 ∷ 6 ∷ []) ≡ false
unfolding keeps are_spaced
first-source-breaks-its-contract = refl

second-source-keeps-its-contract : keeps voice (0 ∷ 10 ∷ 20 ∷ []) ≡ true
unfolding keeps are_spaced
second-source-keeps-its-contract = refl

one-keeps-and-one-breaks : legal_replies (whole shape_a) []
    ((reserve chan1 voice 12
    ∷ relax chan1 1
    ∷ reserve chan2 voice 22
    ∷ relax chan2 2
    ∷ Submit chan1 4 2 2
    ∷ Submit chan2 3 10 2
    ∷ [])
    ++ ticks 24)
    ≡ (offer 1 1
    ∷ Relaxed 0
    ∷ offer 2 2
    ∷ Relaxed 0
    ∷ Planned 0
    ∷ Planned 0
    ∷ quiet 0 1)
    ++ (sends 1 (left chan1 1 2 0 0 2 10) ∷ quiet 2 1)
    ++ (sends 3 (left chan2 1 2 0 0 4 20) ∷ quiet 4 2)
    ++ (Ticked 6 1 (Some (left chan1 2 2 2 5 7 10)) false false ∷ quiet 7 4)
    ++ (sends 11 (left chan2 2 2 10 10 12 20) ∷ quiet 12 9)
    ++ (sends 21 (left chan1 3 2 4 20 22 10) ∷ quiet 22 1)
    ++ (sends 23 (left chan2 3 2 20 20 24 20) ∷ [])
unfolding replied ticks quiet
one-keeps-and-one-breaks = replied-legal (whole shape_a) _ ∙ refl
