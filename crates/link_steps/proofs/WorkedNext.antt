-- Packets that go on to another link: each tells the link that its own reservation named, whether its source sent it here or
-- it came from the link before.
use Rattle.std.proofs.Common.{◌≡◌, [], ◌∷◌, ◌++◌, Some, refl, ◌∙◌, lit<, true, false}
use Rattle.net_units.specs.declared.Kind.TheVariants.{Rate}
use Rattle.net_units.specs.declared.numbers.LinkNo.{LinkNo}
use Rattle.link_steps.specs.declared.asks.Ask.TheVariants.{Reserve, Submit}
use Rattle.link_steps.specs.declared.replies.Reply.TheVariants.{Relaxed, Planned, Taken}
use Rattle.link_steps.specs.Split.{whole}
use Rattle.link_steps.proofs.Play.{legal_replies, replied, replied-legal}
use Rattle.link_steps.proofs.WorkedLaterHop.{relax_after, arrive}
use Rattle.link_steps.proofs.WorkedLink.{shape_a, voice, chan1, chan2, chan3, reserve, relax, offer, ticks, quiet, left, sends}

abbrev link_b : LinkNo
link_b = record { number = 1; small = lit< tt }

abbrev link_c : LinkNo
link_c = record { number = 31; small = lit< tt }

-- one channel begins here and goes on to link b, another comes from elsewhere and goes on to link c, and a third ends here
each-to-its-next-link : legal_replies (whole shape_a) []
    (Reserve chan1 voice Rate 50 0 true (Some link_b)
    ∷ relax chan1 1
    ∷ Reserve chan2 voice Rate 50 40 false (Some link_c)
    ∷ relax_after chan2 2
    ∷ reserve chan3 voice 50
    ∷ relax chan3 2
    ∷ Submit chan1 1 1 2
    ∷ arrive chan2 1 2 0
    ∷ Submit chan3 1 1 2
    ∷ ticks 6)
    ≡ (offer 1 3 ∷ Relaxed 0 ∷ offer 2 3 ∷ Relaxed 0 ∷ offer 2 3 ∷ Relaxed 0 ∷ Planned 0 ∷ Taken 0 0 ∷ Planned 0 ∷ quiet 0 1)
    ++ (sends 1 (record (left chan1 1 2 0 0 2 10) { next = Some link_b }) ∷ quiet 2 1)
    ++ (sends 3 (record (left chan2 1 2 0 0 4 20) { next = Some link_c }) ∷ quiet 4 1)
    ++ (sends 5 (left chan3 1 2 0 0 6 20) ∷ [])
unfolding replied ticks quiet
each-to-its-next-link = replied-legal (whole shape_a) _ ∙ refl
