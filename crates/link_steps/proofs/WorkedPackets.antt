-- Packets of sources at one link: when they are eligible, in which order they are served, and when a released
-- reservation expires.
use Rattle.std.proofs.Common.{◌≡◌, false, [], ◌∷◌, ◌++◌, None, Some, refl, ◌∙◌}
use Rattle.net_units.specs.declared.Kind.TheVariants.{Rate, Jitter}
use Rattle.link_steps.specs.declared.asks.Ask.TheVariants.{Deny, Submit, Release, Tick}
use Rattle.link_steps.specs.declared.replies.Reply.TheVariants.{Relaxed, Denied, Planned, Closing, Ticked}
use Rattle.link_steps.specs.Levels.{level_of}
use Rattle.link_steps.specs.Reservation.{Reservation, tentative}
use Rattle.link_steps.specs.Regulator.{eligible_next}
use Rattle.traffic_contract.specs.Eligible.{first_from, eligible}
use Rattle.traffic_contract.specs.Keeping.{may_follow}
use Rattle.link_steps.specs.Split.{whole}
use Rattle.link_steps.proofs.Play.{legal_replies, replied, replied-legal}
use Rattle.link_steps.proofs.WorkedLink.{shape_a, voice, wide, chan1, chan2, chan3, reserve, relax, offer, ticks, quiet, left, sends}

-- a reservation past the first hop, under rate-jitter and under delay-jitter control
abbrev rate_row : Reservation
rate_row = tentative chan1 voice Rate false None 0 (level_of 1) (level_of 1)

abbrev jitter_row : Reservation
jitter_row = tentative chan1 voice Jitter false None 0 (level_of 1) (level_of 1)

-- packets that arrive at 0, 2, 4 and 50 are eligible at 0, 5, 20 and 50
eligible-at-once : eligible_next rate_row [] 0 0 ≡ 0
unfolding eligible_next eligible first_from may_follow
eligible-at-once = refl

eligible-after-the-least-gap : eligible_next rate_row (0 ∷ []) 2 0 ≡ 5
unfolding eligible_next eligible first_from may_follow
eligible-after-the-least-gap = refl

eligible-after-the-interval : eligible_next rate_row (5 ∷ 0 ∷ []) 4 0 ≡ 20
unfolding eligible_next eligible first_from may_follow
eligible-after-the-interval = refl

eligible-as-it-arrives : eligible_next rate_row (20 ∷ 5 ∷ 0 ∷ []) 50 0 ≡ 50
unfolding eligible_next eligible first_from may_follow
eligible-as-it-arrives = refl

-- under delay-jitter control a packet that arrives at 4 and is due at 22 is eligible at 22
eligible-when-due : eligible_next jitter_row [] 4 22 ≡ 22
unfolding eligible_next eligible first_from may_follow
eligible-when-due = refl

-- a source that sends too fast: the packets of ticks 0, 2 and 4 are eligible at 0, 5 and 20, and that of tick 6
-- finds both slots taken
fast-source : legal_replies (whole shape_a) [] (reserve chan1 voice 12 ∷ relax chan1 1 ∷ Submit chan1 4 2 2 ∷ ticks 30)
    ≡ (offer 1 1 ∷ Relaxed 0 ∷ Planned 0 ∷ quiet 0 1)
    ++ (sends 1 (left chan1 1 2 0 0 2 10) ∷ quiet 2 4)
    ++ (Ticked 6 1 (Some (left chan1 2 2 2 5 7 10)) false false ∷ quiet 7 14)
    ++ (sends 21 (left chan1 3 2 4 20 22 10) ∷ quiet 22 8)
unfolding replied ticks quiet
fast-source = replied-legal (whole shape_a) _ ∙ refl

-- a packet of the third level has started when one of the first comes, and is not interrupted
never-interrupted : legal_replies (whole shape_a) []
    ((reserve chan2 wide 50
    ∷ relax chan2 3
    ∷ reserve chan1 voice 12
    ∷ relax chan1 1
    ∷ Submit chan2 1 1 4
    ∷ ticks 1)
    ++ (Submit chan1 1 1 2 ∷ ticks 19))
    ≡ (offer 2 3
    ∷ Relaxed 0
    ∷ offer 1 1
    ∷ Relaxed 0
    ∷ Planned 0
    ∷ quiet 0 1)
    ++ (Planned 1 ∷ quiet 1 2)
    ++ (sends 3 (left chan2 1 4 0 0 4 40) ∷ quiet 4 1)
    ++ (sends 5 (left chan1 1 2 1 1 6 10) ∷ quiet 6 14)
unfolding replied ticks quiet
never-interrupted = replied-legal (whole shape_a) _ ∙ refl

-- while a packet of the third level is sent, one of the second level becomes eligible at 1 and one of the first at
-- 2. The one of the first level starts first
least-level-first : legal_replies (whole shape_a) []
    ((reserve chan3 wide 50
    ∷ relax chan3 3
    ∷ reserve chan1 voice 12
    ∷ relax chan1 1
    ∷ reserve chan2 voice 22
    ∷ relax chan2 2
    ∷ Submit chan3 1 1 4
    ∷ ticks 1)
    ++ (Submit chan2 1 1 2 ∷ ticks 1)
    ++ (Submit chan1 1 1 2 ∷ ticks 8))
    ≡ (offer 2 3
    ∷ Relaxed 0
    ∷ offer 1 1
    ∷ Relaxed 0
    ∷ offer 2 2
    ∷ Relaxed 0
    ∷ Planned 0
    ∷ quiet 0 1)
    ++ (Planned 1 ∷ quiet 1 1)
    ++ (Planned 2 ∷ quiet 2 1)
    ++ (sends 3 (left chan3 1 4 0 0 4 40) ∷ quiet 4 1)
    ++ (sends 5 (left chan1 1 2 2 2 6 10) ∷ quiet 6 1)
    ++ (sends 7 (left chan2 1 2 1 1 8 20) ∷ quiet 8 2)
unfolding replied ticks quiet
least-level-first = replied-legal (whole shape_a) _ ∙ refl

-- two packets of one level, eligible at the same tick, are served in the order in which their rows were reserved
order-of-the-reserves : legal_replies (whole shape_a) []
    (reserve chan2 voice 22
    ∷ relax chan2 2
    ∷ reserve chan1 voice 22
    ∷ relax chan1 2
    ∷ Submit chan1 1 1 2
    ∷ Submit chan2 1 1 2
    ∷ ticks 5)
    ≡ (offer 1 2
    ∷ Relaxed 0
    ∷ offer 1 2
    ∷ Relaxed 0
    ∷ Planned 0
    ∷ Planned 0
    ∷ quiet 0 1)
    ++ (sends 1 (left chan2 1 2 0 0 2 20) ∷ quiet 2 1)
    ++ (sends 3 (left chan1 1 2 0 0 4 20) ∷ quiet 4 1)
unfolding replied ticks quiet
order-of-the-reserves = replied-legal (whole shape_a) _ ∙ refl

-- a released reservation stays in the admission test until its last packet, eligible at 20, has been so for the 40
-- ticks of the link's largest bound
held-until-the-hold-ends : legal_replies (whole shape_a) []
    ((reserve chan1 voice 12 ∷ relax chan1 1 ∷ Submit chan1 3 10 2 ∷ ticks 30)
    ++ (Release chan1 None ∷ ticks 30)
    ++ (reserve chan2 voice 12 ∷ Deny chan2 ∷ Tick ∷ reserve chan2 voice 12 ∷ []))
    ≡ (offer 1 1 ∷ Relaxed 0 ∷ Planned 0 ∷ quiet 0 1)
    ++ (sends 1 (left chan1 1 2 0 0 2 10) ∷ quiet 2 9)
    ++ (sends 11 (left chan1 2 2 10 10 12 10) ∷ quiet 12 9)
    ++ (sends 21 (left chan1 3 2 20 20 22 10) ∷ quiet 22 8)
    ++ (Closing 3 0 ∷ quiet 30 30)
    ++ (offer 2 2 ∷ Denied ∷ Ticked 60 0 None false false ∷ offer 1 1 ∷ [])
unfolding replied ticks quiet
held-until-the-hold-ends = replied-legal (whole shape_a) _ ∙ refl

-- a release at clock 5 cancels the packets planned for 10 and 20, which never arrive
cancelled-packets-never-arrive : legal_replies (whole shape_a) []
    ((reserve chan1 voice 12 ∷ relax chan1 1 ∷ Submit chan1 3 10 2 ∷ ticks 5)
    ++ (Release chan1 None ∷ ticks 20))
    ≡ (offer 1 1 ∷ Relaxed 0 ∷ Planned 0 ∷ quiet 0 1)
    ++ (sends 1 (left chan1 1 2 0 0 2 10) ∷ quiet 2 3)
    ++ (Closing 1 2 ∷ quiet 5 20)
unfolding replied ticks quiet
cancelled-packets-never-arrive = replied-legal (whole shape_a) _ ∙ refl
