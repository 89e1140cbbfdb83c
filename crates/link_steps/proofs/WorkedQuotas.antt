-- A group's buffer is what its own reservations leave of its own quota; and a channel's packet that waits takes no
-- best-effort packet's place.
use Rattle.std.proofs.Common.{◌≡◌, ◌∙◌, [], ◌∷◌, ◌++◌, None, true, false, refl}
use Rattle.link_steps.specs.declared.asks.Ask.TheVariants.{Submit, Tick, Pour}
use Rattle.link_steps.specs.declared.replies.Refusal.TheVariants.{NoBuffer}
use Rattle.link_steps.specs.declared.replies.Reply.TheVariants.{Relaxed, Planned, Ticked, Refused}
use Rattle.link_steps.specs.Split.{Link, whole}
use Rattle.link_steps.proofs.Play.{legal_replies, replied, replied-legal}
use Rattle.link_steps.proofs.WorkedBest.{best_a}
use Rattle.link_steps.proofs.WorkedLink.{shape_a, voice, chan1, chan2, chan4, reserve, relax, offer, ticks, quiet, left, sends}

-- group 1 has 7 units of the buffer, and group 2 the other 93
abbrev split_b : Link
split_b = record {
  shape = shape_a;
  split = record {
    quotas = record { group = 1; buffer = 7; levels = 4 ∷ 8 ∷ 20 ∷ 0 ∷ 0 ∷ 0 ∷ 0 ∷ 0 ∷ [] } ∷ record { group = 2; buffer = 93; levels = 2 ∷ 8 ∷ 16 ∷ 0 ∷ 0 ∷ 0 ∷ 0 ∷ 0 ∷ [] } ∷ [];
    groups = 0 ∷ 1 ∷ 1 ∷ 1 ∷ 2 ∷ 2 ∷ 0 ∷ 0 ∷ 0 ∷ 2 ∷ [];
  };
}

-- the second reservation of group 1 needs 4 units of the 3 that are left to it, and that of group 2 has its own
each-by-its-buffer : legal_replies split_b []
    (reserve chan1 voice 12 ∷ relax chan1 1 ∷ reserve chan2 voice 22 ∷ reserve chan4 voice 22 ∷ [])
    ≡ offer 1 1 ∷ Relaxed 0 ∷ Refused (NoBuffer 4 3) ∷ offer 2 2 ∷ []
unfolding replied
each-by-its-buffer = replied-legal split_b _ ∙ refl

-- a packet of the second channel waits when the best-effort one arrives in tick 1, and the place for that is free
only-best-packets-count : legal_replies (whole best_a) []
    (reserve chan1 voice 12
    ∷ relax chan1 1
    ∷ reserve chan2 voice 22
    ∷ relax chan2 2
    ∷ Submit chan1 1 1 2
    ∷ Submit chan2 1 1 2
    ∷ Tick
    ∷ Pour 1 1 4
    ∷ ticks 8)
    ≡ (offer 1 1 ∷ Relaxed 0 ∷ offer 2 2 ∷ Relaxed 0 ∷ Planned 0 ∷ Planned 0 ∷ quiet 0 1)
    ++ (Planned 1 ∷ sends 1 (left chan1 1 2 0 0 2 10) ∷ quiet 2 1)
    ++ (sends 3 (left chan2 1 2 0 0 4 20) ∷ quiet 4 3)
    ++ (Ticked 7 0 None true false ∷ quiet 8 1)
unfolding replied ticks quiet
only-best-packets-count = replied-legal (whole best_a) _ ∙ refl
