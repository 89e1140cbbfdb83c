-- Best-effort packets beside a channel's: what each tick is replied.
use Rattle.std.proofs.Common.{◌≡◌, ◌∙◌, true, false, [], ◌∷◌, ◌++◌, None, Some, refl, lit≤}
use Rattle.traffic_contract.specs.declared.admission.Test.TheVariants.{Least}
use Rattle.link_steps.specs.declared.asks.Ask.TheVariants.{Submit, Tick, Pour}
use Rattle.link_steps.specs.declared.replies.Reply.TheVariants.{Relaxed, Planned, Ticked}
use Rattle.link_steps.specs.declared.shape.LinkShape.{LinkShape}
use Rattle.link_steps.specs.Split.{whole}
use Rattle.link_steps.proofs.Play.{legal_replies, replied, replied-legal}
use Rattle.link_steps.proofs.WorkedLink.{shape_a, voice, chan1, reserve, relax, offer, ticks, quiet, left}

-- the link with a place for one best-effort packet
abbrev pub best_a : LinkShape
best_a = record shape_a { test = Least; best = 1; best_most = lit≤ tt }

-- the first waits for the channel's packet, and the other two find its place taken
channel-first : legal_replies (whole best_a) [] (reserve chan1 voice 12 ∷ relax chan1 1 ∷ Pour 3 1 4 ∷ Submit chan1 1 1 2 ∷ ticks 20)
    ≡ offer 1 1 ∷ Relaxed 0 ∷ Planned 0 ∷ Planned 0 ∷ quiet 0 1 ++ Ticked 1 0 (Some (left chan1 1 2 0 0 2 10)) false true ∷ Ticked 2 0 None false true ∷ quiet 3 2 ++ Ticked 5 0 None true false ∷ quiet 6 14
unfolding replied ticks quiet
channel-first = replied-legal (whole best_a) _ ∙ refl

-- one that has started isn't interrupted
best-never-interrupted : legal_replies (whole best_a) [] (reserve chan1 voice 12 ∷ relax chan1 1 ∷ Pour 1 1 4 ∷ Tick ∷ Submit chan1 1 1 2 ∷ ticks 19)
    ≡ offer 1 1 ∷ Relaxed 0 ∷ Planned 0 ∷ quiet 0 1 ++ Planned 1 ∷ quiet 1 2 ++ Ticked 3 0 None true false ∷ quiet 4 1 ++ Ticked 5 0 (Some (left chan1 1 2 1 1 6 10)) false false ∷ quiet 6 14
unfolding replied ticks quiet
best-never-interrupted = replied-legal (whole best_a) _ ∙ refl
