-- A packet that leaves in a tick of an admissible history has a size within the limits, was eligible before the tick's
-- end, and left within the bound of its level; so it may arrive at its next link.
use Rattle.std.proofs.Common.{◌≡◌, ℕ, suc, ◌^◌, ◌<◌, ◌≤◌, Bool, List, [], ◌∷◌, length, Option, Some, None, refl, sym, subst, inl, inr, arith}
use Rattle.std.proofs.lemmas.Bool.{cases_Bool, eqb-true, ltb-false}
use Rattle.std.proofs.lemmas.Option.{same_Some}
use Rattle.std.specs.Prelude.{nat_eq}
use Rattle.net_units.specs.LevelBounds.{bound_at}
use Rattle.net_units.proofs.BoundsInOrder.{bound_at-most}
use Rattle.link_steps.specs.declared.replies.Entry.{Entry}
use Rattle.link_steps.specs.declared.replies.Reply.TheVariants.{Ticked}
use Rattle.link_steps.specs.declared.replies.Sent.{Sent}
use Rattle.link_steps.specs.declared.shape.LinkShape.{LinkShape}
use Rattle.link_steps.specs.HopGuarantee.{LeavesInTime, deadline_of}
use Rattle.link_steps.specs.Admissible.{MayAnswer, IsAdmissible}
use Rattle.link_steps.specs.BestEffort.{is_best}
use Rattle.link_steps.specs.Legal.{PacketFits}
use Rattle.link_steps.specs.Lists.{Each, Among}
use Rattle.link_steps.specs.Replies.{sent_of, sent_at, tick_reply, reply_at, reply_to}
use Rattle.link_steps.specs.Scan.{clock_of, scan_of, after, starts_of}
use Rattle.link_steps.specs.Service.{Start, leaves_at}
use Rattle.channel_laws.specs.Departing.{ticked, IsSent}
use Rattle.link_steps.proofs.HopHolds.{guaranteed}
use Rattle.link_steps.proofs.LegalOrder.{IsCarried, legal-order}
use Rattle.link_steps.proofs.ServiceStarts.{starts-fact}
use Rattle.link_steps.specs.Split.{Link}
use Rattle.link_steps.specs.declared.asks.Ask.TheVariants.{Tick}

first-sent : (shape : LinkShape) (t : ℕ) (starts : List Start) (sent : Sent) → Each (λ start. IsCarried shape start.packet) starts → Each (LeavesInTime shape t) starts → Some sent ≡ sent_at shape t starts
    → (start : Start) × (earlier : List Start) × (starts ≡ start ∷ earlier) × Among start starts × (leaves_at shape.rate start ≡ t) × (sent ≡ sent_of shape start) × (start.packet.level ≤ length shape.bounds) × IsCarried shape start.packet × (start.packet.eligible < leaves_at shape.rate start) × (leaves_at shape.rate start ≤ deadline_of shape start.packet)
unfolding sent_at
first-sent shape t [] sent carried leave same = cc
first-sent shape t (start ∷ earlier) sent carried leave same =
    elim (cases_Bool (nat_eq (leaves_at shape.rate start) t)) [
      | inl now ↦ elim (cases_Bool (is_best shape.bounds start.packet)) [
        | inl best ↦ absurd (let none : Some sent ≡ None = rw (now, best) at same in cc)
        | inr level ↦ (let at : leaves_at shape.rate start ≡ t = eqb-true (leaves_at shape.rate start) t now in
            let is : Some sent ≡ Some (sent_of shape start) = rw (now, level) at same in
            let few : start.packet.level ≤ length shape.bounds = ltb-false (length shape.bounds) start.packet.level level in
            (start, earlier, refl, inl refl, at, same_Some sent (sent_of shape start) is, few, carried.0, leave.0.after (omega arith), leave.0.within few (omega arith)))
      ]
      | inr later ↦ absurd (let none : Some sent ≡ None = rw later at same in cc)
    ]

-- the legal reply to a tick
pub tick-answer : (link : Link) (h : List Entry) → reply_to link h Tick ≡ tick_reply link.shape (clock_of h) (scan_of link.shape h)
unfolding reply_to reply_at
tick-answer link h = refl

pub ticked-sent : (clock clock' full full' : ℕ) (sent sent' : Option Sent) (best_sent best_sent' best_lost best_lost' : Bool) → Ticked clock full sent best_sent best_lost ≡ Ticked clock' full' sent' best_sent' best_lost' → sent ≡ sent'
ticked-sent clock clock' full full' sent sent' best_sent best_sent' best_lost best_lost' same = cc

pub sent-facts : (shape : LinkShape) (h : List Entry) (clock full : ℕ) (sent : Sent) (best_sent best_lost : Bool) → IsAdmissible shape h → Ticked clock full (Some sent) best_sent best_lost ≡ tick_reply shape (clock_of h) (scan_of shape h) → IsSent shape h sent
unfolding IsAdmissible MayAnswer reply_at scan_of after clock_of
sent-facts shape h clock full sent best_sent best_lost may same =
    let more : IsAdmissible shape (ticked shape h) = (may, record { fits = tt; answered = refl }) in
    let order = legal-order shape (ticked shape h) more in
    let hop = guaranteed shape (ticked shape h) more in
    let carried = starts-fact (IsCarried shape) shape.rate (scan_of shape (ticked shape h)).packets (clock_of (ticked shape h)) order.carried in
    let found = first-sent shape (suc (clock_of h)) (starts_of shape (ticked shape h)) sent carried hop.departed (ticked-sent _ _ _ _ _ _ _ _ _ _ same) in
    record { start = found.0; earlier = found.1; head = found.2; among = found.3; leaves = found.4; is = found.5; level = found.6; size_least = found.7.size_least; size_most = found.7.size_most; level_least = found.7.level_least; after = found.8; within = found.9 }

-- so it meets the conditions on a packet that arrives, where the clock is far from its end
pub sent-fits : (shape : LinkShape) (h : List Entry) (sent : Sent) → clock_of h < 2 ^ 61 → IsSent shape h sent → PacketFits sent.packet
sent-fits shape h sent early is = subst (λ s. PacketFits s.packet) (sym is.is)
    (let bound : bound_at shape.bounds is.start.packet.level ≤ 1048576 = bound_at-most shape.bounds is.start.packet.level shape.bounds_rise in
    record {
      size_least = is.size_least;
      size_most = omega (arith, is.size_most, shape.cap_most);
      due_most = (let a = is.after in let l = is.leaves in let p = shape.prop_most in omega (arith, a, l, p, bound, early));
    })
