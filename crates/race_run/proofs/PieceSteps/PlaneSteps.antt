-- With each reply the greatest number of steps that a plane may have left falls. So the steps that it has made and this number are
-- together no more than the steps of all rounds: twice the ticks of all links.
use Rattle.std.proofs.Common.{◌≡◌, ℕ, ◌+◌, ◌*◌, ◌-◌, ◌<◌, ◌≤◌, false, Some, None, List, [], ◌∷◌, ◌++◌, length, map, reverse, refl, sym, ap, ◌∙◌, inl, inr, arith}
use Rattle.std.proofs.lemmas.Bool.{cases_Bool, ltb-true}
use Rattle.std.proofs.lemmas.List.{append_assoc, append-nil, reverse-append}
use Rattle.std.specs.Prelude.{nat_lt}
use Rattle.net_units.specs.declared.numbers.LinkNo.{LinkNo}
use Rattle.link_steps.specs.declared.asks.Ask.{Ask}
use Rattle.link_steps.specs.declared.replies.Reply.{Reply}
use Rattle.tick_plane.specs.Planes.{Plane, next_due, plane_ask, plane_of}
use Rattle.link_ledger.specs.declared.entries.OwnEntry.{OwnEntry}
use Rattle.shared_network.specs.Calls.{Follows, reply_in}
use Rattle.shared_network.specs.Planes.{next_round}
use Rattle.run_engine.specs.runs.Turns.{plane_most}
use Rattle.tick_plane.proofs.TicksPerLink.{ticked-with}
use Rattle.run_engine.proofs.Tasks.StepsRunOut.{with-fewer}

-- ---- the links that have ticked in a round

pub ticked-within : (links : ℕ) (replies : List Reply) → 1 ≤ links → (plane_of links replies).ticked < links
unfolding plane_of
ticked-within links [] least = omega (arith, least)
ticked-within links (reply ∷ before) least = ticked-with links (plane_of links before) (next_due (plane_of links before)) reply least (ticked-within links before least)

-- ---- an ask more

pub asks-early : (rounds : ℕ) (plane : Plane) (to : LinkNo) (ask : Ask) → plane_ask rounds plane ≡ Some (to, ask) → plane.round < rounds
asks-early rounds plane to ask asks =
    elim (cases_Bool (nat_lt plane.round rounds)) [
      | inl early ↦ ltb-true plane.round rounds early
      | inr late ↦ absurd (let clash : None ≡ Some (to, ask) = sym (by late) ∙ asks in cc)
    ] where
      by : nat_lt plane.round rounds ≡ false → plane_ask rounds plane ≡ None
      by late = rw late refl

-- with the entries that these replies are of, no more steps are made and left than at these replies
made-or-left : (links rounds : ℕ) (replies : List Reply) (own : List OwnEntry) → 1 ≤ links → Follows (next_round links rounds) replies own
    → length own + plane_most links rounds (plane_of links (reverse (replies ++ map reply_in own))) ≤ plane_most links rounds (plane_of links (reverse replies))
unfolding Follows plane_of
made-or-left links rounds replies [] least follows = (let same = ap (λ rs. plane_most links rounds (plane_of links (reverse rs))) (append-nil replies) in omega (arith, same))
made-or-left links rounds replies (e ∷ own) least follows =
    let before = plane_of links (reverse replies) in
    let rest = made-or-left links rounds (replies ++ e.reply ∷ []) own least follows.1 in
    let all = ap (λ rs. plane_most links rounds (plane_of links (reverse rs))) (append_assoc replies (e.reply ∷ []) (map reply_in own)) in
    let turned = ap (λ rs. plane_most links rounds (plane_of links rs)) (reverse-append replies (e.reply ∷ [])) in
    let fewer = with-fewer links rounds before (next_due before) e.reply refl (ticked-within links (reverse replies) least) (asks-early rounds before e.link e.ask follows.0) in
    omega (arith, rest, all, turned, fewer)

pub steps-few : (links rounds : ℕ) (own : List OwnEntry) → 1 ≤ links → Follows (next_round links rounds) [] own → length own ≤ 2 * (rounds * links)
unfolding plane_of
steps-few links rounds own least follows =
    let all = made-or-left links rounds [] own least follows in
    let none : rounds - 0 ≡ rounds = omega arith in
    let ticks : (rounds - 0) * links ≡ rounds * links = ap (λ n. n * links) none in
    omega (arith, all, ticks)
