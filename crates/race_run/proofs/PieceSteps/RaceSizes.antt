-- What a plan tells of its race: how many links, actors and rounds there are, and that the plane's rounds are those beside the
-- callers and those after them.
use Rattle.std.proofs.Common.{◌≡◌, ℕ, suc, ◌+◌, ◌≤◌, List, [], length, map, sym, ap, ◌∙◌, subst, arith}
use Rattle.std.proofs.lemmas.List.{length-map}
use Rattle.atomic_table.specs.Seated.{TableId}
use Rattle.net_units.specs.Numbers.{actor_number}
use Rattle.net_units.specs.declared.numbers.ActorNo.{ActorNo}
use Rattle.link_steps.specs.Lists.{Each}
use Rattle.link_steps.specs.Split.{Link}
use Rattle.step_stamp.specs.Lists.{up_to}
use Rattle.step_stamp.specs.Opening.{AreLinks, ArePasses}
use Rattle.step_stamp.specs.Seats.{seat_actor}
use Rattle.step_stamp.specs.declared.seats.LinkSeat.{LinkSeat}
use Rattle.step_stamp.specs.declared.seats.PassSeat.{PassSeat}
use Rattle.link_ledger.specs.Tokens.{Token}
use Rattle.shared_network.specs.Gathering.{token_actor}
use Rattle.shared_network.specs.Ready.{IsNew}
use Rattle.shared_network.proofs.Numbering.LinkNumbers.{numbered-length}
use Rattle.tick_plane.specs.PlaneAccount.{PlaneAccount}
use Rattle.tick_plane.specs.Planes.{plane_start}
use Rattle.call_script.proofs.PlansFit.{plan-fits, rounds-are}
use Rattle.call_script.specs.Parts.{PlanParts}
use Rattle.call_script.specs.Plans.{IsPlan}
use Rattle.call_script.specs.Splits.{entry_link, groups_in}
use Rattle.call_script.specs.Tasks.{network_of}
use Rattle.run_engine.specs.runs.Runs.{plane_no}
use Rattle.race_run.specs.Callers.{IsNetworkOf}
use Rattle.race_run.specs.Pieces.{AreNew, IsAtRound}
use Rattle.race_run.specs.Rounds.{PlaneIsAt}
use Rattle.race_run.specs.Whole.{HasMadeAll}
use Rattle.race_run.proofs.PieceSteps.PlaneWithPass.{plane-begins, plane-over}

-- ---- the plane

-- the rounds beside the callers are left to a plane that has made none
pub rounds-left : (parts : PlanParts) (plane : PlaneAccount) (pass : Token) (rounds : ℕ) → IsAtRound parts 0 plane pass → rounds ≡ parts.rounds → (plane.at.round ≤ rounds) × (rounds ≤ plane.rounds)
rounds-left parts plane pass rounds at is =
    let all = at.at.on.rounds ∙ rounds-are parts in
    let none = at.round_is in
    (omega (arith, none), omega (arith, all, is))

-- and after these the others
pub tail-left : (parts : PlanParts) (plane : PlaneAccount) (pass : Token) (rounds tail : ℕ) → IsAtRound parts parts.rounds plane pass → rounds ≡ parts.rounds → tail ≡ parts.tail → (plane.at.round ≤ rounds + tail) × (rounds + tail ≤ plane.rounds)
tail-left parts plane pass rounds tail at is rest =
    let all = at.at.on.rounds ∙ rounds-are parts in
    let made = at.round_is in
    (omega (arith, made, is), omega (arith, all, is, rest))

pub tail-made : (parts : PlanParts) (plane : PlaneAccount) (pass : Token) (rounds tail : ℕ) → PlaneIsAt (network_of parts) plane pass → plane.at.round ≡ rounds + tail → rounds ≡ parts.rounds → tail ≡ parts.tail → HasMadeAll (network_of parts) pass
tail-made parts plane pass rounds tail at made is rest =
    plane-over (network_of parts) plane pass at (made ∙ (λ i. is i + rest i) ∙ sym (rounds-are parts))

pub plane-new : (parts : PlanParts) (plane : PlaneAccount) (pass : Token) → plane ≡ record { links = length parts.links; rounds = parts.rounds + parts.tail; at = plane_start; spare = 0 } → pass.own ≡ [] → actor_number pass.actor ≡ plane_no (network_of parts) → IsAtRound parts 0 plane pass
unfolding network_of
plane-new parts plane pass new none is = record {
  at = plane-begins (network_of parts) plane pass (ap (λ (p : PlaneAccount). p.links) new ∙ sym (length-map parts.links (entry_link (groups_in parts)))) (ap (λ (p : PlaneAccount). p.rounds) new) (ap (λ (p : PlaneAccount). p.at) new) none is;
  round_is = ap (λ (p : PlaneAccount). p.at.round) new;
}

-- ---- what is opened

module _ (table : TableId) (owners : List ActorNo) (links : List Link) (parts : PlanParts) (plan : IsPlan parts) (network : IsNetworkOf parts links owners) where
  links-many : length links ≡ length parts.links
  unfolding network_of
  links-many = ap length network.links_are ∙ length-map parts.links (entry_link (groups_in parts))

  pub links-few : length links ≤ 32
  links-few = (let fits = (plan-fits parts plan).few in let same = ap length network.links_are in omega (arith, fits, same))

  module _ (n : ℕ) (passes : List PassSeat) (of : ArePasses table n n passes) where
    pub seats-as : (seats : List LinkSeat) → AreLinks table n (length parts.links) seats → AreLinks table (length passes) (length links) seats
    seats-as seats are = subst (λ k. AreLinks table k (length links) seats) (sym (numbered-length seat_actor passes n of.numbers)) (subst (λ k. AreLinks table n k seats) (sym links-many) are)

    pub passes-as : ArePasses table (length passes) (length passes) passes
    passes-as = subst (λ k. ArePasses table k k passes) (sym (numbered-length seat_actor passes n of.numbers)) of

  pub all-new : (passes : List PassSeat) (made : List Token) → ArePasses table (suc (length parts.callers)) (suc (length parts.callers)) passes → map token_actor made ≡ up_to (length passes) → Each (IsNew table owners links (length passes)) made → AreNew table owners links parts made
  all-new passes made of actors new =
      let many = numbered-length seat_actor passes (suc (length parts.callers)) of.numbers in
      record { actors = actors ∙ ap up_to many; new = subst (λ k. Each (IsNew table owners links k) made) many new }
