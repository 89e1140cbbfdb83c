-- The network of the tour meets what the calls require: each hop of its request is over a link of it, actor 0 owns the channel, the
-- plane may go on after each of its steps, and the two passes close the network.
use Rattle.std.proofs.Common.{◌≡◌, ℕ, zero, suc, ◌<◌, Some, List, [], ◌∷◌, length, map, refl, sym, ap, ◌∙◌, arith}
use Rattle.std.specs.List.{slice_get}
use Rattle.atomic_table.specs.Seated.{TableId}
use Rattle.net_units.specs.Numbers.{actor_number, channel_number, link_number}
use Rattle.net_units.specs.declared.numbers.ActorNo.{ActorNo}
use Rattle.net_units.specs.declared.numbers.ChanNo.{ChanNo}
use Rattle.hop_reservation.specs.declared.route.Hop.{Hop}
use Rattle.link_steps.specs.Lists.{Each}
use Rattle.link_steps.specs.Split.{Link}
use Rattle.link_steps.proofs.SearchAndFilter.{Each-if}
use Rattle.link_ledger.specs.Owners.{IsOwner}
use Rattle.link_ledger.specs.Tokens.{Token}
use Rattle.setup_protocol.specs.Hops.{IsHopOf}
use Rattle.shared_network.specs.Gathering.{AreAll}
use Rattle.shared_network.proofs.Numbering.ActorOrder.{actors-in_order}
use Rattle.shared_network.specs.Ready.{IsNew}
use Rattle.shared_network.specs.Worked.{IsWorkedLink}
use Rattle.shared_network.proofs.Numbering.LinkNumbers.{numbered-length}
use Rattle.shared_network.proofs.WorkedNetworks.{first-actor, first-new, owner-is, planes-first, second-actor, second-new}
use Rattle.step_stamp.specs.Lists.{up_to}
use Rattle.step_stamp.specs.Opening.{ArePasses}
use Rattle.step_stamp.specs.Seats.{seat_actor}
use Rattle.step_stamp.specs.declared.seats.PassSeat.{PassSeat}
use Rattle.tick_plane.specs.PlaneAccount.{PlaneAccount}
use Rattle.tick_plane.specs.Planes.{plane_start}
use Rattle.network_tour.specs.Tour.{IsNewOf, IsTour, IsTourHop, MayClose, PlaneGoes}

-- one of two elements
at-two : {X : Type 0} (P : X → Type 0) (xs : List X) (n : ℕ) → length xs ≡ 2 → n < 2 → Each P xs → (x : X) × (slice_get xs n ≡ Some x) × P x
at-two P [] n two below each = absurd (omega (arith, two))
at-two P (x ∷ []) n two below each = absurd (omega (arith, two))
at-two P (x ∷ y ∷ []) zero two below each = (x, refl, each.0)
at-two P (x ∷ y ∷ []) (suc zero) two below each = (y, refl, each.1.0)
at-two P (x ∷ y ∷ []) (suc (suc n)) two below each = absurd (omega (arith, below))
at-two P (x ∷ y ∷ z ∷ xs) n two below each = absurd (omega (arith, two))

tour-hop : (links : List Link) (owners : List ActorNo) (hop : Hop) → IsTour links owners → IsTourHop hop → IsHopOf links hop
tour-hop links owners hop tour on =
    let found = at-two (λ (link : Link). IsWorkedLink link.shape) links (link_number hop.link) tour.two on.link tour.worked in
    record { link = found.0; linked = found.1; bounds = on.bounds ∙ sym found.2.bounds; prop = on.prop ∙ sym found.2.prop }

pub tour-hops : (links : List Link) (owners : List ActorNo) (route : List Hop) → IsTour links owners → Each IsTourHop route → Each (IsHopOf links) route
tour-hops links owners route tour over = Each-if IsTourHop (IsHopOf links) route (λ hop on. tour-hop links owners hop tour on) over

pub tour-owner : (links : List Link) (owners : List ActorNo) (actor : ActorNo) (chan : ChanNo) → IsTour links owners → actor_number actor ≡ 0 → channel_number chan ≡ 0 → IsOwner owners actor chan
tour-owner links owners actor chan tour at of = owner-is owners 0 0 actor chan (ap (λ ns. slice_get ns 0) tour.owned) at of

-- ---- the passes

pub two-all : (table : TableId) (owners : List ActorNo) (links : List Link) (first second : Token) → MayClose table owners links 0 first → MayClose table owners links 1 second → AreAll table owners links (first ∷ second ∷ [])
unfolding up_to
two-all table owners links first second one other = record {
  some = omega arith;
  actors = actors-in_order 2 (actor_number first.actor ∷ actor_number second.actor ∷ []) (λ i. one.actor_is i ∷ other.actor_is i ∷ []);
  among = (one.among, (other.among, tt));
  may_step = (one.may_step, (other.may_step, tt));
}

-- an opening for two actors gives two passes, and they are new
pub opened-two : (seats : List PassSeat) (table : TableId) (passes : List Token) → ArePasses table 2 2 seats → map (λ (p : Token). actor_number p.actor) passes ≡ up_to (length seats) → length passes ≡ 2
opened-two seats table passes of are = numbered-length (λ (p : Token). actor_number p.actor) passes 2 (are ∙ ap up_to (numbered-length seat_actor seats 2 of.numbers))

module _ (table : TableId) (owners : List ActorNo) (links : List Link) (seats : List PassSeat) (passes : List Token) (first second : Token) (of : ArePasses table 2 2 seats) (are : passes ≡ first ∷ second ∷ []) (each : Each (IsNew table owners links (length seats)) passes) (numbers : map (λ (p : Token). actor_number p.actor) passes ≡ up_to (length seats)) where
  pub opened-first : IsNewOf table owners links 0 first
  opened-first = record {
    new = first-new table owners links 2 seats of passes (second ∷ []) first (sym are) each;
    actor_is = first-actor table owners links 2 seats of passes (second ∷ []) first (sym are) numbers (omega arith);
  }

  pub opened-second : IsNewOf table owners links 1 second
  opened-second = record {
    new = second-new table owners links 2 seats of passes [] first second (sym are) each;
    actor_is = second-actor table owners links 2 seats of passes [] first second (sym are) numbers (omega arith);
  }

-- ---- the plane

pub goes-first : (table : TableId) (owners : List ActorNo) (links : List Link) (plane : PlaneAccount) (pass : Token) → IsTour links owners → IsNewOf table owners links 1 pass → plane ≡ record { links = 2; rounds = 50; at = plane_start; spare = 0 } → PlaneGoes table owners links plane pass
goes-first table owners links plane pass tour of is = record {
  may_close = record { may_step = of.new.may_step; among = of.new.among; actor_is = of.actor_is };
  links_are = ap (λ (p : PlaneAccount). p.links) is ∙ sym tour.two;
  rounds_are = ap (λ (p : PlaneAccount). p.rounds) is;
  planes = planes-first (length links) plane pass.own of.new.own (ap (λ (p : PlaneAccount). p.at) is);
}
