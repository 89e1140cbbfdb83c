-- The worked networks meet what their calls require: each request has one hop over one of their links, and each actor owns the
-- channels that it asks for.
use Rattle.std.proofs.Common.{◌≡◌, ◌≤◌, ℕ, ◌<◌, Option, Some, None, List, [], ◌∷◌, length, map, refl, sym, ap, ◌∙◌, subst, arith}
use Rattle.shared_network.proofs.Words.{same_Some, slice_get-map, slice_get, option_map, IsPermutation, IsPermutation-reverse, TableId, actor_number, channel_number, ActorNo, ChanNo, LinkNo, Hop, Each, Link, Submit, Reply, Outcome, Request, up_to, AreLinks, ArePasses, seat_actor, plane_start, plane_of, IsOwner, Token, IsLink, stamps_drawn, OwnEntry, IsHopOf}
use Rattle.link_steps.proofs.SearchAndFilter.{Each-if}
use Rattle.step_stamp.specs.declared.seats.LinkSeat.{LinkSeat}
use Rattle.step_stamp.specs.declared.seats.PassSeat.{PassSeat}
use Rattle.tick_plane.specs.PlaneAccount.{PlaneAccount}
use Rattle.shared_network.specs.Added.{Adds}
use Rattle.shared_network.specs.Calls.{HasNone, Follows, IsEstablished, SetsUp}
use Rattle.shared_network.specs.Shifts.{NoneSubmitted, WerePlanned}
use Rattle.shared_network.proofs.CallSteps.SubmitsOfCalls.{unsent-stays, none-planned, setup-unsent, one-unsent, one-planned}
use Rattle.shared_network.specs.Gathering.{AreAll}
use Rattle.shared_network.proofs.Numbering.ActorOrder.{actors-in_order}
use Rattle.shared_network.specs.Planes.{IsPlanes}
use Rattle.shared_network.specs.Ready.{MayStep, IsNew}
use Rattle.shared_network.specs.Worked.{IsWorkedLink, IsOverLink, IsJob, MayPlan, MayMove}
use Rattle.shared_network.proofs.Numbering.LinkNumbers.{numbered-at, numbered-length}
use Rattle.net_units.proofs.KnownByNumber.{same-actor}

pub over-hops : (links : List Link) (l : ℕ) (link : Link) (route : List Hop) → IsLink links l link → IsWorkedLink link.shape → Each (IsOverLink l) route → Each (IsHopOf links) route
over-hops links l link route is worked over =
    Each-if (IsOverLink l) (IsHopOf links) route (λ hop on. record { link = link; linked = subst (λ n. IsLink links n link) (sym on.link_is) is; bounds = on.bounds ∙ sym worked.bounds; prop = on.prop ∙ sym worked.prop }) over

numbered-owner : (k : ℕ) (found : Option ActorNo) (actor : ActorNo) → option_map (λ (a : ActorNo). actor_number a) found ≡ Some k → actor_number actor ≡ k → found ≡ Some actor
numbered-owner k None actor is at = absurd (let clash : None ≡ Some k = is in cc)
numbered-owner k (Some owner) actor is at = ap Some (same-actor owner actor (same_Some (actor_number owner) k is ∙ sym at))

-- the owner of the channel of a number, by the owner's number
pub owner-is : (owners : List ActorNo) (k n : ℕ) (actor : ActorNo) (chan : ChanNo) → slice_get (map (λ (a : ActorNo). actor_number a) owners) k ≡ Some n → actor_number actor ≡ n → channel_number chan ≡ k → IsOwner owners actor chan
owner-is owners k n actor chan numbered at is =
    ap (slice_get owners) is ∙ numbered-owner n (slice_get owners k) actor (sym (slice_get-map (λ (a : ActorNo). actor_number a) owners k) ∙ numbered) at

pub one-all : (table : TableId) (owners : List ActorNo) (links : List Link) (pass : Token) → MayStep table owners links pass → pass.view.among ≡ 1 → actor_number pass.actor ≡ 0 → AreAll table owners links (pass ∷ [])
unfolding up_to
one-all table owners links pass may among actor = record { some = omega arith; actors = actors-in_order 1 (actor_number pass.actor ∷ []) (ap (λ n. n ∷ []) actor); among = (among, tt); may_step = (may, tt) }

-- two new passes, the second one first
pub two-backwards : (table : TableId) (owners : List ActorNo) (links : List Link) (first second : Token) → IsNew table owners links 2 first → IsNew table owners links 2 second → actor_number first.actor ≡ 0 → actor_number second.actor ≡ 1 → AreAll table owners links (second ∷ first ∷ [])
unfolding up_to
two-backwards table owners links first second one other zeroth next = record {
  some = omega arith;
  actors = subst (IsPermutation (up_to 2)) (λ i. sym next i ∷ sym zeroth i ∷ []) (IsPermutation-reverse (up_to 2));
  among = (other.among, (one.among, tt));
  may_step = (other.may_step, (one.may_step, tt));
}

-- a plane that stands at the start of its first round has asked nothing
pub planes-first : (links : ℕ) (plane : PlaneAccount) (own : List OwnEntry) → own ≡ [] → plane.at ≡ plane_start → IsPlanes links plane own
unfolding Follows plane_of
planes-first links plane own none start = subst (IsPlanes links plane) (sym none) (record { follows = tt; stands = start })

-- ---- an opening

pub seats-are : (table : TableId) (n links : ℕ) (seats : List LinkSeat) (passes : List PassSeat) → AreLinks table n links seats → ArePasses table n n passes → AreLinks table (length passes) links seats
seats-are table n links seats passes are of = subst (λ k. AreLinks table k links seats) (sym (numbered-length seat_actor passes n of.numbers)) are

pub passes-are : (table : TableId) (n : ℕ) (passes : List PassSeat) → ArePasses table n n passes → ArePasses table (length passes) (length passes) passes
passes-are table n passes of = subst (λ k. ArePasses table k k passes) (sym (numbered-length seat_actor passes n of.numbers)) of

module _ (table : TableId) (owners : List ActorNo) (links : List Link) (n : ℕ) (seats : List PassSeat) (of : ArePasses table n n seats) (passes rest : List Token) (pass : Token) (split : pass ∷ rest ≡ passes) where
  pub first-new : Each (IsNew table owners links (length seats)) passes → IsNew table owners links n pass
  first-new each = subst (λ k. IsNew table owners links k pass) (numbered-length seat_actor seats n of.numbers) (subst (Each (IsNew table owners links (length seats))) (sym split) each).0

  pub first-actor : map (λ (p : Token). actor_number p.actor) passes ≡ up_to (length seats) → 0 < n → actor_number pass.actor ≡ 0
  first-actor are some = numbered-at (λ (p : Token). actor_number p.actor) passes n 0 pass (are ∙ ap up_to (numbered-length seat_actor seats n of.numbers)) some (ap (λ ps. slice_get ps 0) (sym split))

-- the second pass of an opening, and its actor
module _ (table : TableId) (owners : List ActorNo) (links : List Link) (n : ℕ) (seats : List PassSeat) (of : ArePasses table n n seats) (passes rest : List Token) (first second : Token) (split : first ∷ second ∷ rest ≡ passes) where
  pub second-new : Each (IsNew table owners links (length seats)) passes → IsNew table owners links n second
  second-new each = subst (λ k. IsNew table owners links k second) (numbered-length seat_actor seats n of.numbers) (subst (Each (IsNew table owners links (length seats))) (sym split) each).1.0

  pub second-actor : map (λ (p : Token). actor_number p.actor) passes ≡ up_to (length seats) → 1 < n → actor_number second.actor ≡ 1
  second-actor are some = numbered-at (λ (p : Token). actor_number p.actor) passes n 1 second (are ∙ ap up_to (numbered-length seat_actor seats n of.numbers)) some (ap (λ ps. slice_get ps 1) (sym split))

-- a new pass may set up the channel of its number over the link of its number
pub new-job : (table : TableId) (owners : List ActorNo) (links : List Link) (n k : ℕ) (pass : Token) (request : Request) (link : Link) → IsNew table owners links n pass → slice_get (map (λ (a : ActorNo). actor_number a) owners) k ≡ Some k → actor_number pass.actor ≡ k → channel_number request.chan ≡ k → IsLink links k link → IsWorkedLink link.shape → Each (IsOverLink k) request.route → IsJob table owners links pass request
new-job table owners links n k pass request link new numbered actor chan is worked over = record {
  may_step = new.may_step;
  drawn = new.drawn;
  owned = owner-is owners k k pass.actor request.chan numbered actor chan;
  new = subst (HasNone request.chan) (sym new.own) tt;
  hops = over-hops links k link request.route is worked over;
}

-- ---- a move

-- both channels are set up with the pass, and packets of the first are planned
module _ (table : TableId) (owners : List ActorNo) (links : List Link) (left joined : Request) (pass0 pass1 pass2 pass3 : Token) (one two : Outcome) (to : LinkNo) (count : ℕ) (reply : Reply) (may : MayPlan table owners links pass0 left joined) (first : SetsUp left pass0 pass1 one) (second : SetsUp joined pass1 pass2 two) (sent : Adds pass2 pass3 (record { link = to; ask = Submit left.chan count 10 2; reply = reply } ∷ [])) where
  -- nothing is submitted before
  unsent-before : (chan : ChanNo) → NoneSubmitted chan pass2.own
  unsent-before chan =
      unsent-stays chan pass1.own pass2.own second.entries second.own (setup-unsent joined (channel_number chan) second.entries second.follows)
      (unsent-stays chan pass0.own pass1.own first.entries first.own (setup-unsent left (channel_number chan) first.entries first.follows) (subst (NoneSubmitted chan) (sym may.new.own) tt))

  unsent-joined : NoneSubmitted joined.chan pass3.own
  unsent-joined = unsent-stays joined.chan pass2.own pass3.own sent.entries sent.own (one-unsent (channel_number joined.chan) sent.entries _ sent.are (λ same. may.apart (sym same))) (unsent-before joined.chan)

  planned-left : WerePlanned left.chan 10 2 pass3.own
  planned-left =
      one-planned left.chan count 10 2 pass2.own pass3.own sent.entries _ sent.own sent.are refl
      (λ p same. absurd (let clash : None ≡ Some p = sym (none-planned left.chan pass2.own (unsent-before left.chan)) ∙ same in cc))

  pub may-move : MayStep table owners links pass3 → stamps_drawn pass3 ≤ 65 → pass3.actor ≡ pass0.actor → IsEstablished left pass3.own → IsEstablished joined pass3.own → MayMove table owners links pass3 left joined
  may-move may_step few actor left_open joined_open = record {
    may_step = may_step;
    few = few;
    owned_left = subst (λ (a : ActorNo). IsOwner owners a left.chan) (sym actor) may.owned_left;
    owned_joined = subst (λ (a : ActorNo). IsOwner owners a joined.chan) (sym actor) may.owned_joined;
    hops_left = may.hops_left;
    hops_joined = may.hops_joined;
    apart = may.apart;
    small = may.small;
    left_open = left_open;
    joined_open = joined_open;
    unsent = unsent-joined;
    planned = planned-left;
  }
