-- While a setup is under way, each hop of its route holds what the replies so far have made: the hops that have offered and weren't
-- asked back hold a tentative reservation, those that were relaxed a committed one, and the others none. What is known of a
-- hop may be more than that: `free` says that it holds none, and `holds` that it holds this reservation.
use Rattle.std.proofs.Common.{◌≡◌, ℕ, zero, suc, ◌-◌, ◌<◌, ◌≤◌, List, [], ◌∷◌, ◌++◌, length, get_or, Option, Some, None, refl, sym, ap, ◌∙◌, inl, inr, arith}
use Rattle.std.proofs.lemmas.Bool.{cases_lt, lt-ltb, le-ltb}
use Rattle.std.proofs.lemmas.List.{get_or_append_left}
use Rattle.std.specs.List.{slice_get}
use Rattle.std.specs.Prelude.{nat_eq, max}
use Rattle.net_units.specs.LevelBounds.{bound_at, levels_within}
use Rattle.net_units.specs.Numbers.{level_number}
use Rattle.hop_reservation.specs.declared.route.Hop.{Hop}
use Rattle.link_steps.specs.Reservation.{Reservation}
use Rattle.link_steps.specs.declared.replies.Phase.TheVariants.{Tentative, Committed}
use Rattle.link_steps.specs.declared.replies.Reply.{Reply}
use Rattle.relaxation.specs.Allotment.{denial_of, allotted}
use Rattle.relaxation.specs.declared.EndDenial.{EndDenial}
use Rattle.setup_protocol.specs.Requests.{jitter_of}
use Rattle.setup_protocol.specs.Setup.{Accepts, Denies, Progress, Reserving, Undoing, Relaxing, Settled, offers_in, after_offers, reach_after, undoing, relaxing, on_the_way, after_test, bound_given, progress_of}
use Rattle.setup_protocol.specs.State.{with_offers}
use Rattle.setup_protocol.specs.declared.request.Request.{Request}
use Rattle.setup_protocol.specs.declared.verdict.Deny.{Deny as Denial}
use Rattle.setup_protocol.proofs.SetupAdvances.{progress-on_the_way, progress-tested}

-- ---- what a hop holds

-- the level bounds of a hop, if it is there
abbrev pub bounds_in : Option Hop → List ℕ
bounds_in None = []
bounds_in (Some hop) = hop.bounds

-- the reach of an offer, and the bound of the reach before a hop
abbrev pub reach_at : Request → List ℕ → ℕ → ℕ
reach_at request offers i = levels_within (bounds_in (slice_get request.route i)) (max request.delay (bound_at (bounds_in (slice_get request.route i)) (get_or offers i 0)))

abbrev pub reach_bound : Request → List ℕ → ℕ → ℕ
reach_bound request offers zero = 0
reach_bound request offers (suc i) = bound_at (bounds_in (slice_get request.route i)) (reach_at request offers i)

-- a hop that has offered holds a tentative reservation with its offer's level and reach
pub record IsTent {X : Type 0} (holds : Reservation → X) (request : Request) (offers : List ℕ) (i : ℕ) (held : X) : Type 0 where
  pub terms : Reservation
  pub is : held ≡ holds terms
  pub phase : terms.phase ≡ Tentative
  pub level : level_number terms.level ≡ get_or offers i 0
  pub reach : level_number terms.reach ≡ reach_at request offers i
  pub up_reach : terms.up_reach ≡ reach_bound request offers i
  pub first : terms.first ≡ nat_eq i 0

-- a hop that was relaxed holds a committed one, with the level that it is allotted
pub record IsComm {X : Type 0} (holds : Reservation → X) (request : Request) (levels : List ℕ) (i : ℕ) (held : X) : Type 0 where
  pub terms : Reservation
  pub is : held ≡ holds terms
  pub phase : terms.phase ≡ Committed
  pub level : level_number terms.level ≡ get_or levels i 0
  pub up_bound : terms.up_bound ≡ bound_given request.route levels i
  pub first : terms.first ≡ nat_eq i 0

-- how many hops, from the first on, hold a tentative reservation, and what the others hold
abbrev pub reserved_of : List ℕ → Progress → ℕ
reserved_of offers (Reserving os reach) = length offers
reserved_of offers (Undoing left deny) = left
reserved_of offers (Relaxing left levels) = left
reserved_of offers (Settled outcome) = 0

abbrev pub IsTail : {X : Type 0} → X → (Reservation → X) → Request → Progress → ℕ → X → Type 0
IsTail free holds request (Reserving os reach) i held = held ≡ free
IsTail free holds request (Undoing left deny) i held = held ≡ free
IsTail free holds request (Relaxing left levels) i held = IsComm holds request levels i held
IsTail free holds request (Settled (Accepts levels delay)) i held = IsComm holds request levels i held
IsTail free holds request (Settled (Denies deny)) i held = held ≡ free

-- what the hop at a place, from 0, holds where a setup has come so far
pub record HopStands {X : Type 0} (free : X) (holds : Reservation → X) (request : Request) (offers : List ℕ) (p : Progress) (i : ℕ) (held : X) : Type 0 where
  pub tent : i < reserved_of offers p → IsTent holds request offers i held
  pub tail : reserved_of offers p ≤ i → IsTail free holds request p i held

-- ---- how far a setup is

-- hops reserve, give their rows back, or are relaxed to the levels allotted; so many are left
pub data View (request : Request) (replies : List Reply) : Type 0 where
  OnWay : length (offers_in replies) < length request.route → after_offers replies ≡ [] → progress_of request replies ≡ Reserving (offers_in replies) (reach_after 0 request.route replies) → View request replies
  Back : (left : ℕ) (deny : Denial) → left ≤ length request.route → progress_of request replies ≡ undoing left deny → View request replies
  Forth : (left : ℕ) → left ≤ length request.route → length request.route ≤ length (offers_in replies) → denial_of request.route (offers_in replies) request.delay (jitter_of request.control) ≡ None → progress_of request replies ≡ relaxing request.route left (allotted request.route (offers_in replies) request.delay (jitter_of request.control)) → View request replies

view-way : (request : Request) (replies rest : List Reply) → after_offers replies ≡ rest → length (offers_in replies) < length request.route → progress_of request replies ≡ on_the_way (offers_in replies) (reach_after 0 request.route replies) rest → View request replies
view-way request replies [] after fewer is = OnWay fewer after is
view-way request replies (first ∷ denied) after fewer is = Back (length (offers_in replies) - length denied) _ (omega (arith, fewer)) is

view-test : (request : Request) (replies : List Reply) (denial : Option EndDenial) → denial_of request.route (offers_in replies) request.delay (jitter_of request.control) ≡ denial → length request.route ≤ length (offers_in replies) → progress_of request replies ≡ after_test request (offers_in replies) (length (after_offers replies)) denial → View request replies
view-test request replies (Some denial) tested whole is = Back (length request.route - length (after_offers replies)) _ (omega arith) is
view-test request replies None tested whole is = Forth (length request.route - length (after_offers replies)) (omega arith) whole tested is

pub view : (request : Request) (replies : List Reply) → View request replies
view request replies =
    elim (cases_lt (length (offers_in replies)) (length request.route)) [
      | inl fewer ↦ view-way request replies (after_offers replies) refl fewer (progress-on_the_way request replies fewer)
      | inr whole ↦ view-test request replies (denial_of request.route (offers_in replies) request.delay (jitter_of request.control)) refl whole (progress-tested request replies whole)
    ]

-- ---- the stands of what follows

module _ {X : Type 0} (free : X) (holds : Reservation → X) (request : Request) (offers : List ℕ) where
  pub undo-stands : (left : ℕ) (deny : Denial) (i : ℕ) (held : X) → (i < left → IsTent holds request offers i held) → (left ≤ i → held ≡ free) → HopStands free holds request offers (undoing left deny) i held
  undo-stands zero deny i held tent none = record { tent = λ less. absurd (omega (arith, less)); tail = λ from. none (omega arith) }
  undo-stands (suc left) deny i held tent none = record { tent = tent; tail = none }

  pub relax-stands : (left : ℕ) (levels : List ℕ) (i : ℕ) (held : X) → (i < left → IsTent holds request offers i held) → (left ≤ i → IsComm holds request levels i held) → HopStands free holds request offers (relaxing request.route left levels) i held
  relax-stands zero levels i held tent comm = record { tent = λ less. absurd (omega (arith, less)); tail = λ from. comm (omega arith) }
  relax-stands (suc left) levels i held tent comm = record { tent = tent; tail = comm }

  test-stands : (denial : Option EndDenial) (i : ℕ) (held : X) → i < length request.route → IsTent holds request offers i held → HopStands free holds request offers (after_test request offers 0 denial) i held
  test-stands (Some denial) i held within tent = undo-stands (length request.route - 0) _ i held (λ less. tent) (λ from. absurd (omega (arith, from, within)))
  test-stands None i held within tent = relax-stands (length request.route - 0) _ i held (λ less. tent) (λ from. absurd (omega (arith, from, within)))

  pub offers-stands : (reach i : ℕ) (held : X) → i < length request.route → (i < length offers → IsTent holds request offers i held) → (length offers ≤ i → held ≡ free) → HopStands free holds request offers (with_offers request offers reach) i held
  offers-stands reach i held within tent none =
      elim (cases_lt (length offers) (length request.route)) [
        | inl fewer ↦ rw (lt-ltb (length offers) (length request.route) fewer) (record { tent = tent; tail = none })
        | inr whole ↦ rw (le-ltb (length offers) (length request.route) whole) (test-stands (denial_of request.route offers request.delay (jitter_of request.control)) i held within (tent (omega (arith, within, whole))))
      ]

  -- and what they say: of a setup that undoes, and of one that relaxes
  pub undo-says : (left : ℕ) (deny : Denial) (i : ℕ) (held : X) → HopStands free holds request offers (undoing left deny) i held → (i < left → IsTent holds request offers i held) × (left ≤ i → held ≡ free)
  undo-says zero deny i held stands = (λ less. absurd (omega (arith, less)), λ from. stands.tail (omega arith))
  undo-says (suc left) deny i held stands = (stands.tent, stands.tail)

  pub relax-says : (left : ℕ) (levels : List ℕ) (i : ℕ) (held : X) → HopStands free holds request offers (relaxing request.route left levels) i held → (i < left → IsTent holds request offers i held) × (left ≤ i → IsComm holds request levels i held)
  relax-says zero levels i held stands = (λ less. absurd (omega (arith, less)), λ from. stands.tail (omega arith))
  relax-says (suc left) levels i held stands = (stands.tent, stands.tail)

-- ---- one offer more

offer-kept : (offers : List ℕ) (level i : ℕ) → i < length offers → get_or (offers ++ level ∷ []) i 0 ≡ get_or offers i 0
offer-kept offers level i less = get_or_append_left offers (level ∷ []) 0 i less

reach-kept : (request : Request) (offers : List ℕ) (level i : ℕ) → i < length offers → reach_at request (offers ++ level ∷ []) i ≡ reach_at request offers i
reach-kept request offers level i less = ap (λ o. levels_within (bounds_in (slice_get request.route i)) (max request.delay (bound_at (bounds_in (slice_get request.route i)) o))) (offer-kept offers level i less)

pub up-kept : (request : Request) (offers : List ℕ) (level i : ℕ) → i ≤ length offers → reach_bound request (offers ++ level ∷ []) i ≡ reach_bound request offers i
up-kept request offers level zero less = refl
up-kept request offers level (suc i) less = ap (bound_at (bounds_in (slice_get request.route i))) (reach-kept request offers level i (omega (arith, less)))

pub tent-kept : {X : Type 0} (holds : Reservation → X) (request : Request) (offers : List ℕ) (level i : ℕ) (held : X) → i < length offers → IsTent holds request offers i held → IsTent holds request (offers ++ level ∷ []) i held
tent-kept holds request offers level i held less tent = record {
  terms = tent.terms;
  is = tent.is;
  phase = tent.phase;
  level = tent.level ∙ sym (offer-kept offers level i less);
  reach = tent.reach ∙ sym (reach-kept request offers level i less);
  up_reach = tent.up_reach ∙ sym (up-kept request offers level i (omega (arith, less)));
  first = tent.first;
}
