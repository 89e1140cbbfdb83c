-- An ask of a setup or a teardown goes to the link of a hop of the route, at a place that is known.
use Rattle.std.proofs.Common.{◌≡◌, ℕ, suc, ◌-◌, Option, Some, None, List, [], ◌∷◌, length, ap, sym, subst, refl, arith}
use Rattle.std.proofs.lemmas.Bool.{ne_eqb}
use Rattle.std.proofs.lemmas.Option.{same_Some}
use Rattle.std.specs.List.{slice_get}
use Rattle.std.specs.Prelude.{nat_eq}
use Rattle.net_units.specs.declared.numbers.LinkNo.{LinkNo}
use Rattle.hop_reservation.specs.declared.route.Hop.{Hop}
use Rattle.link_steps.specs.declared.asks.Ask.{Ask}
use Rattle.link_steps.specs.declared.asks.Ask.TheVariants.{Deny}
use Rattle.link_steps.specs.declared.replies.Reply.{Reply}
use Rattle.link_steps.specs.Scan.{names_first_hop}
use Rattle.setup_protocol.specs.Setup.{Progress, Reserving, Undoing, Relaxing, Settled, asked, asked_of, reserve_of, relax_of}
use Rattle.setup_protocol.specs.Teardown.{first_count}
use Rattle.setup_protocol.specs.declared.request.Request.{Request}

-- the hop at a place is asked what is its own
pub record AskedAt (route : List Hop) (place : ℕ) (own : Hop → Ask) (to : LinkNo) (ask : Ask) : Type 0 where
  pub hop : Hop
  pub stands : slice_get route place ≡ Some hop
  pub at : to ≡ hop.link
  pub is : ask ≡ own hop

pub asked-at : (route : List Hop) (place : ℕ) (own : Hop → Ask) (to : LinkNo) (ask : Ask) → asked_of (slice_get route place) own ≡ Some (to, ask) → AskedAt route place own to ask
asked-at route place own to ask asks = by-hop (slice_get route place) refl asks where
  by-hop : (found : Option Hop) → slice_get route place ≡ found → asked_of found own ≡ Some (to, ask) → AskedAt route place own to ask
  by-hop None is asks = absurd (let clash : None ≡ Some (to, ask) = asks in cc)
  by-hop (Some hop) is asks = (let both = same_Some (hop.link, own hop) (to, ask) asks in record { hop = hop; stands = is; at = sym (ap (λ pair. pair.0) both); is = sym (ap (λ pair. pair.1) both) })

-- a fact of what each hop would be asked is one of the ask
pub of-hop : (P : Ask → Type 0) (found : Option Hop) (own : Hop → Ask) (to : LinkNo) (ask : Ask) → ((hop : Hop) → P (own hop)) → asked_of found own ≡ Some (to, ask) → P ask
of-hop P None own to ask each asks = absurd (let clash : None ≡ Some (to, ask) = asks in cc)
of-hop P (Some hop) own to ask each asks = subst P (ap (λ pair. pair.1) (same_Some (hop.link, own hop) (to, ask) asks)) (each hop)

-- a fact of each reserve, deny and relax of a request is one of each ask of its setup
pub of-setup : (P : Ask → Type 0) (request : Request) (progress : Progress) (to : LinkNo) (ask : Ask) → ((offers : List ℕ) (reach : ℕ) → P (reserve_of request offers reach)) → P (Deny request.chan) → ((levels : List ℕ) (place : ℕ) → P (relax_of request levels place)) → asked request progress ≡ Some (to, ask) → P ask
of-setup P request (Reserving offers reach) to ask reserve deny relax asks = of-hop P (slice_get request.route (length offers)) (λ hop. reserve_of request offers reach) to ask (λ hop. reserve offers reach) asks
of-setup P request (Undoing left denial) to ask reserve deny relax asks = of-hop P (slice_get request.route (left - 1)) (λ hop. Deny request.chan) to ask (λ hop. deny) asks
of-setup P request (Relaxing left levels) to ask reserve deny relax asks = of-hop P (slice_get request.route (left - 1)) (λ hop. relax_of request levels left) to ask (λ hop. relax levels left) asks
of-setup P request (Settled outcome) to ask reserve deny relax asks = absurd (let clash : None ≡ Some (to, ask) = asks in cc)

-- the release of the first hop alone tells no count
pub first-named : (replies : List Reply) → nat_eq (length replies) 0 ≡ names_first_hop (first_count replies)
first-named [] = refl
first-named (reply ∷ replies) = ne_eqb (suc (length replies)) 0 (λ e. omega (arith, e))
