-- Two hops of a route with one index are one hop; and the packet with an index at a first hop arrived at the tick at that index.
use Rattle.std.proofs.Common.{◌≡◌, ℕ, zero, suc, ◌+◌, ◌<◌, ◌≤◌, true, List, [], ◌∷◌, map, get_or, sym, ap, ◌∙◌, subst, inl, inr, arith}
use Rattle.run_engine.proofs.Words.{same_Some, slice_get, link_number, channel_number, Hop, clock_of, starts_of, Arrival, Start, leaves_at, Link, Among, Request, is_of_channel, AreNumberedAfter, Network, part_of, Done, packets_on, HopAt}
use Rattle.link_steps.specs.SourceGuarantee.{arrival_of}
use Rattle.link_steps.proofs.SearchAndFilter.{Each-among}
use Rattle.run_engine.specs.channels.Paths.{clock_at, starts_at, departs_at}
use Rattle.interleave_core.specs.channels.Guarantee.{HasLeft}
use Rattle.audit_laws.proofs.RunDeparts.{numbers-above}

-- ---- one hop

pub record AreOneHop (network : Network) (request : Request) (i j : ℕ) (one : HopAt network request i) (other : HopAt network request j) : Type 0 where
  pub hop : one.hop ≡ other.hop
  pub link : one.link ≡ other.link

pub one-hop : (network : Network) (request : Request) (i j : ℕ) (one : HopAt network request i) (other : HopAt network request j) → i ≡ j → AreOneHop network request i j one other
one-hop network request i j one other same =
    let hop : one.hop ≡ other.hop = same_Some one.hop other.hop (sym one.stands ∙ ap (slice_get request.route) same ∙ other.stands) in
    record { hop = hop; link = same_Some one.link other.link (sym one.linked ∙ ap (λ (h : Hop). slice_get network.links (link_number h.link)) hop ∙ other.linked) }

-- what has left the one has left the other
pub left-there : (network : Network) (request : Request) (i j : ℕ) (one : HopAt network request i) (other : HopAt network request j) (run : List Done) (k : ℕ) (start : Start) → AreOneHop network request i j one other
    → Among start (starts_at one run) → is_of_channel (channel_number request.chan) start.packet ≡ true → departs_at one start ≤ clock_at one run → start.packet.number ≡ suc k → HasLeft network request j other run k start
left-there network request i j one other run k start same among own left number = record {
  among = subst (λ (l : Link). Among start (starts_of l.shape (part_of (link_number other.hop.link) run))) same.link (subst (λ (h : Hop). Among start (starts_of one.link.shape (part_of (link_number h.link) run))) same.hop among);
  own = own;
  number = number;
  left = subst (λ (l : Link). leaves_at l.shape.rate start ≤ clock_of (part_of (link_number other.hop.link) run)) same.link (subst (λ (h : Hop). leaves_at one.link.shape.rate start ≤ clock_of (part_of (link_number h.link) run)) same.hop left);
}

pub packets-there : (network : Network) (request : Request) (i j : ℕ) (one : HopAt network request i) (other : HopAt network request j) (run : List Done) (p : Arrival) → AreOneHop network request i j one other → Among p (packets_on one.link (link_number one.hop.link) run) → Among p (packets_on other.link (link_number other.hop.link) run)
packets-there network request i j one other run p same among =
    subst (λ (l : Link). Among p (packets_on l (link_number other.hop.link) run)) same.link (subst (λ (h : Hop). Among p (packets_on one.link (link_number h.link) run)) same.hop among)

-- ---- when a packet arrived

pub arrived-at : (n : ℕ) (own : List Arrival) (p : Arrival) (k : ℕ) → AreNumberedAfter n own → Among p own → p.number ≡ suc (n + k) → get_or (map arrival_of own) k 0 ≡ p.at
arrived-at n [] p k are among is = absurd among
arrived-at n (q ∷ own) p zero are (inl same) is = ap (λ (x : Arrival). x.at) (sym same)
arrived-at n (q ∷ own) p (suc k) are (inl same) is = absurd (let e : p.number ≡ q.number = ap (λ (x : Arrival). x.number) same in let f = are.0 in omega (arith, e, f, is))
arrived-at n (q ∷ own) p zero are (inr there) is = absurd (let above = Each-among (λ (x : Arrival). suc n < x.number) p own (numbers-above (suc n) own are.1) there in omega (arith, above, is))
arrived-at n (q ∷ own) p (suc k) are (inr there) is = arrived-at (suc n) own p k are.1 there (omega (arith, is))
