-- Over a whole route: each packet of a channel is eligible at a hop no later than at the first hop plus the level bounds and
-- propagations of the hops before; and under delay-jitter control exactly that much later.
use Rattle.std.proofs.Common.{◌≡◌, ℕ, zero, suc, ◌+◌, ◌<◌, List, [], ◌∷◌, ◌++◌, length, get_or, take, Some, sym, ap, ◌∙◌, subst, arith}
use Rattle.run_engine.proofs.Words.{length-take-le, same_Some, slice_get_within, slice_get, bound_at, link_number, channel_number, delay_over, Hop, RequestFits, Request, Done, ticks_at, NetworkFits, Network, IsRun, packets_on, ChannelAsked, HopAt, hop_ticks, IsBehind, delay_before}
use Rattle.std.proofs.Math.Seq.{take-suc}
use Rattle.hop_reservation.proofs.OneMoreOffer.{delay_over-push}
use Rattle.run_engine.proofs.Channels.HopsAt.{hop-at, HaveLevelsAt}
use Rattle.interleave_core.proofs.Delays.HopLaw.{TwoHops, hop-law}

after-none : (ticks : List ℕ) → IsBehind 0 ticks ticks
after-none ticks = record { fewer = omega arith; after = λ k within. omega arith }

after-trans : (a b : ℕ) (first second third : List ℕ) → IsBehind a first second → IsBehind b second third → IsBehind (a + b) first third
after-trans a b first second third one two = record {
  fewer = (let x = one.fewer in let y = two.fewer in omega (arith, x, y));
  after = λ k within. (let y = two.after k within in let f = two.fewer in let x = one.after k (omega (arith, f, within)) in omega (arith, x, y));
}

pub same-hop : (network : Network) (request : Request) (i : ℕ) (one other : HopAt network request i) (run : List Done) → hop_ticks network request i one run ≡ hop_ticks network request i other run
same-hop network request i one other run =
    let hop : one.hop ≡ other.hop = same_Some one.hop other.hop (sym one.stands ∙ other.stands) in
    let link : one.link ≡ other.link = same_Some one.link other.link (sym one.linked ∙ ap (λ h. slice_get network.links (link_number h.link)) hop ∙ other.linked) in
    ap (λ l. ticks_at (channel_number request.chan) (packets_on l (link_number one.hop.link) run)) link ∙ ap (λ h. ticks_at (channel_number request.chan) (packets_on other.link (link_number h.link) run)) hop

pub delay-more : (network : Network) (request : Request) (levels : List ℕ) (i : ℕ) (at : HopAt network request i) → i < length levels → delay_before request levels (suc i) ≡ delay_before request levels i + (bound_at at.link.shape.bounds (get_or levels i 0) + at.link.shape.prop)
delay-more network request levels i at within =
    let count : length (take i levels) ≡ i = length-take-le i levels (omega arith) in
    let more : take (suc i) levels ≡ take i levels ++ get_or levels i 0 ∷ [] = take-suc levels i 0 within in
    let found : slice_get request.route (length (take i levels)) ≡ Some at.hop = ap (slice_get request.route) count ∙ at.stands in
    ap (delay_over request.route) more ∙ delay_over-push request.route (take i levels) at.hop (get_or levels i 0) found
    ∙ ap (λ d. delay_before request levels i + d) (ap (λ bs. bound_at bs (get_or levels i 0) + at.hop.prop) at.bounds ∙ ap (λ p. bound_at at.link.shape.bounds (get_or levels i 0) + p) at.prop)

-- the law of the path
pub path-law : (network : Network) (request : Request) (levels : List ℕ) (run : List Done) → NetworkFits network → RequestFits network.links request → ((past : List Done) → IsRun network past → ChannelAsked request past) → IsRun network run → HaveLevelsAt network request levels run
    → (first : HopAt network request 0) (i : ℕ) (at : HopAt network request i) → IsBehind (delay_before request levels i) (hop_ticks network request 0 first run) (hop_ticks network request i at run)
unfolding delay_over
path-law network request levels run fits sound asked is have first zero at =
    subst (λ ticks. IsBehind (delay_over request.route []) (hop_ticks network request 0 first run) ticks) (same-hop network request 0 first at run) (no-delay request.route (hop_ticks network request 0 first run)) where
      no-delay : (hops : List Hop) (ticks : List ℕ) → IsBehind (delay_over hops []) ticks ticks
      no-delay [] ticks = after-none ticks
      no-delay (hop ∷ hops) ticks = after-none ticks
path-law network request levels run fits sound asked is have first (suc i) at =
    let within : suc i < length request.route = slice_get_within request.route (suc i) at.hop at.stands in
    let before = hop-at network request i sound (omega arith) in
    let so-far = path-law network request levels run fits sound asked is have first i before in
    let two : TwoHops network request i = record { hop = before.hop; after = at.hop; stands = before.stands; follows = at.stands; near = before.link; far = at.link; linked = before.linked; far_linked = at.linked } in
    let step = (hop-law network request i two fits sound asked run is (get_or levels i 0) (have.at i before)).after in
    let count = have.count in
    subst (λ d. IsBehind d (hop_ticks network request 0 first run) (hop_ticks network request (suc i) at run)) (sym (delay-more network request levels i before (omega (arith, within, count))))
    (after-trans (delay_before request levels i) (bound_at before.link.shape.bounds (get_or levels i 0) + before.link.shape.prop) (hop_ticks network request 0 first run) (hop_ticks network request i before run) (hop_ticks network request (suc i) at run) so-far step)
