-- In a run the packets of a channel at a link of its route are those of one row there.
use Rattle.std.proofs.Common.{◌≡◌, ℕ, ◌≤◌, true, List, Some, refl, sym, subst, inl, inr, arith}
use Rattle.run_engine.proofs.Words.{cases_lt, slice_get, link_number, channel_number, Hop, Scan, scan_of, Arrival, Link, Among, RequestFits, Request, NetworkFits, Network, is_of_channel, offers_to, AllOfferTerms, AreNumberedAfter, HasOneRow, ChannelStands, IsRun, part_of, Done, packets_on, terms_at, OnRoute, ChannelAsked, HopAt, packets_at}
use Rattle.link_steps.proofs.PacketRows.{Among-passes}
use Rattle.channel_laws.proofs.ChannelRows.{legal-stands, legal-free}
use Rattle.run_engine.proofs.Runs.RunLegal.{part-admissible}

-- ---- a channel at a link

pub stands-at : (network : Network) (request : Request) (run : List Done) (i : ℕ) (hop : Hop) (n : ℕ) (link : Link) → NetworkFits network → IsRun network run → ChannelAsked request run → slice_get request.route i ≡ Some hop → link_number hop.link ≡ n → slice_get network.links n ≡ Some link
    → ChannelStands (terms_at request i) (channel_number request.chan) (offers_to (channel_number request.chan) (part_of n run)) (scan_of link.shape (part_of n run))
stands-at network request run i hop n link fits is asked stands number linked =
    legal-stands link.shape (terms_at request i) (channel_number request.chan) (part_of n run) (part-admissible network run n link fits is linked)
    (subst (λ m. AllOfferTerms (terms_at request i) (channel_number request.chan) (part_of m run)) number (asked.names i hop stands))

-- the packets of a channel at a hop of its route are numbered from 1 there
pub packets-numbered : (network : Network) (request : Request) (run : List Done) (i : ℕ) (at : HopAt network request i) → NetworkFits network → IsRun network run → ChannelAsked request run → AreNumberedAfter 0 (packets_at network request i at run)
packets-numbered network request run i at fits is asked =
    let stands = stands-at network request run i at.hop (link_number at.hop.link) at.link fits is asked at.stands refl at.linked in
    let once = asked.once (link_number at.hop.link) in
    elim (cases_lt 0 (offers_to (channel_number request.chan) (part_of (link_number at.hop.link) run))) [
      | inl some ↦ (stands.known (omega (arith, once, some))).tells.numbered
      | inr none ↦ subst (AreNumberedAfter 0) (sym (stands.free (omega (arith, none))).packets) tt
    ]

-- the link of a channel's packet is of a hop, and all packets of the channel there are those of one row
pub record RowAt (request : Request) (n : ℕ) (scan : Scan) : Type 0 where
  pub route : OnRoute request n
  pub row : HasOneRow (terms_at request route.index) (channel_number request.chan) scan

offered-row : (network : Network) (request : Request) (run : List Done) (n : ℕ) (link : Link) → NetworkFits network → IsRun network run → ChannelAsked request run → slice_get network.links n ≡ Some link → 1 ≤ offers_to (channel_number request.chan) (part_of n run) → RowAt request n (scan_of link.shape (part_of n run))
offered-row network request run n link fits is asked linked some =
    let on = asked.on n some in
    let once = asked.once n in
    record {
      route = on;
      row = (stands-at network request run on.index on.hop n link fits is asked on.stands on.number linked).known (omega (arith, once, some));
    }

-- where no offer came, the packet isn't there
pub packet-offered : (network : Network) (request : Request) (run : List Done) (n : ℕ) (link : Link) (p : Arrival) → NetworkFits network → IsRun network run → ChannelAsked request run → RequestFits network.links request → slice_get network.links n ≡ Some link → is_of_channel (channel_number request.chan) p ≡ true → Among p (packets_on link n run)
    → RowAt request n (scan_of link.shape (part_of n run))
packet-offered network request run n link p fits is asked sound linked chan among =
    elim (cases_lt 0 (offers_to (channel_number request.chan) (part_of n run))) [
      | inl some ↦ offered-row network request run n link fits is asked linked (omega (arith, some))
      | inr none ↦
          (let free = legal-free link.shape (terms_at request 0) (channel_number request.chan) (part_of n run) (part-admissible network run n link fits is linked) (omega (arith, none)) in
          absurd (subst (Among p) free.packets (Among-passes (is_of_channel (channel_number request.chan)) p (packets_on link n run) chan among)))
    ]
