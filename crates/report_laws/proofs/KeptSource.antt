-- Where the report says that the source of a channel keeps its contract, and the channel has a packet at its first hop, the whole
-- guarantee says of its row that the source keeps its contract.
use Rattle.std.proofs.Common.{◌≡◌, ℕ, ◌≤◌, ◌⊎◌, true, List, [], ◌∷◌, length, refl, sym, ◌∙◌, subst, inl, inr, arith}
use Rattle.run_engine.proofs.Words.{cases_lt, eqb-true, eq-eqb, and_parts, nat_eq, nat_lt, channel_number, Keeps, Entry, LinkShape, IsAdmissible, Among, Row, offered_by, clock_of, scan_of, Arrival, HopTerms, is_of_channel, channel_packets, channel_of, offers_to, AllOfferTerms, RowTells, IsElsewhere, IsOnly}
use Rattle.traffic_contract.specs.Keeping.{keeps}
use Rattle.traffic_contract.proofs.PartsKeepContract.{Decides-keeps}
use Rattle.link_steps.specs.Belonging.{own_packets, IsRowOf, HasRow}
use Rattle.link_steps.specs.Buffer.{has_lead}
use Rattle.link_steps.specs.Lists.{Any}
use Rattle.link_steps.specs.SourceGuarantee.{SourceKeeps}
use Rattle.link_steps.proofs.FoundElements.{Each-if_passes}
use Rattle.link_steps.proofs.SearchAndFilter.{Each-among}
use Rattle.link_steps.proofs.PacketRows.{packets-have_rows}
use Rattle.link_steps.proofs.RowPackets.{IsHeld, IsBeside}
use Rattle.channel_laws.specs.Sources.{SourceIsKept}
use Rattle.channel_laws.proofs.ChannelRows.{legal-stands}
use Rattle.channel_laws.proofs.DepartedCount.{channel-few}
use Rattle.channel_laws.proofs.FirstSource.{GoneTells, legal-gone}
use Rattle.channel_laws.proofs.LeadChannels.{OwnChannel, history-own}
use Rattle.channel_laws.proofs.NumberedPackets.{HasNumber, packets-have_numbers}
use Rattle.channel_report.specs.Sources.{offered_in}
use Rattle.report_laws.specs.Offered.{HasOffered, HaveOffered}
use Rattle.report_laws.proofs.OfferedTicks.{offers-told}

-- ---- the row of a packet

pub record Found {X : Type 0} (P : X → Type 0) (xs : List X) : Type 0 where
  pub one : X
  pub among : Among one xs
  pub fact : P one

any-found : {X : Type 0} (P : X → Type 0) (xs : List X) → Any P xs → Found P xs
any-found P [] any = absurd any
any-found P (x ∷ xs) (inl here) = record { one = x; among = inl refl; fact = here }
any-found P (x ∷ xs) (inr later) = (let rest = any-found P xs later in record { one = rest.one; among = inr rest.among; fact = rest.fact })

-- a row that leads a packet of the channel is the channel's
own-row : (c : ℕ) (row : Row) (packets : List Arrival) (p : Arrival) → OwnChannel row (own_packets row packets) → Among p packets → is_of_channel c p ≡ true → IsRowOf p row → channel_of row ≡ c
own-row c row packets p own among mine lead =
    let passes = Each-among (λ q. has_lead row.lead q ≡ true → is_of_channel (channel_of row) q ≡ true) p packets (Each-if_passes (λ q. is_of_channel (channel_of row) q ≡ true) (has_lead row.lead) packets own) among in
    let is = passes (eq-eqb p.lead row.lead (sym lead)) in
    let a = eqb-true (channel_number p.chan) (channel_of row) (and_parts (nat_eq (channel_number p.chan) (channel_of row)) (nat_lt 0 p.number) is).0 in
    let b = eqb-true (channel_number p.chan) c (and_parts (nat_eq (channel_number p.chan) c) (nat_lt 0 p.number) mine).0 in
    sym a ∙ b

-- ---- its source

source-keeps : (terms : HopTerms) (c clock : ℕ) (row : Row) (own : List Arrival) (offered : List ℕ) → RowTells terms c row own → terms.first ≡ true → offered_by clock row ≡ offered → keeps terms.contract offered ≡ true → SourceKeeps clock row
source-keeps terms c clock row own offered tells first same kept = record {
  first = tells.first_is ∙ first;
  keeps = subst (λ k. Keeps k (offered_by clock row)) (sym tells.contract_is) (subst (Keeps terms.contract) (sym same) ((Decides-keeps terms.contract offered).0 kept));
}

pub source-kept : (shape : LinkShape) (terms : HopTerms) (c : ℕ) (h : List Entry) (p : Arrival) → IsAdmissible shape h → AllOfferTerms terms c h → offers_to c h ≤ 1 → terms.first ≡ true → Among p (scan_of shape h).packets → is_of_channel c p ≡ true → keeps terms.contract (offered_in c h) ≡ true → SourceIsKept c (clock_of h) (scan_of shape h)
source-kept shape terms c h p legal names once first among mine kept = by-row ((Each-among (HasRow (length shape.bounds) (scan_of shape h).rows (scan_of shape h).gone) p (scan_of shape h).packets (packets-have_rows shape h legal).each among).one few) where
  few : p.level ≤ length shape.bounds
  few = channel-few shape c p (Each-among (HasNumber shape.bounds) p (scan_of shape h).packets (packets-have_numbers shape h legal) among) mine

  told : HaveOffered c (clock_of h) (offered_in c h) (scan_of shape h)
  told = offers-told shape terms c h legal names once

  held-tells : (row : Row) → Among row (scan_of shape h).rows → channel_of row ≡ c → RowTells terms c row (channel_packets c (scan_of shape h).packets)
  held-tells row there own =
      elim (cases_lt 0 (offers_to c h)) [
        | inl some ↦
            (let has = (legal-stands shape terms c h legal names).known (omega (arith, once, some)) in
            let same : row ≡ has.row = Each-among (IsOnly c has.row) row (scan_of shape h).rows has.only there own in
            subst (λ r. RowTells terms c r (channel_packets c (scan_of shape h).packets)) (sym same) has.tells)
        | inr none ↦ absurd (Each-among (IsElsewhere c) row (scan_of shape h).rows ((legal-stands shape terms c h legal names).free (omega (arith, none))).rows there own)
      ]

  by-row : Any (IsRowOf p) (scan_of shape h).rows ⊎ Any (IsRowOf p) (scan_of shape h).gone → SourceIsKept c (clock_of h) (scan_of shape h)
  by-row (inl any) =
      let found = any-found (IsRowOf p) (scan_of shape h).rows any in
      let own = own-row c found.one (scan_of shape h).packets p (Each-among (IsHeld OwnChannel (scan_of shape h).packets) found.one (scan_of shape h).rows (history-own shape h legal).held found.among).fact among mine found.fact in
      record {
        row = found.one;
        there = inl found.among;
        chan = own;
        keeps = source-keeps terms c (clock_of h) found.one (channel_packets c (scan_of shape h).packets) (offered_in c h) (held-tells found.one found.among own) first
            (Each-among (HasOffered c (clock_of h) (offered_in c h)) found.one (scan_of shape h).rows told.held found.among own) kept;
      }
  by-row (inr any) =
      let found = any-found (IsRowOf p) (scan_of shape h).gone any in
      let own = own-row c found.one (scan_of shape h).packets p (Each-among (IsBeside OwnChannel (scan_of shape h).packets (scan_of shape h).rows) found.one (scan_of shape h).gone (history-own shape h legal).beside found.among).fact among mine found.fact in
      let tells = (Each-among (λ row. channel_of row ≡ c → GoneTells terms c (offers_to c h) (scan_of shape h) row) found.one (scan_of shape h).gone (legal-gone shape terms c h legal names once) found.among own).tells in
      record {
        row = found.one;
        there = inr found.among;
        chan = own;
        keeps = source-keeps terms c (clock_of h) found.one (channel_packets c (scan_of shape h).packets) (offered_in c h) tells first
            (Each-among (HasOffered c (clock_of h) (offered_in c h)) found.one (scan_of shape h).gone told.gone found.among own) kept;
      }
