-- At a channel's first hop, where its source keeps its contract, each of its packets is eligible in the tick in which it
-- arrives, whether its row is held or gone.
use Rattle.std.proofs.Common.{◌≡◌, ◌≢◌, ℕ, suc, ◌≤◌, Bool, true, false, not, List, [], ◌∷◌, ◌++◌, length, refl, sym, ap, ◌∙◌, subst, inl, inr, arith, append-nil}
use Rattle.std.proofs.lemmas.Bool.{cases_Bool, cases_lt, eqb-true, eqb-false}
use Rattle.std.specs.Prelude.{filter, nat_eq}
use Rattle.net_units.specs.Numbers.{channel_number}
use Rattle.link_steps.specs.declared.asks.Ask.{Ask}
use Rattle.link_steps.specs.declared.asks.Ask.TheVariants.{Reserve}
use Rattle.link_steps.specs.declared.replies.Entry.{Entry}
use Rattle.link_steps.specs.declared.replies.Reply.{Reply}
use Rattle.link_steps.specs.declared.replies.Reply.TheVariants as Is
use Rattle.link_steps.specs.declared.shape.LinkShape.{LinkShape}
use Rattle.link_steps.specs.Buffer.{has_lead}
use Rattle.link_steps.specs.Hold.{stays, expires}
use Rattle.link_steps.specs.Admissible.{IsAdmissible}
use Rattle.link_steps.specs.Lists.{Each, Among}
use Rattle.link_steps.specs.Rows.{Row, new_row}
use Rattle.link_steps.specs.Scan.{Scan, clock_of, scan_of, is_row_of, arrived_packet, arrived_row, with_arrival, without_expired, with_sources, with_best, after_tick}
use Rattle.link_steps.specs.Service.{Arrival, here_at}
use Rattle.link_steps.specs.SourceGuarantee.{IsEligibleAtOnce, KeepingIsServed}
use Rattle.link_steps.proofs.FoundElements.{Each-passes, Each-if_passes}
use Rattle.link_steps.proofs.SearchAndFilter.{Each-append, Each-both, Each-if, Each-filter, Each-find, Each-among, Each-change_first, Each-without_first}
use Rattle.link_steps.proofs.RowPackets.{IsHeld, IsBeside}
use Rattle.link_steps.specs.Belonging.{own_packets}
use Rattle.link_steps.specs.Effects.{Effect, Adds, Changes, Removes, Takes, Ticks, changed_row, is_changed, with_effect}
use Rattle.link_steps.proofs.EntryEffects.{EffectFits, by-fit, new_in}
use Rattle.link_steps.proofs.SourceHistory.{source-guarantee, legal-served}
use Rattle.link_steps.proofs.SlotsHeld.{filter-fewer}
use Rattle.channel_laws.specs.Channels.{HopTerms, is_of_channel, channel_packets, channel_of, offers_with, offers_to, AllOfferTerms, RowTells, IsElsewhere, IsOnly, ChannelStands}
use Rattle.channel_laws.specs.Sources.{SourceIsKept, SourceIsServed}
use Rattle.channel_laws.proofs.ChannelRows.{own-count, legal-stands, packets-off, sources-elsewhere, tick-packets, offers_new, offers-new}
use Rattle.channel_laws.proofs.LeadChannels.{OwnChannel, history-own}

-- a row that is gone tells the channel's packets, and no row of the channel is held
pub record GoneTells (terms : HopTerms) (c offers : ℕ) (scan : Scan) (row : Row) : Type 0 where
  pub tells : RowTells terms c row (channel_packets c scan.packets)
  pub alone : Each (IsElsewhere c) scan.rows
  pub some : 1 ≤ offers

abbrev pub AllGone : HopTerms → ℕ → ℕ → Scan → Type 0
AllGone terms c offers scan = Each (λ row. channel_of row ≡ c → GoneTells terms c offers scan row) scan.gone

gone-more : (terms : HopTerms) (c offers more : ℕ) (scan later : Scan) → (1 ≤ offers → 1 ≤ more)
    → ((row : Row) → Each (IsElsewhere c) scan.rows → (channel_packets c later.packets ≡ channel_packets c scan.packets) × Each (IsElsewhere c) later.rows)
    → (rows : List Row) → Each (λ row. channel_of row ≡ c → GoneTells terms c offers scan row) rows
    → Each (λ row. channel_of row ≡ c → GoneTells terms c more later row) rows
gone-more terms c offers more scan later count keeps rows all =
    Each-if (λ row. channel_of row ≡ c → GoneTells terms c offers scan row) (λ row. channel_of row ≡ c → GoneTells terms c more later row) rows
    (λ row was own. (let is = was own in let both = keeps row is.alone in record { tells = subst (RowTells terms c row) (sym both.0) is.tells; alone = both.1; some = count is.some })) all

tick-elsewhere : (shape : LinkShape) (c t : ℕ) (scan : Scan) → Each (IsElsewhere c) (filter (stays shape.bounds t) scan.rows)
    → (channel_packets c (after_tick shape t scan).packets ≡ channel_packets c scan.packets) × Each (IsElsewhere c) (after_tick shape t scan).rows
unfolding after_tick with_best with_sources without_expired
tick-elsewhere shape c t scan each =
    let new = sources-elsewhere c shape.bounds (here_at shape.rate scan.packets t) t (length scan.packets) (filter (stays shape.bounds t) scan.rows) each in
    (tick-packets shape c t scan ∙ ap (λ x. channel_packets c scan.packets ++ x) new.0 ∙ append-nil _, new.1)

tick-gone : (shape : LinkShape) (t : ℕ) (scan : Scan)
    → (after_tick shape t scan).gone ≡ scan.gone ++ filter (expires shape.bounds t) scan.rows
unfolding after_tick with_best with_sources without_expired
tick-gone shape t scan = refl

-- a row that expires was the only one
left-alone : (c : ℕ) (bounds : List ℕ) (t : ℕ) (row : Row) (rows : List Row) → Each (IsOnly c row) rows → expires bounds t row ≡ true
    → Each (IsElsewhere c) (filter (stays bounds t) rows)
left-alone c bounds t row rows only ended =
    Each-if (λ r. IsOnly c row r × (stays bounds t r ≡ true)) (IsElsewhere c) (filter (stays bounds t) rows)
    (λ r both own. (let same : r ≡ row = both.0 own in let clash : false ≡ true = sym (ap (λ x. not (expires bounds t x)) same ∙ ap not ended) ∙ both.1 in cc))
    (Each-both (IsOnly c row) (λ r. stays bounds t r ≡ true) (filter (stays bounds t) rows) (Each-filter (IsOnly c row) (stays bounds t) rows only) (Each-passes (stays bounds t) rows))

expired-tells : (shape : LinkShape) (terms : HopTerms) (c offers t : ℕ) (scan : Scan) → offers ≤ 1 → ChannelStands terms c offers scan
    → Each (λ row. channel_of row ≡ c → GoneTells terms c offers (after_tick shape t scan) row) (filter (expires shape.bounds t) scan.rows)
expired-tells shape terms c offers t scan once stands =
    elim (cases_lt 0 offers) [
      | inl some ↦
          (let has = stands.known (omega (arith, once, some)) in
          Each-if (λ r. IsOnly c has.row r × (expires shape.bounds t r ≡ true)) (λ row. channel_of row ≡ c → GoneTells terms c offers (after_tick shape t scan) row) (filter (expires shape.bounds t) scan.rows)
          (λ r both own.
          (let same : r ≡ has.row = both.0 own in
          let ended : expires shape.bounds t has.row ≡ true = ap (expires shape.bounds t) (sym same) ∙ both.1 in
          let left = tick-elsewhere shape c t scan (left-alone c shape.bounds t has.row scan.rows has.only ended) in
          record { tells = subst (RowTells terms c r) (sym left.0) (subst (λ x. RowTells terms c x (channel_packets c scan.packets)) (sym same) has.tells); alone = left.1; some = omega (arith, some) }))
          (Each-both (IsOnly c has.row) (λ r. expires shape.bounds t r ≡ true) (filter (expires shape.bounds t) scan.rows) (Each-filter (IsOnly c has.row) (expires shape.bounds t) scan.rows has.only) (Each-passes (expires shape.bounds t) scan.rows)))
      | inr none ↦
          (let free = stands.free (omega (arith, none)) in
          Each-if (IsElsewhere c) (λ row. channel_of row ≡ c → GoneTells terms c offers (after_tick shape t scan) row) (filter (expires shape.bounds t) scan.rows) (λ r other own. absurd (other own)) (Each-filter (IsElsewhere c) (expires shape.bounds t) scan.rows free.rows))
    ]

effect-gone : (shape : LinkShape) (terms : HopTerms) (c offers t : ℕ) (scan : Scan) (effect : Effect) → EffectFits shape t scan effect
    → offers_new c offers (new_in effect) ≤ 1 → ChannelStands terms c offers scan → AllGone terms c offers scan
    → AllGone terms c (offers_new c offers (new_in effect)) (with_effect shape t scan effect)
unfolding with_effect with_arrival
effect-gone shape terms c offers t scan (Adds new) fits once stands all =
    elim (cases_Bool (nat_eq (channel_number new.chan) c)) [
      | inl on ↦
          (let most : suc offers ≤ 1 = rw on at once in
          Each-if (λ row. channel_of row ≡ c → GoneTells terms c offers scan row) _ scan.gone (λ row was own. absurd (let some = (was own).some in omega (arith, some, most))) all)
      | inr off ↦
          (let other : channel_number new.chan ≢ c = eqb-false (channel_number new.chan) c off in
          rw off (gone-more terms c offers offers scan (with_effect shape t scan (Adds new)) (λ some. some)
          (λ row each. (refl, Each-append (IsElsewhere c) scan.rows (new_row new ∷ []) each (other, tt))) scan.gone all))
    ]
effect-gone shape terms c offers t scan (Changes chan change) fits once stands all =
    gone-more terms c offers offers scan _ (λ some. some) (λ row each. (refl, Each-change_first (IsElsewhere c) (is_changed chan change) (changed_row t change) scan.rows (λ r x. x) each)) scan.gone all
effect-gone shape terms c offers t scan (Removes chan) fits once stands all = gone-more terms c offers offers scan _ (λ some. some) (λ row each. (refl, Each-without_first (IsElsewhere c) (is_row_of chan) scan.rows each)) scan.gone all
effect-gone shape terms c offers t scan (Takes packet row) fits once stands all =
    gone-more terms c offers offers scan _ (λ some. some) (λ gone each. (
      packets-off c scan.packets (arrived_packet t (suc (length scan.packets)) packet row) (Each-find (IsElsewhere c) (is_row_of packet.chan) scan.rows row each fits.found),
      Each-change_first (IsElsewhere c) (is_row_of packet.chan) (arrived_row t (suc (length scan.packets)) packet) scan.rows (λ r x. x) each,
    )) scan.gone all
effect-gone shape terms c offers t scan Ticks fits once stands all =
    subst (Each (λ row. channel_of row ≡ c → GoneTells terms c offers (after_tick shape t scan) row)) (sym (tick-gone shape t scan))
    (Each-append (λ row. channel_of row ≡ c → GoneTells terms c offers (after_tick shape t scan) row) scan.gone (filter (expires shape.bounds t) scan.rows)
    (gone-more terms c offers offers scan (after_tick shape t scan) (λ some. some) (λ row each. tick-elsewhere shape c t scan (Each-filter (IsElsewhere c) (stays shape.bounds t) scan.rows each)) scan.gone all)
    (expired-tells shape terms c offers t scan once stands))
effect-gone shape terms c offers t scan _ fits once stands all = gone-more terms c offers offers scan _ (λ some. some) (λ row each. (refl, each)) scan.gone all

pub offers-before : (c n : ℕ) (ask : Ask) (reply : Reply) → offers_with c n ask reply ≤ 1 → n ≤ 1
offers-before c n (Reserve chan contract kind delay up_reach first next) (Is.Offer level reach) once =
    elim (cases_Bool (nat_eq (channel_number chan) c)) [
      | inl on ↦ (let most : suc n ≤ 1 = rw on at once in omega (arith, most))
      | inr off ↦ (let most : n ≤ 1 = rw off at once in most)
    ]
offers-before c n _ _ once = once

pub legal-gone : (shape : LinkShape) (terms : HopTerms) (c : ℕ) (h : List Entry) → IsAdmissible shape h → AllOfferTerms terms c h
    → offers_to c h ≤ 1 → AllGone terms c (offers_to c h) (scan_of shape h)
unfolding IsAdmissible scan_of offers_to
legal-gone shape terms c [] legal names once = tt
legal-gone shape terms c (e ∷ past) legal names once =
    by-fit (λ t scan. AllGone terms c (offers_with c (offers_to c past) e.ask e.reply) scan) shape past e legal.1 (λ effect new fits.
    let same = offers-new c (offers_to c past) e.ask e.reply (new_in effect) new in
    subst (λ n. AllGone terms c n (with_effect shape (clock_of past) (scan_of shape past) effect)) same
    (effect-gone shape terms c (offers_to c past) (clock_of past) (scan_of shape past) effect fits (omega (arith, once, same)) (legal-stands shape terms c past legal.0 names.1)
    (legal-gone shape terms c past legal.0 names.1 (offers-before c (offers_to c past) e.ask e.reply once))))

-- ---- a packet of the channel has the row's lead

-- where one test passes as many as a weaker one, they pass the same
filter-whole : (a b : Arrival → Bool) (xs : List Arrival) → Each (λ x. a x ≡ true → b x ≡ true) xs
    → length (filter b xs) ≤ length (filter a xs) → Each (λ x. b x ≡ true → a x ≡ true) xs
filter-whole a b [] each same = tt
filter-whole a b (x ∷ xs) each same = go (λ h. filter-whole a b xs each.1 h) (a x) (b x) refl refl where
  go : (length (filter b xs) ≤ length (filter a xs) → Each (λ y. b y ≡ true → a y ≡ true) xs) → (ax bx : Bool) → a x ≡ ax → b x ≡ bx → Each (λ y. b y ≡ true → a y ≡ true) (x ∷ xs)
  go rest true true ea eb = ((λ passes. ea), rest (let h : suc (length (filter b xs)) ≤ suc (length (filter a xs)) = rw (ea, eb) at same in omega (arith, h)))
  go rest true false ea eb = absurd (let clash : false ≡ true = sym eb ∙ each.0 ea in cc)
  go rest false true ea eb = absurd (let h : suc (length (filter b xs)) ≤ length (filter a xs) = rw (ea, eb) at same in let less = filter-fewer b a xs each.1 in omega (arith, h, less))
  go rest false false ea eb = ((λ passes. absurd (let clash : false ≡ true = sym eb ∙ passes in cc)), rest (let h : length (filter b xs) ≤ length (filter a xs) = rw (ea, eb) at same in h))

own-passes : (row : Row) (packets : List Arrival) → OwnChannel row (own_packets row packets)
    → Each (λ p. has_lead row.lead p ≡ true → is_of_channel (channel_of row) p ≡ true) packets
own-passes row packets own = Each-if_passes (λ p. is_of_channel (channel_of row) p ≡ true) (has_lead row.lead) packets own

-- the row's packets are as many as its ticks, and all of its channel
led : (terms : HopTerms) (c : ℕ) (row : Row) (packets : List Arrival) → channel_of row ≡ c
    → RowTells terms c row (channel_packets c packets) → OwnChannel row (own_packets row packets)
    → length (own_packets row packets) ≡ length row.ticks → Each (λ p. is_of_channel c p ≡ true → has_lead row.lead p ≡ true) packets
led terms c row packets chan tells own count =
    let passes : Each (λ p. has_lead row.lead p ≡ true → is_of_channel c p ≡ true) packets = subst (λ n. Each (λ p. has_lead row.lead p ≡ true → is_of_channel n p ≡ true) packets) chan (own-passes row packets own) in
    let all = own-count row.ticks (channel_packets c packets) tells.eligible in
    filter-whole (has_lead row.lead) (is_of_channel c) packets passes (omega (arith, all, count))

at-once-of : (c : ℕ) (row : Row) (packets : List Arrival) → Each (λ p. is_of_channel c p ≡ true → has_lead row.lead p ≡ true) packets
    → Each (IsEligibleAtOnce row) packets → Each (λ p. p.eligible ≡ p.at) (channel_packets c packets)
at-once-of c row packets leads once =
    Each-if (λ p. ((is_of_channel c p ≡ true → has_lead row.lead p ≡ true) × IsEligibleAtOnce row p) × (is_of_channel c p ≡ true)) (λ p. p.eligible ≡ p.at) (channel_packets c packets)
    (λ p all. all.0.1.at_once (eqb-true p.lead row.lead (all.0.0 all.1)))
    (Each-both (λ p. (is_of_channel c p ≡ true → has_lead row.lead p ≡ true) × IsEligibleAtOnce row p) (λ p. is_of_channel c p ≡ true) (channel_packets c packets)
    (Each-filter (λ p. (is_of_channel c p ≡ true → has_lead row.lead p ≡ true) × IsEligibleAtOnce row p) (is_of_channel c) packets (Each-both _ _ packets leads once)) (Each-passes (is_of_channel c) packets))

pub source-served : (shape : LinkShape) (terms : HopTerms) (c : ℕ) (h : List Entry) → IsAdmissible shape h → AllOfferTerms terms c h
    → offers_to c h ≤ 1 → (kept : SourceIsKept c (clock_of h) (scan_of shape h)) → SourceIsServed c (scan_of shape h) kept.row
source-served shape terms c h legal names once kept =
    let served = source-guarantee shape h legal in
    let stand = (legal-served shape h legal).stand in
    let own = history-own shape h legal in
    elim kept.there [
      | inl held ↦
          (let fact = (Each-among (IsHeld OwnChannel (scan_of shape h).packets) kept.row _ own.held held).fact in
          let source = (Each-among _ kept.row _ stand.held held).fact in
          let prompt = Each-among (KeepingIsServed shape h) kept.row _ served.held held kept.keeps in
          let stands = legal-stands shape terms c h legal names in
          let tells : RowTells terms c kept.row (channel_packets c (scan_of shape h).packets) = held-tells stands held in
          record { none_dropped = prompt.none_dropped; at_once = at-once-of c kept.row (scan_of shape h).packets (led terms c kept.row (scan_of shape h).packets kept.chan tells fact (own-count kept.row.ticks _ source.eligible)) prompt.at_once })
      | inr gone ↦
          (let fact = (Each-among (IsBeside OwnChannel (scan_of shape h).packets (scan_of shape h).rows) kept.row _ own.beside gone).fact in
          let source = (Each-among _ kept.row _ stand.beside gone).fact in
          let prompt = Each-among (KeepingIsServed shape h) kept.row _ served.gone gone kept.keeps in
          let tells = (Each-among (λ row. channel_of row ≡ c → GoneTells terms c (offers_to c h) (scan_of shape h) row) kept.row _ (legal-gone shape terms c h legal names once) gone kept.chan).tells in
          record { none_dropped = prompt.none_dropped; at_once = at-once-of c kept.row (scan_of shape h).packets (led terms c kept.row (scan_of shape h).packets kept.chan tells fact (own-count kept.row.ticks _ source.eligible)) prompt.at_once })
    ] where
      held-tells : ChannelStands terms c (offers_to c h) (scan_of shape h) → Among kept.row (scan_of shape h).rows → RowTells terms c kept.row (channel_packets c (scan_of shape h).packets)
      held-tells stands held =
          elim (cases_lt 0 (offers_to c h)) [
            | inl some ↦ (let has = stands.known (omega (arith, once, some)) in let same : kept.row ≡ has.row = Each-among (IsOnly c has.row) kept.row _ has.only held kept.chan in subst (λ r. RowTells terms c r (channel_packets c (scan_of shape h).packets)) (sym same) has.tells)
            | inr none ↦ absurd (let free = stands.free (omega (arith, none)) in Each-among (IsElsewhere c) kept.row _ free.rows held kept.chan)
          ]
