-- How many packets of a channel have departed after a history. A tick that sends one of them sends the next by number, and
-- raises the count by one; any other entry keeps it.
use Rattle.std.proofs.Common.{◌≡◌, ℕ, zero, suc, ◌<◌, ◌≤◌, ◌⊎◌, Bool, true, false, List, ◌∷◌, length, Option, Some, None, refl, sym, ap, ◌∙◌, subst, inl, inr, arith}
use Rattle.std.proofs.lemmas.Bool.{cases_Bool, cases_lt, eqb-true, eqb-false, eq-eqb, and_parts, and_from, lt-ltb, ltb-true, ltb-false, le-ltb}
use Rattle.std.proofs.lemmas.Option.{same_Some}
use Rattle.std.specs.Prelude.{nat_eq, nat_lt}
use Rattle.net_units.specs.Numbers.{channel_number}
use Rattle.link_steps.specs.declared.replies.Entry.{Entry}
use Rattle.link_steps.specs.declared.replies.Reply.{Reply}
use Rattle.link_steps.specs.declared.replies.Reply.TheVariants as Is
use Rattle.link_steps.specs.declared.replies.Sent.{Sent}
use Rattle.link_steps.specs.declared.shape.LinkShape.{LinkShape}
use Rattle.link_steps.specs.BusyPeriod.{HasWork}
use Rattle.link_steps.specs.Admissible.{IsAdmissible}
use Rattle.link_steps.specs.Lists.{Each, Among}
use Rattle.link_steps.specs.Replies.{sent_at, sent_of, tick_reply, reply_at}
use Rattle.link_steps.specs.Rows.{Row}
use Rattle.link_steps.specs.Scan.{clock_with, clock_of, scan_of, after, starts_of}
use Rattle.link_steps.specs.Service.{Arrival, Start, leaves_at, work_of, starts_below}
use Rattle.link_steps.specs.Shape.{blocking_of}
use Rattle.link_steps.proofs.SearchAndFilter.{Each-among, Each-if}
use Rattle.link_steps.proofs.ServiceStarts.{starts-fact}
use Rattle.link_steps.proofs.FoundElements.{Each-from_among}
use Rattle.link_steps.proofs.WindowFits.{packets-have_work}
use Rattle.channel_laws.specs.Channels.{HopTerms, is_of_channel, channel_packets, RowTells, AllOfferTerms, offers_to, ChannelStands}
use Rattle.link_steps.specs.Belonging.{AreNumberedFrom as ArePlaced}
use Rattle.link_steps.specs.Admissible.{MayAnswer}
use Rattle.link_steps.specs.BestEffort.{is_best}
use Rattle.link_steps.proofs.NewPackets.{AddsPackets, packets-after, packets-numbered}
use Rattle.channel_laws.proofs.NumberedPackets.{HasNumber, packets-have_numbers}
use Rattle.channel_laws.proofs.GoneCount.{gone-append, gone-still}
use Rattle.channel_laws.specs.Departing.{ticked, gone_count, gone_of, TickSends, SendsOwn, SendsOther}
use Rattle.channel_laws.proofs.ChannelRows.{legal-stands}
use Rattle.link_steps.proofs.PacketRows.{Among-passes}
use Rattle.channel_laws.proofs.SentInTime.{sent-facts}
use Rattle.channel_laws.proofs.SentOrder.{SentHead, sent-number}

-- ---- the count of a history

-- packets grow by ones that are eligible from the clock on
pub history-from : (shape : LinkShape) (e : Entry) (h : List Entry) → AddsPackets (clock_of h) (scan_of shape h).packets (scan_of shape (e ∷ h)).packets
unfolding scan_of
history-from shape e h = packets-after shape (clock_of h) (scan_of shape h) e.ask e.reply

works-of : (shape : LinkShape) (h : List Entry) → IsAdmissible shape h → Each (λ p. 1 ≤ work_of shape.rate p) (scan_of shape h).packets
works-of shape h legal = Each-if (HasWork shape.rate (blocking_of shape)) (λ p. 1 ≤ work_of shape.rate p) (scan_of shape h).packets (λ p work. work.least) (packets-have_work shape h legal)

-- one entry more leaves the count by the clock before it
gone-before : (shape : LinkShape) (c : ℕ) (e : Entry) (h : List Entry) → IsAdmissible shape (e ∷ h) → gone_count shape c (scan_of shape (e ∷ h)).packets (clock_of h) ≡ gone_of shape c h
gone-before shape c e h legal =
    let grows = history-from shape e h in
    let placed = packets-numbered shape (e ∷ h) in
    let works = works-of shape (e ∷ h) legal in
    ap (λ ps. gone_count shape c ps (clock_of h)) grows.are
    ∙ gone-append shape c (clock_of h) (scan_of shape h).packets grows.new (subst (ArePlaced 0) grows.are placed) (subst (Each (λ p. 1 ≤ work_of shape.rate p)) grows.are works) grows.from

-- an entry that is no tick
pub gone-quiet : (shape : LinkShape) (c : ℕ) (e : Entry) (h : List Entry) → IsAdmissible shape (e ∷ h) → clock_with e.ask (clock_of h) ≡ clock_of h → gone_of shape c (e ∷ h) ≡ gone_of shape c h
unfolding clock_of
gone-quiet shape c e h legal still = ap (gone_count shape c (scan_of shape (e ∷ h)).packets) still ∙ gone-before shape c e h legal

-- ---- a tick

pub more-legal : (shape : LinkShape) (h : List Entry) → IsAdmissible shape h → IsAdmissible shape (ticked shape h)
unfolding IsAdmissible MayAnswer reply_at
more-legal shape h may = (may, record { fits = tt; answered = refl })

-- the head of the starts that leaves at the tick's end is told, where it is a channel's
head-sent : (shape : LinkShape) (t : ℕ) (starts earlier : List Start) (start : Start) → starts ≡ start ∷ earlier → leaves_at shape.rate start ≡ t → is_best shape.bounds start.packet ≡ false → sent_at shape t starts ≡ Some (sent_of shape start)
unfolding sent_at
head-sent shape t starts earlier start is leaves level = ap (sent_at shape t) is ∙ rw (eq-eqb (leaves_at shape.rate start) t leaves, level) refl

-- the reply of a tick tells the head of the starts
record TickTells (shape : LinkShape) (h : List Entry) (reply : Reply) : Type 0 where
  full : ℕ
  best_sent : Bool
  best_lost : Bool
  is : reply ≡ Is.Ticked (clock_of h) full (sent_at shape (suc (clock_of h)) (starts_of shape (ticked shape h))) best_sent best_lost

tick-tells : (shape : LinkShape) (h : List Entry) (reply : Reply) → reply ≡ tick_reply shape (clock_of h) (scan_of shape h) → TickTells shape h reply
unfolding scan_of clock_of after
tick-tells shape h reply same = record { full = _; best_sent = _; best_lost = _; is = same }

ticked-same : (a b f g : ℕ) (x y : Option Sent) (p q r s : Bool) → Is.Ticked a f x p q ≡ Is.Ticked b g y r s → x ≡ y
ticked-same a b f g x y p q r s same = cc

head-same : (a b : Start) (xs ys : List Start) → a ∷ xs ≡ b ∷ ys → a ≡ b
head-same a b xs ys same = cc

-- a packet of a channel is no best-effort packet
channel-level : (shape : LinkShape) (c : ℕ) (p : Arrival) → HasNumber shape.bounds p → is_of_channel c p ≡ true → is_best shape.bounds p ≡ false
channel-level shape c p number own =
    le-ltb (length shape.bounds) p.level
    (elim (cases_lt (length shape.bounds) p.level) [
      | inl over ↦ absurd (let none = number.none over in let some : 0 < p.number = ltb-true 0 p.number (and_parts (nat_eq (channel_number p.chan) c) (nat_lt 0 p.number) own).1 in omega (arith, none, some))
      | inr few ↦ few
    ])

pub channel-few : (shape : LinkShape) (c : ℕ) (p : Arrival) → HasNumber shape.bounds p → is_of_channel c p ≡ true → p.level ≤ length shape.bounds
channel-few shape c p number own = ltb-false (length shape.bounds) p.level (channel-level shape c p number own)

-- and a packet of a level that names the channel is one of its own
pub level-channel : (shape : LinkShape) (c : ℕ) (p : Arrival) → HasNumber shape.bounds p → p.level ≤ length shape.bounds → channel_number p.chan ≡ c → is_of_channel c p ≡ true
level-channel shape c p number few same = and_from (nat_eq (channel_number p.chan) c) (nat_lt 0 p.number) (eq-eqb (channel_number p.chan) c same) (lt-ltb 0 p.number (number.some few))

pub start-among : (rate : ℕ) (packets : List Arrival) (t : ℕ) (start : Start) → Among start (starts_below rate packets t) → Among start.packet packets
start-among rate packets t start among = Each-among (λ s. Among s.packet packets) start _ (starts-fact (λ q. Among q packets) rate packets t (Each-from_among (λ q. Among q packets) packets (λ q is. is))) among

pub tick-sends : (shape : LinkShape) (c : ℕ) (h : List Entry) (reply : Reply) → IsAdmissible shape h → reply ≡ tick_reply shape (clock_of h) (scan_of shape h) → ((p : Arrival) → Among p (scan_of shape (ticked shape h)).packets → is_of_channel c p ≡ true → (terms : HopTerms) × (row : Row) × RowTells terms c row (channel_packets c (scan_of shape (ticked shape h)).packets)) → TickSends shape c h reply
unfolding clock_of
tick-sends shape c h reply may same known = by-sent (sent_at shape (suc (clock_of h)) (starts_of shape (ticked shape h))) refl where
  numbers : Each (HasNumber shape.bounds) (scan_of shape (ticked shape h)).packets
  numbers = packets-have_numbers shape (ticked shape h) (more-legal shape h may)

  head-number : (head : SentHead shape.rate (clock_of h) (scan_of shape (ticked shape h)).packets) → HasNumber shape.bounds head.start.packet
  head-number head = Each-among (HasNumber shape.bounds) head.start.packet _ numbers (start-among shape.rate (scan_of shape (ticked shape h)).packets (suc (clock_of h)) head.start (subst (Among head.start) (sym head.is) (inl refl)))

  by-sent : (found : Option Sent) → sent_at shape (suc (clock_of h)) (starts_of shape (ticked shape h)) ≡ found → TickSends shape c h reply
  by-sent None none =
      let tells = tick-tells shape h reply same in
      SendsOther
      (λ sent clock full best_sent best_lost is. absurd (let clash : Some sent ≡ None = sym (ticked-same _ _ _ _ _ _ _ _ _ _ (sym tells.is ∙ is)) ∙ none in cc))
      (gone-still shape c (clock_of h) (scan_of shape (ticked shape h)).packets (packets-numbered shape (ticked shape h)) (works-of shape (ticked shape h) (more-legal shape h may))
      (λ head own. absurd (let clash : Some (sent_of shape head.start) ≡ None = sym (head-sent shape (suc (clock_of h)) (starts_of shape (ticked shape h)) head.earlier head.start head.is head.leaves (channel-level shape c head.start.packet (head-number head) own)) ∙ none in cc))
      ∙ gone-before shape c _ h (more-legal shape h may))
  by-sent (Some sent) some =
      let tells = tick-tells shape h reply same in
      let told : reply ≡ Is.Ticked (clock_of h) tells.full (Some sent) tells.best_sent tells.best_lost = tells.is ∙ ap (λ x. Is.Ticked (clock_of h) tells.full x tells.best_sent tells.best_lost) some in
      let is = sent-facts shape h (clock_of h) tells.full sent tells.best_sent tells.best_lost may (sym told ∙ same) in
      let head : SentHead shape.rate (clock_of h) (scan_of shape (ticked shape h)).packets = record { start = is.start; earlier = is.earlier; is = is.head; leaves = is.leaves } in
      let works = works-of shape (ticked shape h) (more-legal shape h may) in
      let there : Among is.start.packet (scan_of shape (ticked shape h)).packets = start-among shape.rate (scan_of shape (ticked shape h)).packets (suc (clock_of h)) is.start is.among in
      let chan-same : channel_number sent.packet.chan ≡ channel_number is.start.packet.chan = ap (λ s. channel_number s.packet.chan) is.is in
      elim (cases_Bool (nat_eq (channel_number is.start.packet.chan) c)) [
        | inl own ↦
            (let e = eqb-true (channel_number is.start.packet.chan) c own in
            let mine = level-channel shape c is.start.packet (head-number head) is.level e in
            let row = known is.start.packet there mine in
            let counts = sent-number shape row.0 c (clock_of h) row.1 (ticked shape h) head row.2 works there mine in
            let number : sent.packet.number ≡ is.start.packet.number = ap (λ s. s.packet.number) is.is in
            let before = gone-before shape c _ h (more-legal shape h may) in
            let first = counts.before in
            let last = counts.after in
            SendsOwn sent (clock_of h) tells.full tells.best_sent tells.best_lost told (chan-same ∙ e) is (omega (arith, number, first, before)) (omega (arith, first, last, before)))
        | inr off ↦
            (let other = eqb-false (channel_number is.start.packet.chan) c off in
            SendsOther
            (λ some-sent clock full best_sent best_lost told' chan. (let e : Some sent ≡ Some some-sent = ticked-same _ _ _ _ _ _ _ _ _ _ (sym told ∙ told') in other (sym chan-same ∙ ap (λ s. channel_number s.packet.chan) (same_Some sent some-sent e) ∙ chan)))
            (gone-still shape c (clock_of h) (scan_of shape (ticked shape h)).packets (packets-numbered shape (ticked shape h)) works (λ head' own. other (ap (λ s. channel_number s.packet.chan) (head-same is.start head'.start is.earlier head'.earlier (sym is.head ∙ head'.is)) ∙ eqb-true (channel_number head'.start.packet.chan) c (and_parts (nat_eq (channel_number head'.start.packet.chan) c) (nat_lt 0 head'.start.packet.number) own).0))
            ∙ gone-before shape c _ h (more-legal shape h may)))
      ]

-- the packets of a channel that is offered to at most once are those of its row
pub offered-sends : (shape : LinkShape) (terms : HopTerms) (c : ℕ) (h : List Entry) (reply : Reply) → IsAdmissible shape h → AllOfferTerms terms c h → offers_to c h ≤ 1 → reply ≡ tick_reply shape (clock_of h) (scan_of shape h) → TickSends shape c h reply
unfolding offers_to
offered-sends shape terms c h reply may names once same = tick-sends shape c h reply may same (λ p among own. known p among own) where
  stands : ChannelStands terms c (offers_to c h) (scan_of shape (ticked shape h))
  stands = legal-stands shape terms c (ticked shape h) (more-legal shape h may) (tt, names)

  one-of : (n : ℕ) → n ≤ 1 → (n ≡ 0) ⊎ (n ≡ 1)
  one-of zero few = inl refl
  one-of (suc zero) few = inr refl
  one-of (suc (suc n)) few = absurd (omega (arith, few))

  known : (p : Arrival) → Among p (scan_of shape (ticked shape h)).packets → is_of_channel c p ≡ true → (terms : HopTerms) × (row : Row) × RowTells terms c row (channel_packets c (scan_of shape (ticked shape h)).packets)
  known p among own =
      elim (one-of (offers_to c h) once) [
        | inl none ↦ absurd (subst (Among p) (stands.free none).packets (Among-passes (is_of_channel c) p (scan_of shape (ticked shape h)).packets own among))
        | inr one ↦ (let has = stands.known one in (terms, has.row, has.tells))
      ]
