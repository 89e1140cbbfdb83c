-- The scan goes on with the effect of each entry, and an admissible entry has one that fits: what the rules on its ask and
-- its reply say of the row at hand. So a law of histories is shown by cases over effects, and one on packets alone by a
-- packet taken and a tick.
use Rattle.std.proofs.Common.{◌≡◌, ℕ, suc, ◌≤◌, true, List, [], ◌∷◌, length, map, Option, Some, None, refl, sym, ap, ◌∙◌, subst, arith, ◌++◌}
use Rattle.std.proofs.lemmas.Bool.{and_parts, eqb-true}
use Rattle.std.specs.Option.{option_map}
use Rattle.std.specs.Prelude.{find}
use Rattle.net_units.specs.Numbers.{channel_number, level_number}
use Rattle.net_units.specs.declared.numbers.ChanNo.{ChanNo}
use Rattle.net_units.specs.declared.numbers.Level.{Level}
use Rattle.link_steps.specs.declared.asks.Ask.{Ask}
use Rattle.link_steps.specs.declared.asks.Ask.TheVariants.{Reserve, Relax, Deny, Submit, Release, Arrive, Tick, Pour}
use Rattle.link_steps.specs.declared.asks.Packet.{Packet}
use Rattle.link_steps.specs.declared.replies.Entry.{Entry}
use Rattle.link_steps.specs.declared.replies.Phase.TheVariants.{Tentative, Committed}
use Rattle.link_steps.specs.declared.replies.Reply.{Reply}
use Rattle.link_steps.specs.declared.replies.Reply.TheVariants as Is
use Rattle.link_steps.specs.declared.shape.LinkShape.{LinkShape}
use Rattle.link_steps.specs.Admissible.{MayOffer, MayAnswer, IsAdmissibleAfter, IsAdmissible}
use Rattle.link_steps.specs.Buffer.{held_packets}
use Rattle.link_steps.specs.Effects.{Change, Commits, Plans, Closes, Effect, Adds, Changes, Removes, Takes, Ticks, PlansBest, Nothing, is_changed, takes_if, effect_of, with_effect, clock_by}
use Rattle.link_steps.specs.Legal.{AskFits, ReserveFits, RelaxFits, SubmitFits, PacketFits}
use Rattle.link_steps.specs.Replies.{relax_reply, deny_reply, submit_to, release_to, arrive_to, reply_at}
use Rattle.link_steps.specs.Reservation.{Reservation, tentative, is_of}
use Rattle.link_steps.specs.Rows.{Row, row_terms, left_at}
use Rattle.link_steps.specs.Scan.{Scan, clock_with, clock_of, is_row_of, with_arrival, after, scan_of, arrived_packet, after_tick}
use Rattle.link_steps.specs.Service.{here_at, Arrival}
use Rattle.link_steps.proofs.ReservationFound.{FitsOffer, TakesPacket, relax-tells, deny-tells, submit-tells, release-tells, pour-tells, arrive-tells}
use Rattle.link_steps.proofs.SearchAndFilter.{find-map}

-- ---- what fits

-- a new row has a contract, and its level and reach are an offer that the link may make
pub record AddFits (shape : LinkShape) (scan : Scan) (terms : Reservation) : Type 0 where
  pub delay : ℕ
  pub asked : ReserveFits terms.contract terms.up_reach terms.first
  pub may : MayOffer shape (map row_terms scan.rows) terms.chan terms.contract delay terms.up_reach terms.level terms.reach
  pub phase : terms.phase ≡ Tentative

-- a row that is committed has this level on offer
pub record CommitFits (shape : LinkShape) (row : Row) (level : Level) (up_bound : ℕ) : Type 0 where
  pub asked : RelaxFits (length shape.bounds) (level_number level) up_bound
  pub offer : FitsOffer row.terms level up_bound

-- packets are planned for a committed row of which none is left
pub record PlanFits (t : ℕ) (row : Row) (count gap size : ℕ) : Type 0 where
  pub asked : SubmitFits count gap size
  pub phase : row.terms.phase ≡ Committed
  pub none_left : length (left_at t row.plan) ≡ 0
  pub size_most : size ≤ row.terms.contract.smax

-- a committed row closes, and its count is no less than the packets taken
pub record CloseFits (row : Row) (count : ℕ) : Type 0 where
  pub phase : row.terms.phase ≡ Committed
  pub least : length row.ticks ≤ count

abbrev pub ChangeFits : LinkShape → ℕ → Change → Row → Type 0
ChangeFits shape t (Commits level up_bound) row = CommitFits shape row level up_bound
ChangeFits shape t (Plans count gap size) row = PlanFits t row count gap size
ChangeFits shape t (Closes first count) row = CloseFits row count

-- the row that is found for a packet takes it
pub record TakeFits (shape : LinkShape) (t : ℕ) (scan : Scan) (packet : Packet) (row : Row) : Type 0 where
  pub asked : PacketFits packet
  pub found : find (is_row_of packet.chan) scan.rows ≡ Some row
  pub takes : TakesPacket shape.bounds packet row.terms (length row.ticks) (held_packets row.lead (here_at shape.rate scan.packets t))

-- best-effort packets are planned where none is left
pub record PlanBestFits (shape : LinkShape) (t : ℕ) (scan : Scan) (count gap size : ℕ) : Type 0 where
  pub asked : SubmitFits count gap size
  pub none_left : length (left_at t scan.best_plan) ≡ 0
  pub size_most : size ≤ shape.cap

abbrev pub EffectFits : LinkShape → ℕ → Scan → Effect → Type 0
EffectFits shape t scan (Adds terms) = AddFits shape scan terms
EffectFits shape t scan (Changes chan change) = (row : Row) → find (is_changed chan change) scan.rows ≡ Some row → ChangeFits shape t change row
EffectFits shape t scan (Removes chan) = (row : Row) → find (is_row_of chan) scan.rows ≡ Some row → row.terms.phase ≡ Tentative
EffectFits shape t scan (Takes packet row) = TakeFits shape t scan packet row
EffectFits shape t scan Ticks = Unit {0}
EffectFits shape t scan (PlansBest count gap size) = PlanBestFits shape t scan count gap size
EffectFits shape t scan Nothing = Unit {0}

-- a row that is changed is the channel's
pub changed-row : (chan : ChanNo) (change : Change) (row : Row) → is_changed chan change row ≡ true → channel_number row.terms.chan ≡ channel_number chan
changed-row chan (Commits level up_bound) row is = eqb-true (channel_number row.terms.chan) (channel_number chan) is
changed-row chan (Plans count gap size) row is = eqb-true (channel_number row.terms.chan) (channel_number chan) (and_parts (is_of chan row.terms) _ is).0
changed-row chan (Closes first count) row is = eqb-true (channel_number row.terms.chan) (channel_number chan) (and_parts (is_of chan row.terms) _ is).0

-- ---- one entry

-- the new reservation in an effect, and the one that an ask and its reply offer
abbrev pub new_in : Effect → Option Reservation
new_in (Adds terms) = Some terms
new_in _ = None

abbrev pub offer_of : Ask → Reply → Option Reservation
offer_of (Reserve chan contract kind delay up_reach first next) (Is.Offer level reach) = Some (tentative chan contract kind first next up_reach level reach)
offer_of _ _ = None

-- the scan and the clock after an entry are those with its effect, which adds a row where one is offered and nowhere else
pub record IsEffect (shape : LinkShape) (t : ℕ) (scan : Scan) (ask : Ask) (reply : Reply) (effect : Effect) : Type 0 where
  pub scan_is : after shape t scan ask reply ≡ with_effect shape t scan effect
  pub clock_is : clock_with ask t ≡ clock_by effect t
  pub new_is : new_in effect ≡ offer_of ask reply

pub is-effect : (shape : LinkShape) (t : ℕ) (scan : Scan) (ask : Ask) (reply : Reply) → IsEffect shape t scan ask reply (effect_of scan ask reply)
unfolding after effect_of with_effect with_arrival
is-effect shape t scan (Reserve chan contract kind delay up_reach first next) (Is.Offer level reach) = record { scan_is = refl; clock_is = refl; new_is = refl }
is-effect shape t scan (Relax chan level up_bound) (Is.Relaxed clock) = record { scan_is = refl; clock_is = refl; new_is = refl }
is-effect shape t scan (Deny chan) Is.Denied = record { scan_is = refl; clock_is = refl; new_is = refl }
is-effect shape t scan (Submit chan count gap size) (Is.Planned clock) = record { scan_is = refl; clock_is = refl; new_is = refl }
is-effect shape t scan (Release chan upstream) (Is.Closing count cancelled) = record { scan_is = refl; clock_is = refl; new_is = refl }
is-effect shape t scan (Arrive packet) (Is.Taken clock eligible) = record { scan_is = scan_is (find (is_row_of packet.chan) scan.rows); clock_is = clock_is (find (is_row_of packet.chan) scan.rows); new_is = new_is (find (is_row_of packet.chan) scan.rows) } where
  scan_is : (found : Option Row) → with_arrival t packet scan found ≡ with_effect shape t scan (takes_if packet found)
  scan_is None = refl
  scan_is (Some row) = refl

  clock_is : (found : Option Row) → t ≡ clock_by (takes_if packet found) t
  clock_is None = refl
  clock_is (Some row) = refl

  new_is : (found : Option Row) → new_in (takes_if packet found) ≡ None
  new_is None = refl
  new_is (Some row) = refl
is-effect shape t scan Tick reply = record { scan_is = refl; clock_is = refl; new_is = refl }
is-effect shape t scan (Pour count gap size) (Is.Planned clock) = record { scan_is = refl; clock_is = refl; new_is = refl }
is-effect shape t scan _ _ = record { scan_is = refl; clock_is = refl; new_is = refl }

pub clock_by-later : (effect : Effect) (t : ℕ) → t ≤ clock_by effect t
clock_by-later Ticks t = omega arith
clock_by-later _ t = omega arith

-- what is so with the effect is so after the entry
pub by-effect : (P : ℕ → Scan → Type 0) (shape : LinkShape) (t : ℕ) (scan : Scan) (ask : Ask) (reply : Reply) → P (clock_by (effect_of scan ask reply) t) (with_effect shape t scan (effect_of scan ask reply)) → P (clock_with ask t) (after shape t scan ask reply)
by-effect P shape t scan ask reply fact =
    let is = is-effect shape t scan ask reply in
    subst (P (clock_with ask t)) (sym is.scan_is) (subst (λ n. P n (with_effect shape t scan (effect_of scan ask reply))) (sym is.clock_is) fact)

-- an entry leaves the packets as they are, unless a row takes one or a tick passes
pub packets-by : (P : Ask → Reply → ℕ → List Arrival → Type 0) (shape : LinkShape) (t : ℕ) (scan : Scan) → ((ask : Ask) (reply : Reply) → P ask reply t scan.packets)
    → ((packet : Packet) (row : Row) (clock eligible : ℕ) → find (is_row_of packet.chan) scan.rows ≡ Some row → P (Arrive packet) (Is.Taken clock eligible) t (scan.packets ++ arrived_packet t (suc (length scan.packets)) packet row ∷ []))
    → ((reply : Reply) → P Tick reply (suc t) (after_tick shape t scan).packets)
    → (ask : Ask) (reply : Reply) → P ask reply (clock_with ask t) (after shape t scan ask reply).packets
unfolding after with_arrival
packets-by P shape t scan same taken ticked (Reserve chan contract kind delay up_reach first next) (Is.Offer level reach) = same _ _
packets-by P shape t scan same taken ticked (Relax chan level up_bound) (Is.Relaxed clock) = same _ _
packets-by P shape t scan same taken ticked (Deny chan) Is.Denied = same _ _
packets-by P shape t scan same taken ticked (Submit chan count gap size) (Is.Planned clock) = same _ _
packets-by P shape t scan same taken ticked (Release chan upstream) (Is.Closing count cancelled) = same _ _
packets-by P shape t scan same taken ticked (Arrive packet) (Is.Taken clock eligible) = arrives (find (is_row_of packet.chan) scan.rows) refl where
  arrives : (found : Option Row) → find (is_row_of packet.chan) scan.rows ≡ found → P (Arrive packet) (Is.Taken clock eligible) t (with_arrival t packet scan found).packets
  arrives None is = same _ _
  arrives (Some row) is = taken packet row clock eligible is
packets-by P shape t scan same taken ticked Tick reply = ticked reply
packets-by P shape t scan same taken ticked (Pour count gap size) (Is.Planned clock) = same _ _
packets-by P shape t scan same taken ticked _ _ = same _ _

-- ---- one admissible entry

arrive-fits : (shape : LinkShape) (t : ℕ) (scan : Scan) (packet : Packet) (found : Option Row) (clock e : ℕ) → PacketFits packet → find (is_row_of packet.chan) scan.rows ≡ found → Is.Taken clock e ≡ arrive_to shape t scan.packets packet found → EffectFits shape t scan (takes_if packet found)
arrive-fits shape t scan packet None clock e fits is same = tt
arrive-fits shape t scan packet (Some row) clock e fits is same =
    record { asked = fits; found = is; takes = arrive-tells shape.bounds t packet row.terms _ _ _ clock e same }

-- its effect fits
pub effect-fits : (shape : LinkShape) (t : ℕ) (scan : Scan) (ask : Ask) (reply : Reply) → AskFits shape ask → MayAnswer shape t scan ask reply → EffectFits shape t scan (effect_of scan ask reply)
unfolding effect_of MayAnswer reply_at
effect-fits shape t scan (Reserve chan contract kind delay up_reach first next) (Is.Offer level reach) fits may =
    record { delay = delay; asked = fits; may = may; phase = refl }
effect-fits shape t scan (Relax chan level up_bound) (Is.Relaxed clock) fits may = λ row found. record {
  asked = fits;
  offer = relax-tells t row.terms level up_bound clock (may ∙ ap (relax_reply t level up_bound) (find-map row_terms (is_row_of chan) (is_of chan) (λ r. refl) scan.rows ∙ ap (option_map row_terms) found));
}
effect-fits shape t scan (Deny chan) Is.Denied fits may = λ row found.
    deny-tells row.terms (may ∙ ap deny_reply (find-map row_terms (is_row_of chan) (is_of chan) (λ r. refl) scan.rows ∙ ap (option_map row_terms) found))
effect-fits shape t scan (Submit chan count gap size) (Is.Planned clock) fits may = λ row found.
    let tells = submit-tells t size row.terms (length (left_at t row.plan)) clock (may ∙ ap (submit_to t size) found) in
    record { asked = fits; phase = tells.0; none_left = tells.1; size_most = tells.2 }
effect-fits shape t scan (Release chan upstream) (Is.Closing count cancelled) fits may = λ row found.
    let tells = release-tells upstream row.terms (length row.ticks) (length (left_at t row.plan)) count cancelled (may ∙ ap (release_to t upstream) found) in
    record { phase = tells.0; least = tells.1 }
effect-fits shape t scan (Arrive packet) (Is.Taken clock eligible) fits may = arrive-fits shape t scan packet (find (is_row_of packet.chan) scan.rows) clock eligible fits refl may
effect-fits shape t scan Tick reply fits may = tt
effect-fits shape t scan (Pour count gap size) (Is.Planned clock) fits may =
    let tells = pour-tells t shape.cap size (length (left_at t scan.best_plan)) clock may in
    record { asked = fits.1; none_left = tells.0; size_most = tells.1 }
effect-fits shape t scan _ _ fits may = tt

-- what is so with each effect that fits, and adds what is offered, is so after an admissible entry
pub by-fit : (P : ℕ → Scan → Type 0) (shape : LinkShape) (past : List Entry) (e : Entry) → IsAdmissibleAfter shape past e
    → ((effect : Effect) → new_in effect ≡ offer_of e.ask e.reply → EffectFits shape (clock_of past) (scan_of shape past) effect → P (clock_by effect (clock_of past)) (with_effect shape (clock_of past) (scan_of shape past) effect))
    → P (clock_of (e ∷ past)) (scan_of shape (e ∷ past))
unfolding scan_of clock_of
by-fit P shape past e may each =
    by-effect P shape (clock_of past) (scan_of shape past) e.ask e.reply
    (each (effect_of (scan_of shape past) e.ask e.reply) (is-effect shape (clock_of past) (scan_of shape past) e.ask e.reply).new_is (effect-fits shape (clock_of past) (scan_of shape past) e.ask e.reply may.fits may.answered))

-- ---- every history

-- the scan of no history
abbrev pub no_scan : Scan
no_scan = record { rows = []; gone = []; packets = []; best_plan = [] }

-- what each effect keeps is so after every history
pub each-history : (P : ℕ → Scan → Type 0) (shape : LinkShape) → P 0 no_scan
    → ((t : ℕ) (scan : Scan) (effect : Effect) → P t scan → P (clock_by effect t) (with_effect shape t scan effect))
    → (h : List Entry) → P (clock_of h) (scan_of shape h)
unfolding scan_of clock_of
each-history P shape first step [] = first
each-history P shape first step (e ∷ past) =
    by-effect P shape (clock_of past) (scan_of shape past) e.ask e.reply
    (step (clock_of past) (scan_of shape past) (effect_of (scan_of shape past) e.ask e.reply) (each-history P shape first step past))

-- what each effect that fits keeps is so after every admissible history
pub each-admissible : (P : ℕ → Scan → Type 0) (shape : LinkShape) → P 0 no_scan
    → ((past : List Entry) (effect : Effect) → IsAdmissible shape past → EffectFits shape (clock_of past) (scan_of shape past) effect → P (clock_of past) (scan_of shape past) → P (clock_by effect (clock_of past)) (with_effect shape (clock_of past) (scan_of shape past) effect))
    → (h : List Entry) → IsAdmissible shape h → P (clock_of h) (scan_of shape h)
unfolding scan_of clock_of IsAdmissible
each-admissible P shape first step [] may = first
each-admissible P shape first step (e ∷ past) may =
    by-fit P shape past e may.1 (λ effect new fits. step past effect may.0 fits (each-admissible P shape first step past may.0))
