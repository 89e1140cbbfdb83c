-- That the rules say what they are meant to, where a definition takes a short way.
use Rattle.std.proofs.Common.{◌≡◌, ℕ, suc, ◌+◌, ◌≤◌, Bool, false, List, [], ◌∷◌, ◌++◌, length, map, Option, refl, sym, ap, ◌∙◌, arith}
use Rattle.std.proofs.Math.Bool.{or-false}
use Rattle.std.proofs.lemmas.Bool.{le-ltb}
use Rattle.std.specs.Prelude.{filter, nat_lt}
use Rattle.std.specs.List.{list_any}
use Rattle.net_units.specs.Numbers.{level_number}
use Rattle.net_units.specs.declared.Kind.{Kind}
use Rattle.net_units.specs.declared.numbers.ChanNo.{ChanNo}
use Rattle.net_units.specs.declared.numbers.Level.{Level}
use Rattle.net_units.specs.declared.numbers.LinkNo.{LinkNo}
use Rattle.traffic_contract.specs.Contract.{Traffic}
use Rattle.link_steps.specs.declared.asks.Ask.{Ask}
use Rattle.link_steps.specs.declared.replies.Entry.{Entry}
use Rattle.link_steps.specs.declared.shape.LinkShape.{LinkShape}
use Rattle.link_steps.specs.Split.{Link}
use Rattle.link_steps.specs.BestEffort.{best_packet}
use Rattle.link_steps.specs.Hold.{stays}
use Rattle.link_steps.specs.Buffer.{need_of, held_units}
use Rattle.link_steps.specs.Legal.{AskFits, IsLegal}
use Rattle.link_steps.specs.Lists.{Each}
use Rattle.link_steps.specs.Replies.{reply_to}
use Rattle.link_steps.specs.Reservation.{tentative}
use Rattle.link_steps.specs.Rows.{Row}
use Rattle.link_steps.specs.Scan.{Scan, with_arrival, without_expired, with_sources, with_best, best_step_at, after_tick, scan_of}
use Rattle.link_steps.specs.Service.{Arrival, Start, leaves_at, is_busy, here_at}
use Rattle.link_steps.specs.Sources.{SourceStep, Rests, Brings, Drops, step_of, packet_of, taken_by, source_packets}
use Rattle.link_steps.specs.Effects.{Effect, Takes, Ticks, with_effect}
use Rattle.link_steps.proofs.EntryEffects.{each-history}
use Rattle.link_steps.proofs.AccountOfRows.{eligible-from}
use Rattle.link_steps.proofs.SearchAndFilter.{Each-append, Each-if}
use Rattle.link_steps.proofs.Play.{answered}
use Rattle.link_steps.proofs.ServiceStarts.{HasLeft, HasBegun, FollowEachOther}

-- ---- a new reservation keeps what it needed

pub need-kept : (bounds : List ℕ) (chan : ChanNo) (contract : Traffic) (kind : Kind) (first : Bool) (next : Option LinkNo) (up_reach : ℕ) (level reach : Level) → held_units bounds (tentative chan contract kind first next up_reach level reach) ≡ need_of bounds contract up_reach (level_number reach)
unfolding held_units need_of
need-kept bounds chan contract kind first next up_reach level reach = refl

-- ---- the packet that started last is the only one that can occupy the link

-- whether a packet that has started occupies the link in tick t
abbrev is_on : ℕ → ℕ → Start → Bool
is_on rate t start = nat_lt t (leaves_at rate start)

none-on : (rate t : ℕ) (starts : List Start) → Each (HasLeft rate t) starts → list_any (is_on rate t) starts ≡ false
none-on rate t [] left = refl
none-on rate t (start ∷ earlier) left = rw (le-ltb t (leaves_at rate start) left.0, none-on rate t earlier left.1) refl

-- so whether any packet occupies the link is whether the newest one does
pub busy-any : (rate t : ℕ) (starts : List Start) → FollowEachOther rate starts → Each (HasBegun t) starts → list_any (is_on rate t) starts ≡ is_busy rate starts t
busy-any rate t [] follow begun = refl
busy-any rate t (start ∷ earlier) follow begun =
    let left = Each-if (HasLeft rate start.tick) (HasLeft rate t) earlier (λ other h. omega (arith, begun.0)) follow.0 in
    rw (none-on rate t earlier left) (or-false (nat_lt t (leaves_at rate start)))

-- ---- no packet is eligible before it arrives

abbrev IsPatient : Arrival → Type 0
IsPatient p = p.at ≤ p.eligible

source_packets-patient : (bounds : List ℕ) (here : List Arrival) (t taken : ℕ) (rows : List Row) → Each IsPatient (source_packets bounds here t taken rows)
unfolding source_packets
source_packets-patient bounds here t taken [] = tt
source_packets-patient bounds here t taken (row ∷ rows) =
    Each-append IsPatient (packet_of (step_of bounds here t row) t (suc taken) row) _ (packet-patient (step_of bounds here t row)) (source_packets-patient bounds here t (taken + taken_by (step_of bounds here t row)) rows) where
      packet-patient : (step : SourceStep) → Each IsPatient (packet_of step t (suc taken) row)
      packet-patient (Brings size) = (eligible-from row.terms row.ticks t 0, tt)
      packet-patient Rests = tt
      packet-patient Drops = tt

best-patient : (bounds : List ℕ) (t place : ℕ) (step : SourceStep) → Each IsPatient (best_packet step bounds place t)
best-patient bounds t place Rests = tt
best-patient bounds t place Drops = tt
best-patient bounds t place (Brings size) = (omega arith, tt)

effect-patient : (shape : LinkShape) (t : ℕ) (scan : Scan) (effect : Effect) → Each IsPatient scan.packets → Each IsPatient (with_effect shape t scan effect).packets
unfolding with_effect with_arrival after_tick with_best with_sources without_expired
effect-patient shape t scan (Takes packet row) before = Each-append IsPatient scan.packets _ before (eligible-from row.terms row.ticks t packet.due, tt)
effect-patient shape t scan Ticks before =
    Each-append IsPatient (scan.packets ++ source_packets shape.bounds (here_at shape.rate scan.packets t) t (length scan.packets) (filter (stays shape.bounds t) scan.rows)) _
    (Each-append IsPatient scan.packets _ before (source_packets-patient shape.bounds (here_at shape.rate scan.packets t) t (length scan.packets) (filter (stays shape.bounds t) scan.rows)))
    (best-patient shape.bounds t _ (best_step_at shape t scan))
effect-patient shape t scan _ before = before

-- so it is for every packet of a history
pub scan-patient : (shape : LinkShape) (h : List Entry) → Each IsPatient (scan_of shape h).packets
scan-patient shape h = each-history (λ t scan. Each IsPatient scan.packets) shape tt (λ t scan effect. effect-patient shape t scan effect) h

-- ---- a legal history goes on with every ask that meets the conditions, and its asks determine it

pub legal-answered : (link : Link) (past : List Entry) (ask : Ask) → IsLegal link past → AskFits link.shape ask → IsLegal link (answered link past ask ∷ past)
unfolding IsLegal
legal-answered link past ask legal fits = (legal, record { fits = fits; answered = refl })

abbrev ask_of : Entry → Ask
ask_of e = e.ask

pub legal-determined : (link : Link) (h other : List Entry) → IsLegal link h → IsLegal link other → map ask_of h ≡ map ask_of other → h ≡ other
unfolding IsLegal
legal-determined link [] [] legal other_legal same = refl
legal-determined link [] (e ∷ other) legal other_legal same = cc
legal-determined link (d ∷ h) [] legal other_legal same = cc
legal-determined link (d ∷ h) (e ∷ other) legal other_legal same =
    let past = legal-determined link h other legal.0 other_legal.0 (tails d.ask e.ask _ _ same) in
    let ask = heads d.ask e.ask _ _ same in
    let reply : d.reply ≡ e.reply = legal.1.answered ∙ ap (λ p. reply_to link p d.ask) past ∙ ap (λ a. reply_to link other a) ask ∙ sym other_legal.1.answered in
    ap (λ es. d ∷ es) past ∙ ap (λ first. first ∷ other) (entries d e ask reply) where
      heads : (a b : Ask) (more others : List Ask) → a ∷ more ≡ b ∷ others → a ≡ b
      heads a b more others same = cc

      tails : (a b : Ask) (more others : List Ask) → a ∷ more ≡ b ∷ others → more ≡ others
      tails a b more others same = cc

      entries : (d e : Entry) → d.ask ≡ e.ask → d.reply ≡ e.reply → d ≡ e
      entries d e ask reply = λ i. record { ask = ask i; reply = reply i }
