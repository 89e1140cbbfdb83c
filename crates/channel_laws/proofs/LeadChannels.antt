-- The packets with the lead of a row, held or gone, are of its channel.
use Rattle.std.proofs.Common.{◌≡◌, ℕ, suc, ◌≤◌, Bool, true, false, List, [], ◌∷◌, ◌++◌, length, Some, refl, sym, ◌∙◌, arith}
use Rattle.std.proofs.lemmas.Bool.{and_from, eq-eqb, lt-ltb}
use Rattle.std.specs.Prelude.{filter, find, nat_eq, nat_lt, ◌&&◌}
use Rattle.link_steps.specs.declared.replies.Entry.{Entry}
use Rattle.link_steps.specs.declared.shape.LinkShape.{LinkShape}
use Rattle.link_steps.specs.Buffer.{has_lead, held_packets}
use Rattle.link_steps.specs.Hold.{stays, expires}
use Rattle.link_steps.specs.Admissible.{IsAdmissible}
use Rattle.link_steps.specs.Lists.{Each}
use Rattle.link_steps.specs.Rows.{Row}
use Rattle.link_steps.specs.Scan.{Scan, clock_of, without_expired, with_sources, with_best, best_step_at, after_tick, scan_of}
use Rattle.link_steps.specs.Service.{Arrival, here_at, is_here, starts_below}
use Rattle.link_steps.specs.Sources.{SourceStep, Rests, Brings, Drops, step_of, packet_of, row_after}
use Rattle.link_steps.proofs.FoundElements.{Each-if_passes}
use Rattle.link_steps.proofs.SearchAndFilter.{Each-append, Each-find}
use Rattle.link_steps.specs.Belonging.{own_packets}
use Rattle.link_steps.proofs.EntryEffects.{each-admissible}
use Rattle.link_steps.proofs.SourceHistory.{stand-best}
use Rattle.link_steps.proofs.RowPackets.{IsHeld, RowsStand, stand-sources}
use Rattle.link_steps.proofs.RowsStanding.{stand-expired, Stands, stand-effect}
use Rattle.channel_laws.specs.Channels.{is_of_channel, channel_packets, channel_of}

abbrev pub OwnChannel : Row → List Arrival → Type 0
OwnChannel row own = Each (λ p. is_of_channel (channel_of row) p ≡ true) own

own-packet : (c number : ℕ) → 1 ≤ number → (nat_eq c c && nat_lt 0 number) ≡ true
own-packet c number some = and_from (nat_eq c c) (nat_lt 0 number) (eq-eqb c c refl) (lt-ltb 0 number some)

step-own : (t place : ℕ) (row : Row) (own : List Arrival) (step : SourceStep) → OwnChannel row own → OwnChannel (row_after step t place row) (own ++ packet_of step t place row)
step-own t place row own (Brings size) each = Each-append (λ p. is_of_channel (channel_of row) p ≡ true) own _ each (own-packet (channel_of row) (suc (length row.ticks)) (omega arith), tt)
step-own t place row own Rests each = Each-append (λ p. is_of_channel (channel_of row) p ≡ true) own [] each tt
step-own t place row own Drops each = Each-append (λ p. is_of_channel (channel_of row) p ≡ true) own [] each tt

tick-own : (shape : LinkShape) (t : ℕ) (scan : Scan) → RowsStand OwnChannel OwnChannel scan.packets scan.gone scan.rows → RowsStand OwnChannel OwnChannel (after_tick shape t scan).packets (after_tick shape t scan).gone (after_tick shape t scan).rows
unfolding after_tick with_best with_sources without_expired
tick-own shape t scan stand =
    stand-best OwnChannel shape.bounds t (best_step_at shape t scan) _ _ _
    (stand-sources OwnChannel OwnChannel shape.bounds (here_at shape.rate scan.packets t) t (λ row own place is. step-own t place row own (step_of shape.bounds (here_at shape.rate scan.packets t) t row) is)
    (filter (stays shape.bounds t) scan.rows) (scan.gone ++ filter (expires shape.bounds t) scan.rows) scan.packets (length scan.packets) refl (stand-expired OwnChannel (expires shape.bounds t) scan.packets scan.gone scan.rows stand))

pub history-own : (shape : LinkShape) (h : List Entry) → IsAdmissible shape h → RowsStand OwnChannel OwnChannel (scan_of shape h).packets (scan_of shape h).gone (scan_of shape h).rows
history-own shape h may =
    each-admissible (λ t scan. Stands OwnChannel scan) shape (record { leads = tt; beside = tt; held = tt; apart = tt })
    (λ past effect before fits stand. stand-effect (λ t. OwnChannel) shape (clock_of past) (scan_of shape past) effect
    (record {
      added = λ terms offer. tt;
      changed = λ test change row found suits own. own;
      taken = λ packet row takes each. (let number = takes.takes.number in
          Each-append (λ p. is_of_channel (channel_of row) p ≡ true) (own_packets row (scan_of shape past).packets) _ each (own-packet (channel_of row) packet.number (omega (arith, number)), tt));
    })
    (tick-own shape (clock_of past) (scan_of shape past) stand) fits stand) h may

-- ---- counts

filtered-less : (a b c : Arrival → Bool) (xs : List Arrival) → Each (λ x. a x ≡ true → c x ≡ true) xs → length (filter a (filter b xs)) ≤ length (filter b (filter c xs))
filtered-less a b c [] each = omega arith
filtered-less a b c (x ∷ xs) each = go (b x) (a x) (c x) refl refl refl (filtered-less a b c xs each.1) where
  go : (bx ax cx : Bool) → b x ≡ bx → a x ≡ ax → c x ≡ cx → length (filter a (filter b xs)) ≤ length (filter b (filter c xs)) → length (filter a (filter b (x ∷ xs))) ≤ length (filter b (filter c (x ∷ xs)))
  go true true true eb ea ec less = rw (eb, ec) (rw (ea, eb) (omega (arith, less)))
  go true true false eb ea ec less = absurd (let clash : false ≡ true = sym ec ∙ each.0 ea in cc)
  go true false true eb ea ec less = rw (eb, ec) (rw (ea, eb) (omega (arith, less)))
  go true false false eb ea ec less = rw (eb, ec) (rw ea less)
  go false ax true eb ea ec less = rw (eb, ec) (rw eb less)
  go false ax false eb ea ec less = rw (eb, ec) less

-- the packets of a held row that are here are among those of its channel that are
pub held-channel : (shape : LinkShape) (h : List Entry) (t : ℕ) (test : Row → Bool) (row : Row) → IsAdmissible shape h → find test (scan_of shape h).rows ≡ Some row → held_packets row.lead (here_at shape.rate (scan_of shape h).packets t) ≤ length (filter (is_here shape.rate (starts_below shape.rate (scan_of shape h).packets t) t) (channel_packets (channel_of row) (scan_of shape h).packets))
unfolding held_packets here_at
held-channel shape h t test row may found =
    let held = Each-find (IsHeld OwnChannel (scan_of shape h).packets) test (scan_of shape h).rows row (history-own shape h may).held found in
    filtered-less (has_lead row.lead) (is_here shape.rate (starts_below shape.rate (scan_of shape h).packets t) t) (is_of_channel (channel_of row)) (scan_of shape h).packets
    (Each-if_passes (λ p. is_of_channel (channel_of row) p ≡ true) (has_lead row.lead) (scan_of shape h).packets held.fact)
