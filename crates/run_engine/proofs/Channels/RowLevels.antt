-- The packets of a channel at a hop have the level of the reservation that is held there; and where none is held any more,
-- no packet comes.
use Rattle.std.proofs.Common.{◌≡◌, ℕ, suc, List, [], ◌∷◌, ◌++◌, length, Option, Some, None, refl, sym, ap, ◌∙◌, subst, inl, inr, arith, append-nil}
use Rattle.run_engine.proofs.Words.{cases_Bool, cases_lt, eqb-false, same_Some, option_map, filter, find, link_number, channel_number, level_number, ChanNo, Ask, Reply, LinkShape, stays, Each, Reservation, is_of, Row, row_terms, Scan, scan_of, is_row_of, arrived_packet, without_expired, with_sources, with_best, after_tick, after, here_at, Request, Done, channel_packets, channel_of, offers_to, IsElsewhere, IsOnly, NetworkFits, Network, part_of, IsRun, held_by, terms_at, ChannelAsked, HopAt, packets_at}
use Rattle.link_steps.proofs.AdmissionHolds.{find-terms, rows_after-terms}
use Rattle.link_steps.proofs.EntryEffects.{packets-by}
use Rattle.link_steps.proofs.SearchAndFilter.{Each-find}
use Rattle.channel_laws.proofs.ChannelRows.{tick-packets, row-of, find-passes, packets-off, sources-elsewhere, legal-free}
use Rattle.run_engine.proofs.Channels.ChannelsAt.{stands-at}
use Rattle.run_engine.proofs.Channels.RowsFollow.{held_at_hop}
use Rattle.run_engine.proofs.Runs.RunLegal.{part-admissible}
use Rattle.channel_laws.proofs.TermsAfter.{arrival-held}

-- the row of the reservation that is held
held-row : (chan : ChanNo) (rows : List Row) (found : Option Row) (terms : Reservation) → find (is_row_of chan) rows ≡ found → held_by chan rows ≡ Some terms → (row : Row) × (find (is_row_of chan) rows ≡ Some row) × (row.terms ≡ terms)
held-row chan rows None terms is held = absurd (let clash : None ≡ Some terms = sym (find-terms chan rows ∙ ap (option_map row_terms) is) ∙ held in cc)
held-row chan rows (Some row) terms is held = (row, is, same_Some row.terms terms (sym (find-terms chan rows ∙ ap (option_map row_terms) is) ∙ held))

pub levels-held : (network : Network) (request : Request) (i : ℕ) (at : HopAt network request i) (run : List Done) (terms : Reservation) → NetworkFits network → IsRun network run → ChannelAsked request run → held_at_hop network request i at run ≡ Some terms → Each (λ p. p.level ≡ level_number terms.level) (packets_at network request i at run)
levels-held network request i at run terms fits is asked held =
    let found = held-row request.chan (scan_of at.link.shape (part_of (link_number at.hop.link) run)).rows (find (is_row_of request.chan) (scan_of at.link.shape (part_of (link_number at.hop.link) run)).rows) terms refl held in
    let own : channel_of found.0 ≡ channel_number request.chan = row-of request.chan found.0 (find-passes (is_row_of request.chan) found.0 _ found.1) in
    elim (cases_lt 0 (offers_to (channel_number request.chan) (part_of (link_number at.hop.link) run))) [
      | inl some ↦
          (let once = asked.once (link_number at.hop.link) in
          let has = (stands-at network request run i at.hop (link_number at.hop.link) at.link fits is asked at.stands refl at.linked).known (omega (arith, once, some)) in
          let same : found.0 ≡ has.row = Each-find (IsOnly (channel_number request.chan) has.row) (is_row_of request.chan) _ found.0 has.only found.1 own in
          let level : level_number has.row.terms.level ≡ level_number terms.level = ap (λ r. level_number r.terms.level) (sym same) ∙ ap (λ t. level_number t.level) found.2 in
          subst (λ l. Each (λ p. p.level ≡ l) (packets_at network request i at run)) level has.tells.levels)
      | inr none ↦
          (let free = legal-free at.link.shape (terms_at request 0) (channel_number request.chan) (part_of (link_number at.hop.link) run) (part-admissible network run (link_number at.hop.link) at.link fits is at.linked) (omega (arith, none)) in
          absurd (Each-find (IsElsewhere (channel_number request.chan)) (is_row_of request.chan) _ found.0 free.rows found.1 own))
    ]

-- ---- where none is held afterwards

none-elsewhere : (chan : ChanNo) (rows : List Row) → held_by chan rows ≡ None → Each (IsElsewhere (channel_number chan)) rows
none-elsewhere chan [] none = tt
none-elsewhere chan (row ∷ rows) none =
    elim (cases_Bool (is_of chan row.terms)) [
      | inl own ↦ absurd (let clash : Some row.terms ≡ None = rw own at none in cc)
      | inr off ↦ (eqb-false (channel_of row) (channel_number chan) off, none-elsewhere chan rows (rw off at none))
    ]

tick-none-held : (shape : LinkShape) (chan : ChanNo) (t : ℕ) (scan : Scan) → held_by chan (after_tick shape t scan).rows ≡ None → channel_packets (channel_number chan) (after_tick shape t scan).packets ≡ channel_packets (channel_number chan) scan.packets
unfolding after_tick with_best with_sources without_expired
tick-none-held shape chan t scan none =
    let before : held_by chan (filter (stays shape.bounds t) scan.rows) ≡ None = sym (ap (find (is_of chan)) (rows_after-terms shape.bounds (here_at shape.rate scan.packets t) t (length scan.packets) (filter (stays shape.bounds t) scan.rows))) ∙ none in
    tick-packets shape (channel_number chan) t scan
    ∙ ap (λ x. channel_packets (channel_number chan) scan.packets ++ x) (sources-elsewhere (channel_number chan) shape.bounds (here_at shape.rate scan.packets t) t (length scan.packets) (filter (stays shape.bounds t) scan.rows) (none-elsewhere chan (filter (stays shape.bounds t) scan.rows) before)).0
    ∙ append-nil _

pub none-comes : (shape : LinkShape) (chan : ChanNo) (t : ℕ) (scan : Scan) (ask : Ask) (reply : Reply) → held_by chan (after shape t scan ask reply).rows ≡ None → channel_packets (channel_number chan) (after shape t scan ask reply).packets ≡ channel_packets (channel_number chan) scan.packets
unfolding after
none-comes shape chan t scan ask reply =
    packets-by (λ a r clock packets. held_by chan (after shape t scan a r).rows ≡ None → channel_packets (channel_number chan) packets ≡ channel_packets (channel_number chan) scan.packets) shape t scan
    (λ a r none. refl)
    (λ packet row clock eligible found none. packets-off (channel_number chan) scan.packets (arrived_packet t (suc (length scan.packets)) packet row)
    (Each-find (IsElsewhere (channel_number chan)) (is_row_of packet.chan) scan.rows row (none-elsewhere chan scan.rows (sym (arrival-held chan t packet scan (find (is_row_of packet.chan) scan.rows)) ∙ none)) found))
    (λ r none. tick-none-held shape chan t scan none)
    ask reply
