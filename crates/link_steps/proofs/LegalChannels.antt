-- In an admissible history no two held rows are of one channel: the row that a rule finds first is the only one.
use Rattle.std.proofs.Common.{◌≡◌, ℕ, suc, ◌≢◌, Bool, List, [], ◌∷◌, ◌++◌, length, map, None, refl, sym, ap, ◌∙◌, subst, inl, inr}
use Rattle.std.proofs.lemmas.Bool.{cases_Bool, eqb-false, cond_both}
use Rattle.std.proofs.lemmas.List.{map-append}
use Rattle.std.proofs.lemmas.Option.{none-some}
use Rattle.std.specs.Prelude.{filter, find}
use Rattle.net_units.specs.Numbers.{channel_number}
use Rattle.net_units.specs.declared.numbers.ChanNo.{ChanNo}
use Rattle.net_units.specs.declared.numbers.Level.{Level}
use Rattle.traffic_contract.specs.Contract.{Traffic}
use Rattle.link_steps.specs.declared.replies.Entry.{Entry}
use Rattle.link_steps.specs.declared.shape.LinkShape.{LinkShape}
use Rattle.link_steps.specs.Admissible.{MayOffer, IsAdmissible}
use Rattle.link_steps.specs.Hold.{stays}
use Rattle.link_steps.specs.Lists.{Each, change_first, without_first}
use Rattle.link_steps.specs.Reservation.{Reservation, is_of}
use Rattle.link_steps.specs.Rows.{Row, row_terms, new_row}
use Rattle.link_steps.specs.Scan.{Scan, clock_of, is_row_of, arrived_row, with_arrival, without_expired, with_sources, with_best, after_tick, scan_of}
use Rattle.link_steps.specs.Effects.{Effect, Adds, Changes, Removes, Takes, Ticks, changed_row, is_changed, with_effect}
use Rattle.link_steps.proofs.EntryEffects.{EffectFits, each-admissible}
use Rattle.link_steps.proofs.AdmissionHolds.{rows_after-terms}
use Rattle.link_steps.proofs.SearchAndFilter.{Each-append, map-change_first-same}

abbrev channel_of : Row → ℕ
channel_of row = channel_number row.terms.chan

abbrev terms_channel : Reservation → ℕ
terms_channel terms = channel_number terms.chan

-- the numbers differ from one another
abbrev pub AreApart : List ℕ → Type 0
AreApart [] = Unit {0}
AreApart (n ∷ ns) = Each (λ m. m ≢ n) ns × AreApart ns

apart-push : (n : ℕ) (ns : List ℕ) → AreApart ns → Each (λ m. m ≢ n) ns → AreApart (ns ++ n ∷ [])
apart-push n [] apart other = (tt, tt)
apart-push n (m ∷ ns) apart other = (Each-append _ ns (n ∷ []) apart.0 ((λ same. other.0 (sym same)), tt), apart-push n ns apart.1 other.1)

-- the rows are of different channels
abbrev pub DifferInChannel : List Row → Type 0
DifferInChannel rows = AreApart (map channel_of rows)

pub differ-filter : (test : Row → Bool) (rows : List Row) → DifferInChannel rows → DifferInChannel (filter test rows)
differ-filter test [] differ = tt
differ-filter test (row ∷ rows) differ =
    cond_both (test row) (row ∷ filter test rows) (filter test rows) DifferInChannel
    (λ _. (others-filter (channel_of row) rows differ.0, differ-filter test rows differ.1)) (λ _. differ-filter test rows differ.1) where
      others-filter : (n : ℕ) (more : List Row) → Each (λ m. m ≢ n) (map channel_of more) → Each (λ m. m ≢ n) (map channel_of (filter test more))
      others-filter n [] other = tt
      others-filter n (r ∷ more) other =
          cond_both (test r) (r ∷ filter test more) (filter test more) (λ rs. Each (λ m. m ≢ n) (map channel_of rs))
          (λ _. (other.0, others-filter n more other.1)) (λ _. others-filter n more other.1)

differ-without_first : (test : Row → Bool) (rows : List Row) → DifferInChannel rows → DifferInChannel (without_first test rows)
unfolding without_first
differ-without_first test [] differ = tt
differ-without_first test (row ∷ rows) differ =
    cond_both (test row) rows (row ∷ without_first test rows) DifferInChannel
    (λ _. differ.1) (λ _. (others-without (channel_of row) rows differ.0, differ-without_first test rows differ.1)) where
      others-without : (n : ℕ) (more : List Row) → Each (λ m. m ≢ n) (map channel_of more) → Each (λ m. m ≢ n) (map channel_of (without_first test more))
      others-without n [] other = tt
      others-without n (r ∷ more) other =
          cond_both (test r) more (r ∷ without_first test more) (λ rs. Each (λ m. m ≢ n) (map channel_of rs))
          (λ _. other.1) (λ _. (other.0, others-without n more other.1))

-- rows with the same terms
differ-same : (rows others : List Row) → map row_terms others ≡ map row_terms rows → DifferInChannel rows → DifferInChannel others
differ-same rows others same differ =
    subst AreApart (channels rows ∙ ap (map terms_channel) (sym same) ∙ sym (channels others)) differ where
      channels : (some : List Row) → map channel_of some ≡ map terms_channel (map row_terms some)
      channels [] = refl
      channels (r ∷ some) = ap (λ ns. channel_of r ∷ ns) (channels some)

differ-change : (test : Row → Bool) (change : Row → Row) (rows : List Row) → ((row : Row) → channel_of (change row) ≡ channel_of row) → DifferInChannel rows → DifferInChannel (change_first test change rows)
differ-change test change rows keeps differ = subst AreApart (sym (map-change_first-same channel_of test change keeps rows)) differ

-- where no reservation of the channel is found, all rows are of others
others-found : (chan : ChanNo) (rows : List Row) → find (is_of chan) (map row_terms rows) ≡ None → Each (λ m. m ≢ channel_number chan) (map channel_of rows)
others-found chan [] none = tt
others-found chan (row ∷ rows) none =
    elim (cases_Bool (is_row_of chan row)) [
      | inl passed ↦ absurd (none-some row.terms (sym (rw passed at none)))
      | inr failed ↦ (eqb-false (channel_of row) (channel_number chan) failed, others-found chan rows (rw failed at none))
    ]

differ-reserved : (shape : LinkShape) (rows : List Row) (chan : ChanNo) (contract : Traffic) (delay up_reach : ℕ) (level reach : Level) (row : Row) → channel_of row ≡ channel_number chan → MayOffer shape (map row_terms rows) chan contract delay up_reach level reach → DifferInChannel rows → DifferInChannel (rows ++ row ∷ [])
differ-reserved shape rows chan contract delay up_reach level reach row is may differ =
    let others = others-found chan rows may.new in
    subst AreApart (sym (map-append channel_of rows (row ∷ []))) (apart-push (channel_of row) (map channel_of rows) differ (subst (λ n. Each (λ m. m ≢ n) (map channel_of rows)) (sym is) others))

differ-effect : (shape : LinkShape) (t : ℕ) (scan : Scan) (effect : Effect) → EffectFits shape t scan effect → DifferInChannel scan.rows → DifferInChannel (with_effect shape t scan effect).rows
unfolding with_effect with_arrival after_tick with_best with_sources without_expired
differ-effect shape t scan (Adds terms) fits differ =
    differ-reserved shape scan.rows terms.chan terms.contract fits.delay terms.up_reach terms.level terms.reach (new_row terms) refl fits.may differ
differ-effect shape t scan (Changes chan change) fits differ = differ-change (is_changed chan change) (changed_row t change) scan.rows (λ row. refl) differ
differ-effect shape t scan (Removes chan) fits differ = differ-without_first (is_row_of chan) scan.rows differ
differ-effect shape t scan (Takes packet row) fits differ = differ-change (is_row_of packet.chan) (arrived_row t (suc (length scan.packets)) packet) scan.rows (λ r. refl) differ
differ-effect shape t scan Ticks fits differ =
    differ-same (filter (stays shape.bounds t) scan.rows) _ (rows_after-terms shape.bounds _ t (length scan.packets) (filter (stays shape.bounds t) scan.rows)) (differ-filter (stays shape.bounds t) scan.rows differ)
differ-effect shape t scan _ fits differ = differ

-- the rows held after an admissible history are of different channels
pub legal-channels : (shape : LinkShape) (h : List Entry) → IsAdmissible shape h → DifferInChannel (scan_of shape h).rows
legal-channels shape h legal = each-admissible (λ t scan. DifferInChannel scan.rows) shape tt (λ past effect may. differ-effect shape (clock_of past) (scan_of shape past) effect) h legal
