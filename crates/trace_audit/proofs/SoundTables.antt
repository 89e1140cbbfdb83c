-- What a sound table tells of its packets.
use Rattle.std.proofs.Common.{◌≡◌, ℕ, suc, ◌+◌, ◌<◌, ◌≤◌, true, List, [], ◌∷◌, length, get_or, map, take, Option, Some, refl, sym, ap, ◌∙◌, subst, inl, inr, arith}
use Rattle.std.proofs.lemmas.Bool.{eq-eqb, and_from}
use Rattle.std.proofs.lemmas.List.{take_all, reverse-reverse}
use Rattle.std.proofs.lemmas.Option.{slice_get_within}
use Rattle.std.specs.List.{slice_get}
use Rattle.std.specs.Prelude.{nat_eq, reverse}
use Rattle.net_units.specs.Allotted.{levels_of}
use Rattle.net_units.specs.LevelBounds.{bound_at}
use Rattle.net_units.specs.Numbers.{link_number, channel_number}
use Rattle.net_units.specs.declared.Kind.TheVariants.{Jitter}
use Rattle.net_units.specs.declared.levels.Levels.{Levels}
use Rattle.traffic_contract.specs.Keeping.{Keeps}
use Rattle.traffic_contract.proofs.LoadLimits.{ceil_quotient-some}
use Rattle.hop_reservation.specs.Offers.{delay_over}
use Rattle.hop_reservation.specs.declared.route.Hop.{Hop}
use Rattle.link_steps.specs.Lists.{Among}
use Rattle.link_steps.proofs.SearchAndFilter.{Among-filter, Each-among}
use Rattle.link_steps.proofs.ListParts.{Each-at, stands-at, comes-from, Among-reverse, Among-turned}
use Rattle.link_steps.proofs.FoundElements.{Each-from_among}
use Rattle.link_steps.proofs.PacketRows.{Among-passes}
use Rattle.relaxation.specs.Allotment.{bound_at_end, IsWithin}
use Rattle.relaxation.proofs.SlackShares.{bound_at_end-last}
use Rattle.setup_protocol.specs.Hops.{IsHopOf}
use Rattle.setup_protocol.specs.Requests.{kind_of, jitter_of}
use Rattle.call_script.specs.Parts.{PlanParts}
use Rattle.call_script.specs.Plans.{IsPlan, HasTerms}
use Rattle.call_script.specs.Splits.{entry_link, groups_in}
use Rattle.call_script.proofs.PlansFit.{request-fits}
use Rattle.run_record.specs.declared.rows.HopRow.{HopRow}
use Rattle.trace_audit.specs.Above.{is_at, rows_at, tick_of}
use Rattle.call_script.specs.Accepted.{AreAccepted}
use Rattle.trace_audit.specs.Bounds.{delay_before, IsFirstOf, arrival_of, arrivals_in, SourceKept, RowHop, IsLastHop, RowKept, AreClose, TableKept}
use Rattle.trace_audit.specs.Checks.{AllPass, IsSound}
use Rattle.trace_audit.specs.declared.terms.Terms.{Terms}
use Rattle.trace_audit.specs.Terms.{hop_terms, rate_of}
use Rattle.trace_audit.proofs.HopToHop.{row-at, ticks_in, ticks-count}
use Rattle.trace_audit.proofs.TableInOrder.{numbered, at-parts}
use Rattle.trace_audit.proofs.WholeRoute.{IsSettled, path, place-of, row-of-place, terms-given, delay-more, arrivals, at-once, filter-reverse}
use Rattle.trace_audit.proofs.PassingRow.{passes-told}
use Rattle.trace_audit.proofs.RowTerms.{hop-told, row-known}
use Rattle.run_engine.proofs.Keeping.Lookups.{map-reverse}

-- a row of the table with those above it
pub passing : (plan : PlanParts) (levels : List (Option Levels)) (rows : List HopRow) (row : HopRow) → AllPass plan levels rows → Among row rows → (above : List HopRow) × AllPass plan levels (row ∷ above)
unfolding AllPass
passing plan levels [] row all among = absurd among
passing plan levels (first ∷ above) row all (inl same) = (above, subst (λ r. AllPass plan levels (r ∷ above)) (sym same) all)
passing plan levels (first ∷ above) row all (inr among) = passing plan levels above row all.0 among

-- its request, its levels and its hop
pub row-hop : (plan : PlanParts) (levels : List (Option Levels)) (rows : List HopRow) (row : HopRow) → AllPass plan levels rows → Among row rows → RowHop plan levels row
unfolding AllPass
row-hop plan levels rows row all among =
    let own = passing plan levels rows row all among in
    let passes = passes-told plan levels own.0 row own.1.1 in
    let known = row-known plan levels row passes.terms passes.known in
    let told = hop-told plan levels (channel_number row.chan) known.index passes.terms known.at in
    record {
      entry = told.channel.entry;
      given = told.channel.given;
      requested = told.channel.requested;
      accepted = told.channel.accepted;
      index = known.index;
      place = known.place;
      hop = told.hop;
      stands = told.stands;
      link = sym (ap (λ (t : Terms). link_number t.link) told.is) ∙ known.link;
    }

pub settled : (plan : PlanParts) (levels : List (Option Levels)) (row : HopRow) → IsPlan plan → AreAccepted plan levels → (at : RowHop plan levels row) → IsSettled plan levels (channel_number row.chan)
settled plan levels row is accepted at = record {
  given = record { entry = at.entry; given = at.given; requested = at.requested; accepted = at.accepted };
  valid = (Each-at HasTerms plan.requests (channel_number row.chan) at.entry is.terms at.requested).contract;
  whole = (accepted.keep (channel_number row.chan) at.entry at.given at.requested at.accepted).have_levels.whole;
}

-- the row's place at its hop, and its times
pub record RowStands (levels : List ℕ) (hop : Hop) (c i : ℕ) (rows : List HopRow) (row : HopRow) : Type 0 where
  pub index : ℕ
  pub number : row.number ≡ suc index
  pub inside : index < length (ticks_in c (suc i) rows)
  pub tick : get_or (ticks_in c (suc i) rows) index 0 ≡ row.eligible
  pub least : row.eligible < row.departed
  pub most : row.departed ≤ row.eligible + bound_at hop.bounds (get_or levels i 0)

pub row-stands : (plan : PlanParts) (levels : List (Option Levels)) (rows : List HopRow) (row : HopRow) → IsPlan plan → AllPass plan levels rows → Among row rows → (c i : ℕ) (is : IsSettled plan levels c) (hop : Hop) → slice_get is.given.entry.request.route i ≡ Some hop → is_at c (suc i) row ≡ true → RowStands (levels_of is.given.given) hop c i rows row
row-stands plan levels rows row plan_is all among c i is hop stands at =
    let own = passing plan levels rows row all among in
    let terms = terms-given plan levels c i is.given hop stands in
    let row_is = row-at plan levels c i (hop_terms plan is.given.entry.request (levels_of is.given.given) i hop) own.0 row own.1 terms at in
    let place = place-of tick_of (rows_at c (suc i) rows) row (numbered plan levels rows all c (suc i)) (Among-passes (is_at c (suc i)) row rows at among) in
    let inside = place.1.inside in
    let count = ticks-count c (suc i) rows in
    let fits = request-fits plan c is.given.entry plan_is is.given.requested in
    let over = Each-at (IsHopOf (map (entry_link (groups_in plan)) plan.links)) is.given.entry.request.route i hop fits.hops stands in
    let from = comes-from (entry_link (groups_in plan)) plan.links (link_number hop.link) over.link over.linked in
    let rate : 1 ≤ rate_of (slice_get plan.links (link_number hop.link)) = subst (λ e. 1 ≤ rate_of e) (sym from.found) from.from.shape.rate_least in
    let work = ceil_quotient-some row.size (rate_of (slice_get plan.links (link_number hop.link))) rate row_is.size_least in
    record {
      index = place.0;
      number = place.1.number;
      inside = omega (arith, inside, count);
      tick = place.1.value;
      least = (let l = row_is.least in omega (arith, l, work));
      most = row_is.most;
    }

is-at : (c hop : ℕ) (row : HopRow) → channel_number row.chan ≡ c → row.hop ≡ hop → is_at c hop row ≡ true
is-at c hop row chan same = and_from (nat_eq (channel_number row.chan) c) (nat_eq row.hop hop) (eq-eqb (channel_number row.chan) c chan) (eq-eqb row.hop hop same)

-- the packet's row at the first hop
pub first-of : (plan : PlanParts) (levels : List (Option Levels)) (rows : List HopRow) (row : HopRow) → AllPass plan levels rows → (c i k : ℕ) (is : IsSettled plan levels c) → i < length is.given.entry.request.route → channel_number row.chan ≡ c → row.number ≡ suc k → k < length (ticks_in c (suc i) rows) → (first : HopRow) × IsFirstOf rows row first
first-of plan levels rows row all c i k is within chan number inside =
    let fewer = (path plan levels c i rows all is within).after.fewer in
    let count = ticks-count c 1 rows in
    let found = row-of-place (rows_at c 1 rows) k (numbered plan levels rows all c 1) (omega (arith, fewer, inside, count)) in
    let there = Among-filter (is_at c 1) found.0 rows found.1.0 in
    let parts = at-parts c 1 found.0 there.1 in
    (found.0, record { among = there.0; chan = parts.0 ∙ sym chan; number = found.1.1 ∙ sym number; hop = parts.1 })

-- its eligible tick stands at the same place there
pub first-tick : (plan : PlanParts) (levels : List (Option Levels)) (rows : List HopRow) (row first : HopRow) → AllPass plan levels rows → (c k : ℕ) → channel_number row.chan ≡ c → row.number ≡ suc k → IsFirstOf rows row first → get_or (ticks_in c 1 rows) k 0 ≡ first.eligible
first-tick plan levels rows row first all c k chan number is =
    let at = is-at c 1 first (is.chan ∙ chan) is.hop in
    let place = place-of tick_of (rows_at c 1 rows) first (numbered plan levels rows all c 1) (Among-passes (is_at c 1) first rows at is.among) in
    let a = place.1.number in
    let b = is.number in
    let same : k ≡ place.0 = omega (arith, a, b, number) in
    ap (λ n. get_or (ticks_in c 1 rows) n 0) same ∙ place.1.value

turned-first : (table : List HopRow) (row first : HopRow) → IsFirstOf (reverse table) row first → IsFirstOf table row first
turned-first table row first is = record { among = Among-reverse first table is.among; chan = is.chan; number = is.number; hop = is.hop }

first-turned : (table : List HopRow) (row first : HopRow) → IsFirstOf table row first → IsFirstOf (reverse table) row first
first-turned table row first is = record { among = Among-turned first table is.among; chan = is.chan; number = is.number; hop = is.hop }

arrivals-turned : (c : ℕ) (table : List HopRow) → arrivals_in c table ≡ arrivals c (reverse table)
arrivals-turned c table =
    sym (reverse-reverse (map arrival_of (rows_at c 1 table))) ∙ ap reverse (sym (map-reverse arrival_of (rows_at c 1 table))) ∙ ap (λ rs. reverse (map arrival_of rs)) (sym (filter-reverse (is_at c 1) table))

-- a source that keeps its contract
first-at_once : (plan : PlanParts) (levels : List (Option Levels)) (table : List HopRow) (row first : HopRow) → AllPass plan levels (reverse table) → (c : ℕ) (is : IsSettled plan levels c) → 1 ≤ length is.given.entry.request.route → channel_number row.chan ≡ c → IsFirstOf (reverse table) row first → SourceKept is.given.entry.request c table → first.eligible ≡ first.at
first-at_once plan levels table row first all c is some chan is_first kept =
    let near = stands-at is.given.entry.request.route 0 some in
    let terms = terms-given plan levels c 0 is.given near.0 near.1 in
    let each = at-once plan levels c (hop_terms plan is.given.entry.request (levels_of is.given.given) 0 near.0) (reverse table) all terms is.valid (subst (Keeps is.given.entry.request.contract) (arrivals-turned c table) kept) in
    let at = is-at c 1 first (is_first.chan ∙ chan) is_first.hop in
    Each-among (λ (r : HopRow). r.eligible ≡ r.at) first (rows_at c 1 (reverse table)) each (Among-passes (is_at c 1) first (reverse table) at is_first.among)

row-kept : (plan : PlanParts) (levels : List (Option Levels)) (table : List HopRow) (row : HopRow) → IsPlan plan → AreAccepted plan levels → IsSound plan levels table → Among row table → RowKept plan levels table row
unfolding settled row-hop
row-kept plan levels table row plan_is accepted all in_table =
    let among = Among-turned row table in_table in
    let at = row-hop plan levels (reverse table) row all among in
    let is = settled plan levels row plan_is accepted at in
    let c : ℕ = channel_number row.chan in
    let here = is-at (channel_number row.chan) (suc at.index) row refl at.place in
    let own = row-stands plan levels (reverse table) row plan_is all among (channel_number row.chan) at.index is at.hop at.stands here in
    let within = slice_get_within at.entry.request.route at.index at.hop at.stands in
    let way = path plan levels (channel_number row.chan) at.index (reverse table) all is within in
    let first = first-of plan levels (reverse table) row all (channel_number row.chan) at.index own.index is within refl own.number own.inside in
    let first_tick = first-tick plan levels (reverse table) row first.0 all (channel_number row.chan) own.index refl own.number first.1 in
    let under = way.after.after own.index own.inside in
    let tick = own.tick in
    let most = own.most in
    let whole = is.whole in
    record {
      at = at;
      keeps = accepted.keep (channel_number row.chan) at.entry at.given at.requested at.accepted;
      after = own.least;
      within = own.most;
      first = first.0;
      is_first = turned-first table row first.0 first.1;
      in_time = omega (arith, under, tick, first_tick);
      exact = λ jitter. (let over = way.paced jitter own.index own.inside in omega (arith, under, over, tick, first_tick));
      arrives = λ last.
          (let more = delay-more at.entry.request (levels_of at.given) at.index at.hop at.stands (omega (arith, whole, within)) in
          let all_levels : take (suc at.index) (levels_of at.given) ≡ levels_of at.given = take_all (suc at.index) (levels_of at.given) (omega (arith, whole, last)) in
          let sum : delay_before at.entry.request (levels_of at.given) (suc at.index) ≡ delay_over at.entry.request.route (levels_of at.given) = ap (delay_over at.entry.request.route) all_levels in
          omega (arith, under, tick, first_tick, most, more, sum));
      at_once = λ kept. first-at_once plan levels table row first.0 all (channel_number row.chan) is (omega (arith, within)) refl first.1 kept;
    }

rows-close : (plan : PlanParts) (levels : List (Option Levels)) (table : List HopRow) → IsPlan plan → AreAccepted plan levels → IsSound plan levels table
    → (one other first_one first_other : HopRow) (at : RowHop plan levels one) → Among one table → Among other table → channel_number other.chan ≡ channel_number one.chan → other.hop ≡ one.hop → IsLastHop plan levels one at
    → IsFirstOf table one first_one → IsFirstOf table other first_other → kind_of at.entry.request.control ≡ Jitter → SourceKept at.entry.request (channel_number one.chan) table → AreClose plan levels one other first_one first_other at
unfolding settled
rows-close plan levels table plan_is accepted all one other first_one first_other at one_in other_in chan hop last is_one is_other jitter kept =
    let is = settled plan levels one plan_is accepted at in
    let within = slice_get_within at.entry.request.route at.index at.hop at.stands in
    let one_stands = row-stands plan levels (reverse table) one plan_is all (Among-turned one table one_in) (channel_number one.chan) at.index is at.hop at.stands (is-at (channel_number one.chan) (suc at.index) one refl at.place) in
    let other_stands = row-stands plan levels (reverse table) other plan_is all (Among-turned other table other_in) (channel_number one.chan) at.index is at.hop at.stands (is-at (channel_number one.chan) (suc at.index) other chan (hop ∙ at.place)) in
    let way = path plan levels (channel_number one.chan) at.index (reverse table) all is within in
    let under = way.after.after one_stands.index one_stands.inside in
    let over = way.paced jitter other_stands.index other_stands.inside in
    let one_first = first-tick plan levels (reverse table) one first_one all (channel_number one.chan) one_stands.index refl one_stands.number (first-turned table one first_one is_one) in
    let other_first = first-tick plan levels (reverse table) other first_other all (channel_number one.chan) other_stands.index chan other_stands.number (first-turned table other first_other is_other) in
    let one_once = first-at_once plan levels table one first_one all (channel_number one.chan) is (omega (arith, within)) refl (first-turned table one first_one is_one) kept in
    let other_once = first-at_once plan levels table other first_other all (channel_number one.chan) is (omega (arith, within)) chan (first-turned table other first_other is_other) kept in
    let most = one_stands.most in
    let least = other_stands.least in
    let one_tick = one_stands.tick in
    let other_tick = other_stands.tick in
    let keeps = accepted.keep (channel_number one.chan) at.entry at.given at.requested at.accepted in
    let whole = is.whole in
    let bound : bound_at_end at.entry.request.route (levels_of at.given) ≡ bound_at at.hop.bounds (get_or (levels_of at.given) at.index 0) =
    bound_at_end-last at.entry.request.route (levels_of at.given) at.index at.hop (omega (arith, whole, last)) at.stands in
    record {
      close = omega (arith, under, over, one_first, other_first, one_once, other_once, most, least, one_tick, other_tick);
      bound = subst (IsWithin (jitter_of at.entry.request.control)) bound keeps.in_jitter;
    }

pub table-kept : (plan : PlanParts) (levels : List (Option Levels)) (table : List HopRow) → IsPlan plan → AreAccepted plan levels → IsSound plan levels table → TableKept plan levels table
table-kept plan levels table plan_is accepted all = record {
  rows = Each-from_among (RowKept plan levels table) table (λ row among. row-kept plan levels table row plan_is accepted all among);
  close = rows-close plan levels table plan_is accepted all;
}
