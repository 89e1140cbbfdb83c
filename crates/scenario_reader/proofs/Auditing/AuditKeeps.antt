-- What is kept of an audit's input keeps its rules as it is read: what a line tells of a request's levels keeps what the request asks for.
use Rattle.std.proofs.Common.{◌≡◌, ℕ, zero, suc, ◌≤◌, Bool, true, false, ◌&&◌, ◌⊎◌, List, [], ◌∷◌, Option, Some, None, drop, is_none, length, map, option_map, IfSome, nat_eq, nat_le, nat_lt, replicate, set, refl, sym, ◌∙◌, ap, arith, inl, inr}
use Rattle.std.proofs.lemmas.Bool.{and_parts, cases_Bool, leb-true, ltb-false}
use Rattle.std.proofs.lemmas.List.{length-map, length-set}
use Rattle.std.proofs.lemmas.List.Folds.{find_at}
use Rattle.std.proofs.lemmas.Option.{same_Some}
use Rattle.std.specs.List.{position_or_len, slice_get}
use Rattle.std.specs.Prelude.{Result, Ok, Err}
use Rattle.std.specs.Result.{result_ok}
use Rattle.net_units.specs.Numbers.{channel_number}
use Rattle.net_units.specs.Allotted.{levels_of}
use Rattle.net_units.specs.Text.{is_name}
use Rattle.net_units.specs.declared.levels.Levels.{Levels}
use Rattle.hop_reservation.specs.Offers.{AreLevels, IsLevelOf, delay_over}
use Rattle.hop_reservation.specs.declared.route.Hop.{Hop}
use Rattle.relaxation.specs.Allotment.{IsWithin, bound_at_end, denial_of, jitter_denial}
use Rattle.setup_protocol.specs.Laws.{KeepsRequest}
use Rattle.setup_protocol.specs.Requests.{jitter_of}
use Rattle.setup_protocol.specs.State.{HaveLevels}
use Rattle.setup_protocol.specs.declared.request.Request.{Request}
use Rattle.call_script.specs.Accepted.{AreAccepted}
use Rattle.call_script.specs.Parts.{ArePlanned, PlanParts}
use Rattle.call_script.specs.Rules.{is_named}
use Rattle.call_script.specs.declared.entries.RequestEntry.{RequestEntry}
use Rattle.run_record.specs.SmallRows.{AreSmall}
use Rattle.run_record.specs.declared.rows.HopRow.{HopRow}
use Rattle.scenario_reader.specs.AuditKept.{IsAuditDraft, IsPlaced, KeepsTold, levels_given}
use Rattle.scenario_reader.specs.AuditLines.{Acceptance, acceptance_in, are_level_fields, are_within, channel_in, is_level_field, levels_told, tells_acceptance}
use Rattle.scenario_reader.specs.AuditReading.{AuditSaid, audit_said, is_header, report_line, with_levels}
use Rattle.scenario_reader.specs.Decimal.{is_number, value_of}
use Rattle.scenario_reader.specs.Drafts.{Said, is_complete, parts_said, request_named}
use Rattle.scenario_reader.specs.Causes.{Judges}
use Rattle.scenario_reader.specs.Fields.{fields_of}
use Rattle.scenario_reader.specs.Forms.{name_rule, number_rule}
use Rattle.scenario_reader.specs.declared.cause.LineCause.{LineCause}
use Rattle.scenario_reader.specs.declared.audit.place.Section.{Section}
use Rattle.scenario_reader.specs.declared.audit.place.Section.TheVariants as place

-- ---- the levels of a line

-- a field that passes the rule of a number is within its range
pub number-within : (low high : ℕ) (field : List ℕ) → is_none (number_rule low high field) ≡ true
    → (low ≤ value_of field) × (value_of field ≤ high)
number-within low high field passes = by (is_number field) (nat_le low (value_of field) && nat_le (value_of field) high) refl refl passes where
  by : (number range : Bool) → is_number field ≡ number → (nat_le low (value_of field) && nat_le (value_of field) high) ≡ range
      → is_none (number_rule low high field) ≡ true → (low ≤ value_of field) × (value_of field ≤ high)
  by false range number is passes = (let none = rw number at passes in cc)
  by true false number is passes = (let none = rw (number, is) at passes in cc)
  by true true number is passes = (let both = and_parts (nat_le low (value_of field)) (nat_le (value_of field) high) is in (leb-true low (value_of field) both.0, leb-true (value_of field) high both.1))

pub level-is : (hop : Hop) (field : List ℕ) → is_level_field hop field ≡ true → IsLevelOf hop (value_of field)
level-is hop field level = (let range = number-within 1 (length hop.bounds) field level in record { least = range.0; most = range.1 })

fields-are : (hops : List Hop) (fields : List (List ℕ)) → are_level_fields hops fields ≡ true
    → AreLevels hops (map value_of fields) × (length (map value_of fields) ≡ length hops)
unfolding AreLevels
fields-are [] [] are = (tt, refl)
fields-are [] (field ∷ fields) are = cc
fields-are (hop ∷ hops) [] are = cc
fields-are (hop ∷ hops) (field ∷ fields) are =
    let both = and_parts (is_level_field hop field) (are_level_fields hops fields) are in
    let rest = fields-are hops fields both.1 in
    ((level-is hop field both.0, rest.0), omega (arith, rest.1))

-- so a line that tells levels for each hop has levels of the route
pub fields-have : (hops : List Hop) (fields : List (List ℕ)) → are_level_fields hops (drop 5 fields) ≡ true
    → HaveLevels hops (levels_told fields)
fields-have hops fields are = (let both = fields-are hops (drop 5 fields) are in record { are_levels = both.0; whole = both.1 })

-- where the destination denies nothing, the sum and the last bound are within what was asked for
undenied : (hops : List Hop) (levels : List ℕ) (delay : ℕ) (jitter : Option ℕ) → is_none (denial_of hops levels delay jitter) ≡ true
    → (delay_over hops levels ≤ delay) × IsWithin jitter (bound_at_end hops levels)
undenied hops levels delay jitter none = elim (cases_Bool (nat_lt delay (delay_over hops levels))) [
  | inl over ↦ absurd (let clash = rw over at none in cc)
  | inr within ↦ (ltb-false delay (delay_over hops levels) within, last jitter (bound_at_end hops levels) (rw within at none))
]
  where
    last : (jitter : Option ℕ) (bound : ℕ) → is_none (jitter_denial bound jitter) ≡ true → IsWithin jitter bound
    last None bound none = λ most is. cc
    last (Some limit) bound none = elim (cases_Bool (nat_lt limit bound)) [
      | inl over ↦ absurd (let clash = rw over at none in cc)
      | inr within ↦ (λ most is. let same = same_Some limit most is in omega (arith, same, ltb-false limit bound within))
    ]

-- levels of the route that are within what a request asks for keep it
pub within-keeps : (request : Request) (levels : List ℕ) (sum : ℕ) → HaveLevels request.route levels
    → are_within request levels sum ≡ true → KeepsRequest request levels (delay_over request.route levels)
within-keeps request levels sum have within =
    let test = and_parts (nat_eq sum (delay_over request.route levels)) (is_none (denial_of request.route levels request.delay (jitter_of request.control))) within in
    let bounds = undenied request.route levels request.delay (jitter_of request.control) test.1 in
    record { have_levels = have; in_time = bounds.0; in_jitter = bounds.1 }

-- ---- the request of a line

-- a request that is named stands at the number of its channel
pub request-stands : (parts : PlanParts) (name : List ℕ) (found : Option RequestEntry) → ArePlanned parts
    → found ≡ request_named parts.requests name
    → IfSome found (λ entry. slice_get parts.requests (channel_number entry.request.chan) ≡ Some entry)
request-stands parts name None planned is = tt
request-stands parts name (Some entry) planned is =
    let test = λ (r : RequestEntry). is_named name r.name in
    let n = position_or_len (λ (r : RequestEntry). is_named name r.name) parts.requests in
    let there : slice_get parts.requests n ≡ Some entry = sym (find_at (λ (r : RequestEntry). is_named name r.name) parts.requests)
    ∙ sym is in
    ap (slice_get parts.requests) (planned.requests n entry there) ∙ there

-- ---- what is kept

pub scenario-kept : (said : Said) (rows : List HopRow) → AreSmall rows → IsAuditDraft (audit_said said place.Scenario [] rows)
scenario-kept said rows small = record { placed = refl; keep = λ c entry levels there told. cc; small = small }

none-told : (count c : ℕ) (levels : List ℕ) → slice_get (replicate {A = Option (List ℕ)} count None) c ≡ Some (Some levels) → ⊥
none-told zero c levels told = cc
none-told (suc count) zero levels told = cc
none-told (suc count) (suc c) levels told = none-told count c levels told

length-none : (count : ℕ) → length (replicate {A = Option (List ℕ)} count None) ≡ count
length-none zero = refl
length-none (suc count) = (let rest = length-none count in omega (arith, rest))

pub report-kept : (said : Said) (rows : List HopRow) → is_complete said ≡ true → AreSmall rows
    → IsAuditDraft (audit_said said place.Report (replicate (length said.requests) None) rows)
report-kept said rows complete small = record {
  placed = (complete, length-none (length said.requests));
  keep = λ c entry levels there told. absurd (none-told (length said.requests) c levels told);
  small = small;
}

-- of a list with one place set, what stands at a place
set-told : (items : List (Option (List ℕ))) (n c : ℕ) (new levels : List ℕ) → slice_get (set items n (Some new)) c ≡ Some (Some levels)
    → ((c ≡ n) × (levels ≡ new)) ⊎ (slice_get items c ≡ Some (Some levels))
set-told [] n c new levels told = inr told
set-told (item ∷ items) zero zero new levels told = inl (refl, sym (same_Some new levels (same_Some (Some new) (Some levels) told)))
set-told (item ∷ items) zero (suc c) new levels told = inr told
set-told (item ∷ items) (suc n) zero new levels told = inr told
set-told (item ∷ items) (suc n) (suc c) new levels told = on (set-told items n c new levels told) where
  on : ((c ≡ n) × (levels ≡ new)) ⊎ (slice_get items c ≡ Some (Some levels))
      → ((suc c ≡ suc n) × (levels ≡ new)) ⊎ (slice_get items c ≡ Some (Some levels))
  on (inl same) = inl (ap suc same.0, same.1)
  on (inr other) = inr other

-- what a line tells of a request is kept with what was told of the others
pub told-kept : (said : Said) (now : Section) (levels : List (Option (List ℕ))) (rows : List HopRow) (told : Acceptance)
    → now ≡ place.Report → IsAuditDraft (audit_said said now levels rows) → KeepsTold said.requests told
    → IsAuditDraft (audit_said said now (set levels told.request (Some told.levels)) rows)
told-kept said now levels rows told at kept keeps = record {
  placed = by now at kept.placed;
  keep = λ c entry given there found. on c entry given there (set-told levels told.request c told.levels given found);
  small = kept.small;
}
  where
    by : (now : Section) → now ≡ place.Report → IsPlaced now (audit_said said now levels rows)
        → IsPlaced now (audit_said said now (set levels told.request (Some told.levels)) rows)
    by place.Scenario at placed = cc
    by place.Report at placed = (placed.0, length-set levels told.request (Some told.levels) ∙ placed.1)
    by place.Table at placed = cc

    on : (c : ℕ) (entry : RequestEntry) (given : List ℕ) → slice_get said.requests c ≡ Some entry
        → ((c ≡ told.request) × (given ≡ told.levels)) ⊎ (slice_get levels c ≡ Some (Some given))
        → KeepsRequest entry.request given (delay_over entry.request.route given)
    on c entry given there (inr other) = kept.keep c entry given there other
    on c entry given there (inl same) = rw same.1 (keeps entry (ap (slice_get said.requests) (sym same.0) ∙ there))

-- no levels at all, as lists of their numbers
pub none-given : (items : List (Option Levels)) (n count : ℕ) → items ≡ replicate {A = Option Levels} n None → n ≡ count
    → levels_given items ≡ replicate {A = Option (List ℕ)} count None
none-given items n count are same = rw (are, same) (by count) where
  by : (count : ℕ) → levels_given (replicate {A = Option Levels} count None) ≡ replicate {A = Option (List ℕ)} count None
  by zero = refl
  by (suc count) = ap (λ (rest : List (Option (List ℕ))). None ∷ rest) (by count)

-- the header of the table leaves what is kept
pub table-kept : (said : Said) (levels : List (Option (List ℕ))) (rows : List HopRow)
    → IsAuditDraft (audit_said said place.Report levels rows) → IsAuditDraft (audit_said said place.Table levels rows)
table-kept said levels rows kept = record { placed = kept.placed; keep = kept.keep; small = kept.small }

-- from `report` on there is one entry a request
pub report-count : (read : AuditSaid) → IsAuditDraft read → read.place ≡ place.Report → length read.levels ≡ length read.said.requests
report-count read kept at = by read.place kept.placed at where
  by : (now : Section) → IsPlaced now read → now ≡ place.Report → length read.levels ≡ length read.said.requests
  by place.Scenario placed at = cc
  by place.Report placed at = placed.1
  by place.Table placed at = cc

-- what is told of levels is told of their numbers
given-at : (levels : List (Option Levels)) (c : ℕ) (given : Levels) → slice_get levels c ≡ Some (Some given)
    → slice_get (levels_given levels) c ≡ Some (Some (levels_of given))
given-at [] c given at = cc
given-at (one ∷ levels) zero given at = ap (λ (o : Option Levels). Some (option_map levels_of o)) (same_Some one (Some given) at)
given-at (one ∷ levels) (suc c) given at = given-at levels c given at

-- so they may be audited with
pub accepted-from : (plan : PlanParts) (levels : List (Option Levels)) (read : AuditSaid) → IsAuditDraft read → read.place ≡ place.Table
    → plan ≡ parts_said read.said → levels_given levels ≡ read.levels → AreAccepted plan levels
accepted-from plan levels read kept at is given =
    let count = by read.place kept.placed at in
    let requests : plan.requests ≡ read.said.requests = ap (λ (p : PlanParts). p.requests) is in
    record {
      count = omega (arith, ap length given, length-map levels (option_map levels_of), count, ap length requests);
      keep = λ c entry one there told. kept.keep c entry (levels_of one) (ap (λ (rs : List RequestEntry). slice_get rs c) (sym requests) ∙ there) (ap (λ (ls : List (Option (List ℕ))). slice_get ls c) (sym given) ∙ given-at levels c one told);
    }
  where
    by : (now : Section) → IsPlaced now read → now ≡ place.Table → length read.levels ≡ length read.said.requests
    by place.Scenario placed at = cc
    by place.Report placed at = cc
    by place.Table placed at = placed.1

-- ---- what a line of a report comes to

pub report-told : (read after : AuditSaid) (line : List ℕ) (told : Acceptance) → is_header line ≡ false → tells_acceptance line ≡ true
    → Some told ≡ acceptance_in read.said.requests read.levels (fields_of line)
    → after ≡ record read { levels = set read.levels told.request (Some told.levels) } → report_line read line ≡ Ok after
report-told read after line told header tells is same = rw (header, tells) (ap (with_levels read) (sym is) ∙ ap Ok (sym same))

-- ---- a name that was read

named-field : (field name : List ℕ) (r : Result (List ℕ) LineCause) → Judges r (name_rule field) field → result_ok r ≡ Some name
    → (is_name field ≡ true) × (name ≡ field)
named-field field name (Ok read) judged is = (by (is_name field) refl judged.0, sym (same_Some read name is) ∙ judged.1) where
  by : (test : Bool) → is_name field ≡ test → name_rule field ≡ None → is_name field ≡ true
  by true test passes = test
  by false test passes = (let clash = rw test at passes in cc)
named-field field name (Err cause) judged is = cc

pub channel-some : (requests : List RequestEntry) (field name : List ℕ) (r : Result (List ℕ) LineCause) (entry : RequestEntry)
    → Judges r (name_rule field) field → result_ok r ≡ Some name → request_named requests name ≡ Some entry
    → channel_in requests field ≡ Some entry.request.chan
channel-some requests field name r entry judged read found =
    let named = named-field field name r judged read in
    rw (named.0, sym named.1, found) refl

pub channel-none : (requests : List RequestEntry) (field name : List ℕ) (r : Result (List ℕ) LineCause) → Judges r (name_rule field) field
    → result_ok r ≡ Some name → request_named requests name ≡ None → channel_in requests field ≡ None
channel-none requests field name r judged read found =
    let named = named-field field name r judged read in
    rw (named.0, sym named.1, found) refl
