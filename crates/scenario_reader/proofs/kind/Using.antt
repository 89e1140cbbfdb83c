-- What the lines of operations have in common: the request that one names, its packets, and the load; read from a line, and written in a plan.
use Rattle.std.proofs.Common.{ℕ, ◌≡◌, ◌+◌, ◌≤◌, true, false, not, ◌&&◌, ◌||◌, nat_le, List, [], ◌∷◌, length, Some, None, sym, ◌∙◌, ap, subst, arith}
use Rattle.std.proofs.lemmas.Bool.{le-leb, leb-true, and_from, not-true, or_parts, not_from_false}
use Rattle.std.specs.List.{slice_get, list_any}
use Rattle.std.specs.Prelude.{option_map}
use Rattle.net_units.specs.Limits.{is_within}
use Rattle.net_units.specs.Numbers.{channel_number}
use Rattle.net_units.specs.Text.{is_name}
use Rattle.net_units.specs.declared.numbers.ChanNo.{ChanNo}
use Rattle.call_script.specs.Growing.{HasNotDone, IsOpenedThere, last_ops}
use Rattle.call_script.specs.Rules.{load_in, packets_in_range, is_in}
use Rattle.call_script.specs.declared.entries.RequestEntry.{RequestEntry}
use Rattle.call_script.specs.declared.roles.Role.TheVariants as role
use Rattle.call_script.proofs.RulesAreKept.{packets-fit}
use Rattle.line_forms.specs.Fitting.{IsInRange, FitsForm, FitParts}
use Rattle.line_forms.specs.Known.{KnownNames}
use Rattle.line_forms.specs.Values.{number_at}
use Rattle.line_forms.specs.declared.form.Part.{Part}
use Rattle.line_forms.specs.declared.known.Set.TheVariants as set
use Rattle.line_forms.specs.declared.slot.Slot.TheVariants as slot
use Rattle.line_forms.specs.declared.value.FieldValue.{FieldValue}
use Rattle.line_forms.specs.declared.value.FieldValue.TheVariants as value
use Rattle.line_forms.specs.declared.value.Values.{Values}
use Rattle.line_forms.proofs.FitsByPlace.{slot_at, number-fits, known-fits}
use Rattle.scenario_reader.specs.Causes.{unless}
use Rattle.scenario_reader.specs.Drafts.{Said, parts_said, own_request, is_closed, is_left}
use Rattle.scenario_reader.specs.Kept.{IsDraft}
use Rattle.scenario_reader.specs.Known.{channel_of, names_said}
use Rattle.scenario_reader.specs.declared.cause.LineCause.TheVariants as cause
use Rattle.scenario_reader.specs.line.Using.{SaysOwn, packets_end, is_closed_request, is_over_request, load_rule}
use Rattle.scenario_reader.proofs.Finding.NamedByPlace.{own-is}
use Rattle.scenario_reader.proofs.Passing.OwnOpenings.{own-opened}
use Rattle.scenario_reader.proofs.Passing.PassingLines.{made-some, unless-passes}
use Rattle.scenario_reader.proofs.Back.RulesBack.{unless-holds}

-- ---- what a line says

-- it stands at its number
pub own-at : (said : Said) (name : List ℕ) (entry : RequestEntry) → IsDraft said → own_request said name ≡ Some entry → slice_get said.requests (channel_number entry.request.chan) ≡ Some entry
own-at said name entry draft own =
    let is = own-is said name entry own in
    subst (λ n. slice_get said.requests n ≡ Some entry) (sym (draft.keeps.planned.requests is.place entry is.found)) is.found

-- the request of the last caller that a field names
pub record IsOwnAt (said : Said) (ones : List FieldValue) (k : ℕ) : Type 0 where
  pub name : List ℕ
  pub entry : RequestEntry
  pub own : own_request said name ≡ Some entry
  pub there : slice_get said.requests (channel_number entry.request.chan) ≡ Some entry
  pub at : slice_get said.requests (number_at ones k) ≡ Some entry

pub own-there : (said : Said) (ones : List FieldValue) (k : ℕ) → IsDraft said → SaysOwn said ones k → IsOwnAt said ones k
own-there said ones k draft says =
    let made = made-some channel_of (own_request said says.name) (number_at ones k) says.known in
    let there = own-at said says.name made.0 draft made.1 in
    record { name = says.name; entry = made.0; own = made.1; there = there; at = subst (λ (n : ℕ). slice_get said.requests n ≡ Some made.0) made.2 there }

pub own-says : (said : Said) (form : List Part) (values : Values) (k : ℕ) → FitsForm (names_said said) form values → slot_at form k ≡ Some (slot.Known set.OwnRequests) → SaysOwn said values.ones k
own-says said form values k fits e = (let known = known-fits (names_said said) form values k set.OwnRequests fits e in record { name = known.name; known = known.known })

pub own-said : (said : Said) (form : List Part) (values : Values) (k : ℕ) → IsDraft said → FitsForm (names_said said) form values → slot_at form k ≡ Some (slot.Known set.OwnRequests) → IsOwnAt said values.ones k
own-said said form values k draft fits e = own-there said values.ones k draft (own-says said form values k fits e)

-- the packets of a line are in their ranges
within-range : (low high n : ℕ) → IsInRange low high n → is_within low high n ≡ true
within-range low high n is = and_from (nat_le low n) (nat_le n high) (le-leb low n is.least) (le-leb n high is.most)

pub packets-said : (names : KnownNames) (form : List Part) (values : Values) → FitsForm names form values → slot_at form 1 ≡ Some (slot.Number 1 262144) → slot_at form 2 ≡ Some (slot.Number 1 1048576) → slot_at form 3 ≡ Some (slot.Number 1 65536)
    → packets_in_range (number_at values.ones 1) (number_at values.ones 2) (number_at values.ones 3) ≡ true
packets-said names form values fits one two three =
    and_from (is_within 1 262144 (number_at values.ones 1) && is_within 1 1048576 (number_at values.ones 2)) (is_within 1 65536 (number_at values.ones 3))
    (and_from (is_within 1 262144 (number_at values.ones 1)) (is_within 1 1048576 (number_at values.ones 2))
    (within-range 1 262144 (number_at values.ones 1) (number-fits names form values 1 1 262144 fits one)) (within-range 1 1048576 (number_at values.ones 2) (number-fits names form values 2 1 1048576 fits two)))
    (within-range 1 65536 (number_at values.ones 3) (number-fits names form values 3 1 65536 fits three))

-- a request of the last caller that isn't closed may be used
pub opened-channel : (said : Said) (name : List ℕ) (entry : RequestEntry) → IsDraft said → 1 ≤ length said.callers → own_request said name ≡ Some entry
    → unless (not (is_closed_request said (Some entry))) cause.Closed ≡ None → IsOpenedThere (parts_said said) entry.request.chan
opened-channel said name entry draft some own rule =
    let is = own-is said name entry own in
    record {
      opened = own-opened said.requests said.callers is.place entry draft.keeps.planned.openings is.found some is.by;
      unclosed = not-true (is_closed said entry.request.chan) (unless-passes (not (is_closed said entry.request.chan)) cause.Closed rule);
    }

-- and one that no move has left either
pub record IsKeptOpen (said : Said) (entry : RequestEntry) : Type 0 where
  pub channel : IsOpenedThere (parts_said said) entry.request.chan
  pub unleft : HasNotDone role.Leaves (parts_said said) entry.request.chan

pub still-open : (said : Said) (name : List ℕ) (entry : RequestEntry) → IsDraft said → 1 ≤ length said.callers → own_request said name ≡ Some entry → unless (not (is_over_request said (Some entry))) cause.Closed ≡ None → IsKeptOpen said entry
still-open said name entry draft some own rule =
    let is = own-is said name entry own in
    let over = not-true (is_closed said entry.request.chan || is_left said entry.request.chan) (unless-passes (not (is_over_request said (Some entry))) cause.Closed rule) in
    let parts = or_parts (is_closed said entry.request.chan) (is_left said entry.request.chan) over in
    record {
      channel = record { opened = own-opened said.requests said.callers is.place entry draft.keeps.planned.openings is.found some is.by; unclosed = parts.0 };
      unleft = parts.1;
    }

-- a load that passes is within the limit
pub load-passes : (said : Said) (packets : ℕ) → load_rule said packets ≡ None → load_in said.requests said.callers + packets ≤ 262144
load-passes said packets e = leb-true (load_in said.requests said.callers + packets) 262144 (unless-passes (nat_le (load_in said.requests said.callers + packets) 262144) cause.Load e)

-- ---- the operations of a plan

pub record ArePackets (count gap size : ℕ) : Type 0 where
  pub count_least : 1 ≤ count
  pub count_most : count ≤ 262144
  pub gap_least : 1 ≤ gap
  pub gap_most : gap ≤ 1048576
  pub size_least : 1 ≤ size
  pub size_most : size ≤ 65536

pub are-packets : (count gap size : ℕ) → packets_in_range count gap size ≡ true → ArePackets count gap size
are-packets count gap size range =
    let fit = packets-fit count gap size range in
    record { count_least = fit.count_least; count_most = fit.count_most; gap_least = fit.gap_least; gap_most = fit.gap_most; size_least = fit.size_least; size_most = fit.size_most }

-- they fit the last fields of a line
pub packets-fit-line : (names : KnownNames) (before count gap size : ℕ) → ArePackets count gap size → FitParts names before packets_end (value.Number count ∷ value.Number gap ∷ value.Number size ∷ []) []
packets-fit-line names before count gap size are =
    let c = are.count_most in
    let g = are.gap_most in
    let s = are.size_most in
    (record { least = are.count_least; most = c; short = omega (arith, c) }, (record { least = are.gap_least; most = g; short = omega (arith, g) }, (record { least = are.size_least; most = s; short = omega (arith, s) }, tt)))

pub load-back : (said : Said) (packets : ℕ) → load_in said.requests said.callers + packets ≤ 262144 → load_rule said packets ≡ None
load-back said packets within = unless-holds (nat_le (load_in said.requests said.callers + packets) 262144) cause.Load (le-leb (load_in said.requests said.callers + packets) 262144 within)

-- the request of this channel is found by its name, as one of the last caller that isn't closed
pub record IsOpenHere (said : Said) (chan : ChanNo) (entry : RequestEntry) : Type 0 where
  pub name : is_name entry.name ≡ true
  pub own : own_request said entry.name ≡ Some entry
  pub same : chan ≡ entry.request.chan
  pub at : slice_get said.requests (channel_number entry.request.chan) ≡ Some entry
  pub unclosed : list_any (is_in role.Closes (channel_number chan)) (last_ops said.callers) ≡ false

-- so a field that names it fits
pub own-fits : (said : Said) (chan : ChanNo) (entry : RequestEntry) → IsOpenHere said chan entry → (is_name entry.name ≡ true) × (option_map channel_of (own_request said entry.name) ≡ Some (channel_number entry.request.chan))
own-fits said chan entry is = (is.name, ap (option_map channel_of) is.own)

pub not-closed : (said : Said) (chan : ChanNo) (entry : RequestEntry) → IsOpenHere said chan entry → unless (not (is_closed_request said (Some entry))) cause.Closed ≡ None
not-closed said chan entry is =
    unless-holds (not (is_closed said entry.request.chan)) cause.Closed
    (not_from_false (is_closed said entry.request.chan) (subst (λ (c : ChanNo). list_any (is_in role.Closes (channel_number c)) (last_ops said.callers) ≡ false) is.same is.unclosed))

-- nor left by a move
abbrev pub IsUnleft : Said → ChanNo → Type 0
IsUnleft said chan = list_any (is_in role.Leaves (channel_number chan)) (last_ops said.callers) ≡ false

pub not-over : (said : Said) (chan : ChanNo) (entry : RequestEntry) → IsOpenHere said chan entry → IsUnleft said chan → unless (not (is_over_request said (Some entry))) cause.Closed ≡ None
not-over said chan entry is unleft =
    let closed : is_closed said entry.request.chan ≡ false = subst (λ (c : ChanNo). list_any (is_in role.Closes (channel_number c)) (last_ops said.callers) ≡ false) is.same is.unclosed in
    let left : is_left said entry.request.chan ≡ false = subst (IsUnleft said) is.same unleft in
    unless-holds (not (is_closed said entry.request.chan || is_left said entry.request.chan)) cause.Closed
    (not_from_false (is_closed said entry.request.chan || is_left said entry.request.chan) (ap (λ b. b || is_left said entry.request.chan) closed ∙ left))
