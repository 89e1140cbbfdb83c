-- The line of a quota: what one that passes says may be added, and that of a plan's quota says it.
use Rattle.std.proofs.Common.{◌≡◌, zero, suc, ◌≤◌, ◌<◌, true, false, ◌&&◌, nat_eq, nat_le, List, [], ◌∷◌, ◌++◌, length, map, take, drop, get_or, Option, Some, Ok, Result, refl, sym, ◌∙◌, ap, ap₂, subst, arith}
use Rattle.std.proofs.lemmas.Bool.{le-leb, leb-true, eqb-true, eq-eqb, and_parts, and_from, not_from_false, not-true}
use Rattle.std.proofs.lemmas.List.{length-append, length-drop, length-map, length-take-le}
use Rattle.std.proofs.lemmas.List.Folds.{list_all-append}
use Rattle.std.proofs.lemmas.Option.{same_Some, slice_get_within}
use Rattle.std.specs.List.{list_all, slice_get}
use Rattle.std.specs.Prelude.{ℕ, slice_index, position}
use Rattle.net_units.specs.Numbers.{link_number}
use Rattle.net_units.specs.Text.{is_name}
use Rattle.net_units.proofs.BoundsInOrder.{bounds-parts}
use Rattle.link_steps.specs.declared.quota.Quota.{Quota}
use Rattle.call_script.specs.Groups.{has_group, is_of_new_group, quota_in_range, quotas_fit}
use Rattle.call_script.specs.Parts.{LeavesUnused}
use Rattle.call_script.specs.Rules.{is_named, link_names}
use Rattle.call_script.specs.Versions.{has_groups}
use Rattle.call_script.specs.declared.entries.LinkEntry.{LinkEntry}
use Rattle.call_script.specs.declared.version.Version.{Version}
use Rattle.line_forms.specs.Fitting.{FitsForm, AllFit}
use Rattle.line_forms.specs.Known.{KnownNames}
use Rattle.line_forms.specs.Values.{number_in, number_at}
use Rattle.line_forms.specs.Writing.{fields_with}
use Rattle.line_forms.specs.declared.known.Set.TheVariants as set
use Rattle.line_forms.specs.declared.slot.Slot.TheVariants as slot
use Rattle.line_forms.specs.declared.value.FieldValue.{FieldValue}
use Rattle.line_forms.specs.declared.value.FieldValue.TheVariants as value
use Rattle.line_forms.specs.declared.value.Values.{Values}
use Rattle.line_forms.specs.declared.word.Keyword.TheVariants as word
use Rattle.line_forms.proofs.FitsByPlace.{number-fits, known-fits, once-fits, run-fits-form}
use Rattle.scenario_reader.specs.BothWays.{HasEightLoads}
use Rattle.scenario_reader.specs.Causes.{unless, stated}
use Rattle.scenario_reader.specs.Drafts.{Said, with_item}
use Rattle.scenario_reader.specs.Kept.{IsDraft}
use Rattle.scenario_reader.specs.Known.{is_paired, names_said}
use Rattle.scenario_reader.specs.declared.cause.LineCause.{LineCause}
use Rattle.scenario_reader.specs.declared.cause.LineCause.TheVariants as cause
use Rattle.scenario_reader.specs.declared.item.Item.{Item}
use Rattle.scenario_reader.specs.declared.item.Item.TheVariants as item
use Rattle.scenario_reader.specs.line.Group.{group_name, values_if}
use Rattle.scenario_reader.specs.line.Quota.{IsQuotaSmall, quota_form, in_eight, loads_said, quota_of, is_fit_quota, quota_for, quota_says, load_values, quota_values, quota_fields}
use Rattle.scenario_reader.specs.line.Table.{is_before_callers, MayAdd}
use Rattle.scenario_reader.proofs.Finding.NamedByPlace.{link-known}
use Rattle.scenario_reader.proofs.Passing.PassingLines.{unless-passes, stated-ok}
use Rattle.scenario_reader.proofs.Passing.ReadBefore.{stands-before, said-groups}
use Rattle.scenario_reader.proofs.Passing.ReadByForms.{first-form, line-reads}
use Rattle.scenario_reader.proofs.Back.RulesBack.{unless-holds, stated-back}
use Rattle.scenario_reader.proofs.Back.SaysBack.{Reads}
use Rattle.scenario_reader.proofs.kind.Group.{IsGroupHere, group-there}

-- ---- eight loads

-- those of a line are in their range, and so are those after them
loads-range : (names : KnownNames) (before : ℕ) (run : List FieldValue) → AllFit names before (slot.Number 0 1048576) run → list_all (λ load. nat_le load 1048576) (map number_in run) ≡ true
loads-range names before [] fit = refl
loads-range names before (value.Number load ∷ run) fit =
    and_from (nat_le load 1048576) (list_all (λ load. nat_le load 1048576) (map number_in run)) (le-leb load 1048576 fit.0.most) (loads-range names before run fit.1)
loads-range names before (v ∷ run) fit = absurd fit.0

zeros-range : (n : ℕ) (zeros : List ℕ) → list_all (λ load. nat_le load 1048576) zeros ≡ true → list_all (λ load. nat_le load 1048576) (drop n zeros) ≡ true
zeros-range zero zeros all = all
zeros-range (suc n) [] all = refl
zeros-range (suc n) (z ∷ zeros) all = zeros-range n zeros (and_parts (nat_le z 1048576) (list_all (λ load. nat_le load 1048576) zeros) all).1

eight-range : (numbers : List ℕ) → list_all (λ load. nat_le load 1048576) numbers ≡ true → list_all (λ load. nat_le load 1048576) (in_eight numbers) ≡ true
eight-range numbers all =
    list_all-append (λ load. nat_le load 1048576) numbers (drop (length numbers) (0 ∷ 0 ∷ 0 ∷ 0 ∷ 0 ∷ 0 ∷ 0 ∷ 0 ∷ []))
    ∙ and_from (list_all (λ load. nat_le load 1048576) numbers) _ all (zeros-range (length numbers) (0 ∷ 0 ∷ 0 ∷ 0 ∷ 0 ∷ 0 ∷ 0 ∷ 0 ∷ []) refl)

-- only zeros
abbrev pub AreZeros : List ℕ → Type 0
AreZeros [] = Unit {0}
AreZeros (z ∷ zeros) = (z ≡ 0) × AreZeros zeros

zeros-at : (zeros : List ℕ) (k : ℕ) → AreZeros zeros → slice_index zeros k ≡ 0
zeros-at [] k are = refl
zeros-at (z ∷ zeros) zero are = are.0
zeros-at (z ∷ zeros) (suc k) are = zeros-at zeros k are.1

zeros-after : (n : ℕ) (zeros : List ℕ) → AreZeros zeros → AreZeros (drop n zeros)
zeros-after zero zeros are = are
zeros-after (suc n) [] are = tt
zeros-after (suc n) (z ∷ zeros) are = zeros-after n zeros are.1

-- after these numbers stand zeros
after-numbers : (numbers zeros : List ℕ) (k : ℕ) → AreZeros zeros → length numbers ≤ k → slice_index (numbers ++ zeros) k ≡ 0
after-numbers [] zeros k are past = zeros-at zeros k are
after-numbers (n ∷ numbers) zeros zero are past = absurd (omega (arith, past))
after-numbers (n ∷ numbers) zeros (suc k) are past = after-numbers numbers zeros k are (omega (arith, past))

pub eight-unused : (bounds numbers : List ℕ) (quota : Quota) → quota.levels ≡ in_eight numbers → length numbers ≡ length bounds → LeavesUnused bounds quota
eight-unused bounds numbers quota levels same k past =
    ap (λ ls. slice_index ls k) levels
    ∙ after-numbers numbers (drop (length numbers) (0 ∷ 0 ∷ 0 ∷ 0 ∷ 0 ∷ 0 ∷ 0 ∷ 0 ∷ [])) k (zeros-after (length numbers) (0 ∷ 0 ∷ 0 ∷ 0 ∷ 0 ∷ 0 ∷ 0 ∷ 0 ∷ []) (refl, (refl, (refl, (refl, (refl, (refl, (refl, (refl, tt))))))))) (omega (arith, same, past))

-- ---- the quota of a line

-- numbers of which those from a place on are zeros are those before it, and zeros
filled : (n : ℕ) (levels zeros : List ℕ) → length levels ≡ length zeros → AreZeros zeros → ((k : ℕ) → n ≤ k → slice_index levels k ≡ 0) → take n levels ++ drop n zeros ≡ levels
filled zero [] [] same are unused = refl
filled (suc n) [] [] same are unused = refl
filled n [] (z ∷ zeros) same are unused = cc
filled n (l ∷ levels) [] same are unused = cc
filled zero (l ∷ levels) (z ∷ zeros) same are unused =
    ap₂ (λ x xs. x ∷ xs) (are.0 ∙ sym (unused 0 (omega arith))) (filled zero levels zeros (omega (arith, same)) are.1 (λ k from. unused (suc k) (omega arith)))
filled (suc n) (l ∷ levels) (z ∷ zeros) same are unused = ap (λ xs. l ∷ xs) (filled n levels zeros (omega (arith, same)) are.1 (λ k from. unused (suc k) (omega (arith, from))))

eight-again : (n : ℕ) (levels : List ℕ) → length levels ≡ 8 → n ≤ 8 → ((k : ℕ) → n ≤ k → slice_index levels k ≡ 0) → in_eight (take n levels) ≡ levels
eight-again n levels eight few unused =
    ap (λ (m : ℕ). take n levels ++ drop m (0 ∷ 0 ∷ 0 ∷ 0 ∷ 0 ∷ 0 ∷ 0 ∷ 0 ∷ [])) (length-take-le n levels (omega (arith, eight, few)))
    ∙ filled n levels (0 ∷ 0 ∷ 0 ∷ 0 ∷ 0 ∷ 0 ∷ 0 ∷ 0 ∷ []) eight (refl, (refl, (refl, (refl, (refl, (refl, (refl, (refl, tt)))))))) unused

-- the first of numbers in their range are in it
taken-small : (n : ℕ) (levels : List ℕ) → list_all (λ load. nat_le load 1048576) levels ≡ true → (i : ℕ) → i < length (take n levels) → get_or (take n levels) i 0 ≤ 1048576
taken-small zero levels all i inside = absurd (omega (arith, inside))
taken-small (suc n) [] all i inside = absurd (omega (arith, inside))
taken-small (suc n) (l ∷ levels) all zero inside = leb-true l 1048576 (and_parts (nat_le l 1048576) (list_all (λ load. nat_le load 1048576) levels) all).0
taken-small (suc n) (l ∷ levels) all (suc i) inside = taken-small n levels (and_parts (nat_le l 1048576) (list_all (λ load. nat_le load 1048576) levels) all).1 i (omega (arith, inside))

abbrev eight-zeros : List ℕ
eight-zeros = 0 ∷ 0 ∷ 0 ∷ 0 ∷ 0 ∷ 0 ∷ 0 ∷ 0 ∷ []

eight-loads : (numbers : List ℕ) → length numbers ≤ 8 → length (in_eight numbers) ≡ 8
eight-loads numbers few =
    omega (arith, few, length-append numbers (drop (length numbers) eight-zeros), length-drop (length numbers) eight-zeros)

-- numbers that the values of a run say again
numbers-said : (numbers : List ℕ) → map number_in (map value.Number numbers) ≡ numbers
numbers-said [] = refl
numbers-said (n ∷ numbers) = ap (λ (rest : List ℕ). n ∷ rest) (numbers-said numbers)

-- ---- what a line says may be added

-- the quota that it says, of a link that is there
pub record SaysQuota (said : Said) (values : Values) (what : Item) : Type 0 where
  pub link : LinkEntry
  pub at : slice_get said.links (number_at values.ones 0) ≡ Some link
  pub fit : is_fit_quota (length values.run) (Some link) (quota_of values) ≡ true
  pub is : item.Quota link.shape.link (quota_of values) ≡ what

pub says-quota : (said : Said) (values : Values) (what : Item) → FitsForm (names_said said) quota_form values → quota_says said values ≡ Ok what → SaysQuota said values what
says-quota said values what fits says =
    let linked = known-fits (names_said said) quota_form values 0 set.Links fits refl in
    let there = link-known said.links linked.name (number_at values.ones 0) linked.known in
    let told : quota_for (Some there.entry) values ≡ Ok what = ap (λ (found : Option LinkEntry). quota_for found values) (sym there.at) ∙ says in
    let p = stated-ok (unless (is_fit_quota (length values.run) (Some there.entry) (quota_of values)) cause.Quota) (Some (item.Quota there.entry.shape.link (quota_of values))) what told in
    record {
      link = there.entry;
      at = there.at;
      fit = unless-passes (is_fit_quota (length values.run) (Some there.entry) (quota_of values)) cause.Quota p.0;
      is = same_Some (item.Quota there.entry.shape.link (quota_of values)) what p.1;
    }

pub quota-may : (version : Version) (said : Said) (values : Values) (what : Item) → IsDraft said → said.version ≡ Some version → (has_groups version && is_before_callers said) ≡ true
    → FitsForm (names_said said) quota_form values → quota_says said values ≡ Ok what → MayAdd said what
quota-may version said values what draft v stands fits says =
    let first = and_parts (has_groups version) (is_before_callers said) stands in
    let stand = stands-before version said v first.1 in
    let told = says-quota said values what fits says in
    let once = once-fits (names_said said) quota_form values 1 set.Groups fits refl in
    let group = number_at values.ones 1 in
    let there = group-there said.groups once.at.name group once.at.known in
    let buffer = number-fits (names_said said) quota_form values 2 0 262144 fits refl in
    let loads = run-fits-form (names_said said) quota_form values (slot.Number 0 1048576) fits refl in
    let none : has_group group told.link.quotas ≡ false = ap (λ (found : Option LinkEntry). is_paired found group) (sym told.at) ∙ once.unpaired in
    let both = and_parts (nat_eq (length values.run) (length told.link.shape.bounds)) (quotas_fit told.link.shape (told.link.quotas ++ quota_of values ∷ [])) told.fit in
    subst (MayAdd said) told.is (record {
      before = stand.before;
      share = record {
        first = stand.nobody;
        version = said-groups version said v first.0;
        link = told.link;
        linked = subst (λ (n : ℕ). slice_get said.links n ≡ Some told.link) (sym (draft.keeps.planned.links (number_at values.ones 0) told.link told.at)) told.at;
        there = and_from (nat_le 1 group) (nat_le group (length said.groups)) (le-leb 1 group there.least) (le-leb group (length said.groups) there.most);
        new = not_from_false (has_group group told.link.quotas) none;
        range = and_from (nat_le (number_at values.ones 2) 262144) (list_all (λ load. nat_le load 1048576) (loads_said values.run))
            (le-leb (number_at values.ones 2) 262144 buffer.most) (eight-range (map number_in values.run) (loads-range (names_said said) loads.before values.run loads.is.all));
        fit = both.1;
        unused = eight-unused told.link.shape.bounds (map number_in values.run) (quota_of values) refl
            (length-map values.run number_in ∙ eqb-true (length values.run) (length told.link.shape.bounds) both.0);
      };
    })

-- its numbers are small
loads-small : (names : KnownNames) (before : ℕ) (run : List FieldValue) → AllFit names before (slot.Number 0 1048576) run → (k : ℕ) → number_at run k ≤ 1048576
loads-small names before [] fit k = omega arith
loads-small names before (value.Number load ∷ run) fit zero = fit.0.most
loads-small names before (value.Number load ∷ run) fit (suc k) = loads-small names before run fit.1 k
loads-small names before (v ∷ run) fit k = absurd fit.0

pub quota_small : (said : Said) (values : Values) → length said.groups ≤ 4 → FitsForm (names_said said) quota_form values → IsQuotaSmall values
quota_small said values few fits =
    let once = once-fits (names_said said) quota_form values 1 set.Groups fits refl in
    let there = group-there said.groups once.at.name (number_at values.ones 1) once.at.known in
    let loads = run-fits-form (names_said said) quota_form values (slot.Number 0 1048576) fits refl in
    let most = there.most in
    record {
      group = omega (arith, few, most);
      buffer = (number-fits (names_said said) quota_form values 2 0 262144 fits refl).most;
      few = loads.is.few;
      loads = loads-small (names_said said) loads.before values.run loads.is.all;
    }

-- the link is there
pub link_there : (said : Said) (values : Values) → FitsForm (names_said said) quota_form values → number_at values.ones 0 < length said.links
link_there said values fits =
    let linked = known-fits (names_said said) quota_form values 0 set.Links fits refl in
    let there = link-known said.links linked.name (number_at values.ones 0) linked.known in
    slice_get_within said.links (number_at values.ones 0) there.entry there.at

-- and it has eight loads
pub eight-said : (said : Said) (values : Values) → FitsForm (names_said said) quota_form values → HasEightLoads (quota_of values)
eight-said said values fits =
    let loads = run-fits-form (names_said said) quota_form values (slot.Number 0 1048576) fits refl in
    let few = loads.is.few in
    eight-loads (map number_in values.run) (omega (arith, few, length-map values.run number_in))

-- ---- the quotas of a plan

-- one that may be next of its link
pub record IsNextQuota (said : Said) (entry : LinkEntry) (quota : Quota) : Type 0 where
  pub name : is_name entry.name ≡ true
  pub place : position (is_named entry.name) (link_names said.links) ≡ Some (link_number entry.shape.link)
  pub at : slice_get said.links (link_number entry.shape.link) ≡ Some entry
  pub group : IsGroupHere said.groups quota.group
  pub new : is_of_new_group entry.quotas quota ≡ true
  pub range : quota_in_range quota ≡ true
  pub fit : quotas_fit entry.shape (entry.quotas ++ quota ∷ []) ≡ true
  pub eight : length quota.levels ≡ 8
  pub unused : LeavesUnused entry.shape.bounds quota

loads-fit : (names : KnownNames) (before : ℕ) (loads : List ℕ) → ((i : ℕ) → i < length loads → get_or loads i 0 ≤ 1048576) → AllFit names before (slot.Number 0 1048576) (load_values loads)
loads-fit names before [] few = tt
loads-fit names before (load ∷ loads) few =
    let first = few 0 (omega arith) in
    (record { least = omega arith; most = first; short = omega (arith, first) }, loads-fit names before loads (λ i h. few (suc i) (omega (arith, h))))

-- what its line says
abbrev values_of : List (List ℕ) → LinkEntry → Quota → Values
values_of groups entry quota = record {
  ones = value.Known entry.name (link_number entry.shape.link) ∷ value.Known (group_name groups quota.group) quota.group ∷ value.Number quota.buffer ∷ [];
  run = load_values (take (length entry.shape.bounds) quota.levels);
}

record IsSaid (said : Said) (entry : LinkEntry) (quota : Quota) : Type 0 where
  same : quota_values said.groups entry quota ≡ values_of said.groups entry quota
  fits : FitsForm (names_said said) quota_form (values_of said.groups entry quota)
  again : quota_of (values_of said.groups entry quota) ≡ quota
  count : length (load_values (take (length entry.shape.bounds) quota.levels)) ≡ length entry.shape.bounds

is-said : (said : Said) (entry : LinkEntry) (quota : Quota) → IsNextQuota said entry quota → IsSaid said entry quota
is-said said entry quota is =
    let range = and_parts (nat_le quota.buffer 262144) (list_all (λ load. nat_le load 1048576) quota.levels) is.range in
    let buffer = leb-true quota.buffer 262144 range.0 in
    let b = bounds-parts entry.shape.bounds entry.shape.bounds_rise in
    let least = b.least in
    let most = b.most in
    let loads = take (length entry.shape.bounds) quota.levels in
    let long : length (take (length entry.shape.bounds) quota.levels) ≡ length entry.shape.bounds = length-take-le (length entry.shape.bounds) quota.levels (omega (arith, is.eight, most)) in
    let many : length (load_values (take (length entry.shape.bounds) quota.levels)) ≡ length entry.shape.bounds = length-map loads value.Number ∙ long in
    let none : has_group quota.group entry.quotas ≡ false = not-true (has_group quota.group entry.quotas) is.new in
    record {
      same = ap (λ (found : Option FieldValue). record { ones = value.Known entry.name (link_number entry.shape.link) ∷ (values_if found ++ value.Number quota.buffer ∷ []); run = load_values (take (length entry.shape.bounds) quota.levels) }) is.group.at;
      fits = (
        (is.name, is.place),
        (
          (is.group.name, is.group.found, ap (λ (found : Option LinkEntry). is_paired found quota.group) is.at ∙ none),
          (
            record { least = omega arith; most = buffer; short = omega (arith, buffer) },
            (
              record {
                least = omega (arith, many, least);
                few = omega (arith, many, most);
                all = loads-fit (names_said said) quota.buffer loads (taken-small (length entry.shape.bounds) quota.levels range.1);
              },
              tt,
            ),
          ),
        ),
      );
      again = ap (λ (levels : List ℕ). record { group = quota.group; buffer = quota.buffer; levels = levels })
          (ap in_eight (numbers-said loads) ∙ eight-again (length entry.shape.bounds) quota.levels is.eight most is.unused);
      count = many;
    }

-- what is said of a quota of the link
abbrev quota_with : ℕ → LinkEntry → Quota → Result Item LineCause
quota_with count entry quota = stated (unless (is_fit_quota count (Some entry) quota) cause.Quota) (Some (item.Quota entry.shape.link quota))

pub quota-reads : (version : Version) (said : Said) (entry : LinkEntry) (quota : Quota) → said.version ≡ Some version → (has_groups version && is_before_callers said) ≡ true → IsNextQuota said entry quota
    → Reads (quota_fields said.groups entry quota ∷ []) said (with_item (item.Quota entry.shape.link quota) said)
quota-reads version said entry quota v stands is =
    let told = is-said said entry quota is in
    let values = values_of said.groups entry quota in
    let fit : is_fit_quota (length values.run) (Some entry) quota ≡ true =
    and_from (nat_eq (length values.run) (length entry.shape.bounds)) (quotas_fit entry.shape (entry.quotas ++ quota ∷ [])) (eq-eqb (length values.run) (length entry.shape.bounds) told.count) is.fit in
    let says : quota_for (Some entry) values ≡ Ok (item.Quota entry.shape.link quota) =
    ap (λ (q : Quota). quota_with (length values.run) entry q) told.again ∙ stated-back (unless (is_fit_quota (length values.run) (Some entry) quota) cause.Quota) (Some (item.Quota entry.shape.link quota)) (item.Quota entry.shape.link quota)
    (unless-holds (is_fit_quota (length values.run) (Some entry) quota) cause.Quota fit) refl in
    subst (λ (vs : Values). Reads (fields_with quota_form vs ∷ []) said (with_item (item.Quota entry.shape.link quota) said)) (sym told.same)
    (line-reads version said word.Quota quota_form values (item.Quota entry.shape.link quota) (record {
      headed = v;
      stands = stands;
      is = refl;
      fits = told.fits;
      begins = refl;
      counts = refl;
      read = first-form (names_said said) quota_form [] values refl told.fits;
    }) (λ number. ap (λ (found : Option LinkEntry). quota_for found values) is.at ∙ says) (λ number. refl))
