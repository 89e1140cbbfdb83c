-- The line of a quota: quota LINK GROUP buffer U levels Q1 .. Qn. The group may have U units of the link's buffer, and at each level
-- the given part of its load. A group has at most one quota of a link. There are as many loads as the link has levels; and with this
-- quota those of the link leave room at each level for the blocking within its bound, and fit its buffer.
use Rattle.std.specs.Prelude.{ℕ, ◌≤◌, Bool, false, nat_eq, ◌&&◌, Option, Some, None, Result, List, [], ◌∷◌, ◌++◌, length, map, drop, take, option_map}
use Rattle.std.specs.List.{flat_map, slice_get}
use Rattle.net_units.specs.Limits.{most_bound, most_buffer}
use Rattle.net_units.specs.Numbers.{link_number}
use Rattle.net_units.specs.declared.numbers.LinkNo.{LinkNo}
use Rattle.link_steps.specs.declared.quota.Quota.{Quota}
use Rattle.call_script.specs.Groups.{quotas_fit}
use Rattle.call_script.specs.Growing.{MayAddQuota}
use Rattle.call_script.specs.declared.entries.LinkEntry.{LinkEntry}
use Rattle.text_writer.specs.Lines.{whole_line}
use Rattle.line_forms.specs.Values.{number_at, number_in}
use Rattle.line_forms.specs.Writing.{fields_with}
use Rattle.line_forms.specs.declared.form.Part.{Part}
use Rattle.line_forms.specs.declared.form.Part.TheVariants as part
use Rattle.line_forms.specs.declared.known.Set.TheVariants as set
use Rattle.line_forms.specs.declared.slot.Slot.TheVariants as slot
use Rattle.line_forms.specs.declared.value.FieldValue.{FieldValue}
use Rattle.line_forms.specs.declared.value.FieldValue.TheVariants as value
use Rattle.line_forms.specs.declared.value.Values.{Values}
use Rattle.line_forms.specs.declared.word.Keyword.TheVariants as word
use Rattle.scenario_reader.specs.Causes.{unless, stated}
use Rattle.scenario_reader.specs.Drafts.{Said, parts_said}
use Rattle.scenario_reader.specs.declared.cause.LineCause.{LineCause}
use Rattle.scenario_reader.specs.declared.cause.LineCause.TheVariants as cause
use Rattle.scenario_reader.specs.declared.item.Item.{Item}
use Rattle.scenario_reader.specs.declared.item.Item.TheVariants as item
use Rattle.scenario_reader.specs.line.Before.{HasALink}
use Rattle.scenario_reader.specs.line.Group.{group_value, values_if}

abbrev pub quota_form : List Part
quota_form = part.Word word.Quota ∷ part.One (slot.Known set.Links) ∷ part.One (slot.Once set.Groups) ∷ part.Word word.Buffer ∷ part.One (slot.Number 0 most_buffer)
    ∷ part.Word word.Levels ∷ part.Numbers 0 most_bound ∷ []

-- eight numbers: these, and 0 in the places after them
abbrev pub in_eight : List ℕ → List ℕ
in_eight numbers = numbers ++ drop (length numbers) (0 ∷ 0 ∷ 0 ∷ 0 ∷ 0 ∷ 0 ∷ 0 ∷ 0 ∷ [])

abbrev pub loads_said : List FieldValue → List ℕ
loads_said run = in_eight (map number_in run)

-- the quota of a group with the line's numbers
abbrev pub quota_of : Values → Quota
quota_of values = record { group = number_at values.ones 1; buffer = number_at values.ones 2; levels = loads_said values.run }

-- its numbers are small
pub record IsQuotaSmall (values : Values) : Type 0 where
  pub group : number_at values.ones 1 ≤ 4
  pub buffer : number_at values.ones 2 ≤ most_buffer
  pub few : length values.run ≤ 8
  pub loads : (k : ℕ) → number_at values.run k ≤ most_bound

-- the quota has as many loads as the link has levels, and fits it beside the others
abbrev pub is_fit_quota : ℕ → Option LinkEntry → Quota → Bool
is_fit_quota count None quota = false
is_fit_quota count (Some entry) quota = nat_eq count (length entry.shape.bounds) && quotas_fit entry.shape (entry.quotas ++ quota ∷ [])

-- the quota of the link
abbrev pub quota_on : Quota → LinkEntry → Item
quota_on quota entry = item.Quota entry.shape.link quota

-- what the line says of the link that it names
abbrev pub quota_for : Option LinkEntry → Values → Result Item LineCause
quota_for entry values = stated (unless (is_fit_quota (length values.run) entry (quota_of values)) cause.Quota) (option_map (quota_on (quota_of values)) entry)

abbrev pub quota_says : Said → Values → Result Item LineCause
quota_says said values = quota_for (slice_get said.links (number_at values.ones 0)) values

pub record MayPutQuota (said : Said) (link : LinkNo) (quota : Quota) : Type 0 where
  pub before : HasALink said
  pub share : MayAddQuota (parts_said said) (link_number link) quota

-- what its line says: its loads are of as many levels as the link has
abbrev pub load_values : List ℕ → List FieldValue
load_values loads = map value.Number loads

abbrev pub quota_values : List (List ℕ) → LinkEntry → Quota → Values
quota_values groups entry quota = record {
  ones = value.Known entry.name (link_number entry.shape.link) ∷ (values_if (group_value groups quota.group) ++ value.Number quota.buffer ∷ []);
  run = load_values (take (length entry.shape.bounds) quota.levels);
}

abbrev pub quota_fields : List (List ℕ) → LinkEntry → Quota → List (List ℕ)
quota_fields groups entry quota = fields_with quota_form (quota_values groups entry quota)

abbrev pub quota_lines : List (List ℕ) → LinkEntry → List (List (List ℕ))
quota_lines groups entry = map (quota_fields groups entry) entry.quotas

unfoldable pub quota_text : List (List ℕ) → LinkEntry → Quota → List ℕ
quota_text groups entry quota = whole_line (quota_fields groups entry quota)

-- the quotas of a link
unfoldable pub quotas_text : List (List ℕ) → LinkEntry → List ℕ
quotas_text groups entry = flat_map (quota_text groups entry) entry.quotas
