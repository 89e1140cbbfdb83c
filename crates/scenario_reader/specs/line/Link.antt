-- The line of a link: link NAME NODE NODE rate R cap C prop P buffer U levels D1 .. Dn. From version three on the fields
-- best K may stand before `levels`.
use Rattle.std.specs.Prelude.{ℕ, ◌≤◌, nat_eq, nat_lt, if◌then◌else◌, Option, Some, None, Result, List, [], ◌∷◌, ◌++◌, length, map}
use Rattle.net_units.specs.LevelBounds.{are_bounds}
use Rattle.net_units.specs.Limits.{most_bound, most_best, most_buffer, most_rate, most_size, most_links, most_propagation}
use Rattle.net_units.specs.Numbers.{link_at}
use Rattle.link_steps.specs.declared.shape.LinkShape.{LinkShape}
use Rattle.call_script.specs.Growing.{MayAddLink}
use Rattle.call_script.specs.Versions.{test_of, has_best_effort}
use Rattle.call_script.specs.declared.entries.LinkEntry.{LinkEntry}
use Rattle.call_script.specs.declared.version.Version.{Version}
use Rattle.text_writer.specs.Lines.{whole_line}
use Rattle.line_forms.specs.Values.{name_at, number_at, number_in}
use Rattle.line_forms.specs.Writing.{fields_with}
use Rattle.line_forms.specs.declared.form.Part.{Part}
use Rattle.line_forms.specs.declared.form.Part.TheVariants as part
use Rattle.line_forms.specs.declared.known.Set.TheVariants as set
use Rattle.line_forms.specs.declared.slot.Slot.TheVariants as slot
use Rattle.line_forms.specs.declared.value.FieldValue.{FieldValue}
use Rattle.line_forms.specs.declared.value.FieldValue.TheVariants as value
use Rattle.line_forms.specs.declared.value.Values.{Values}
use Rattle.line_forms.specs.declared.word.Keyword.TheVariants as word
use Rattle.scenario_reader.specs.Causes.{Rule, unless, first_cause, stated}
use Rattle.scenario_reader.specs.Drafts.{Said, parts_said}
use Rattle.scenario_reader.specs.Entries.{LinkNumbers, has_bounds, shape_of}
use Rattle.scenario_reader.specs.declared.cause.LineCause.{LineCause}
use Rattle.scenario_reader.specs.declared.cause.LineCause.TheVariants as cause
use Rattle.scenario_reader.specs.declared.item.Item.{Item}
use Rattle.scenario_reader.specs.declared.item.Item.TheVariants as item
use Rattle.scenario_reader.specs.line.Before.{IsBefore}

-- the parts up to the buffer, and then these
abbrev pub link_front : List Part → List Part
link_front after = part.Word word.Link ∷ part.One (slot.New set.Links) ∷ part.One slot.Name ∷ part.One slot.Name
    ∷ part.Word word.Rate ∷ part.One (slot.Number 1 most_rate) ∷ part.Word word.Cap ∷ part.One (slot.Number 1 most_size)
    ∷ part.Word word.Prop ∷ part.One (slot.Number 0 most_propagation) ∷ part.Word word.Buffer ∷ part.One (slot.Number 0 most_buffer) ∷ after

abbrev pub levels_end : List Part
levels_end = part.Word word.Levels ∷ part.Numbers 1 most_bound ∷ []

abbrev pub plain_form : List Part
plain_form = link_front levels_end

abbrev pub best_form : List Part
best_form = link_front (part.Word word.Best ∷ part.One (slot.Number 1 most_best) ∷ levels_end)

-- the forms that a version has
abbrev pub link_forms : Version → List (List Part)
link_forms version = if has_best_effort version then plain_form ∷ best_form ∷ [] else plain_form ∷ []

-- the numbers that a form lets pass: each within its limit, and of up to 8 levels
pub record AreFigures (values : Values) : Type 0 where
  pub rate_least : 1 ≤ number_at values.ones 3
  pub rate_most : number_at values.ones 3 ≤ most_rate
  pub cap_least : 1 ≤ number_at values.ones 4
  pub cap_most : number_at values.ones 4 ≤ most_size
  pub prop_most : number_at values.ones 5 ≤ most_propagation
  pub buffer_most : number_at values.ones 6 ≤ most_buffer
  pub best_most : number_at values.ones 7 ≤ most_best
  pub few : length values.run ≤ 8
  pub small : (k : ℕ) → number_at values.run k ≤ most_bound

-- the bounds of levels that numbers are, if they are such
abbrev pub bounds_of : List ℕ → Option (List ℕ)
bounds_of numbers = if are_bounds numbers then Some numbers else None

abbrev pub bounds_said : List FieldValue → Option (List ℕ)
bounds_said run = bounds_of (map number_in run)

-- the numbers of the link; where no best-effort packets stand, none may wait
abbrev pub link_numbers : Values → LinkNumbers
link_numbers values = record {
  rate = number_at values.ones 3;
  cap = number_at values.ones 4;
  prop = number_at values.ones 5;
  buffer = number_at values.ones 6;
  best = number_at values.ones 7;
  bounds = map number_in values.run;
}

abbrev pub link_rule : Said → Values → Rule
link_rule said values = first_cause (
    unless (nat_lt (length said.links) most_links) cause.Many
    ∷ unless (has_bounds (link_numbers values)) cause.Levels
    ∷ [])

-- the link with its names and nodes
abbrev pub link_with : Option (List ℕ) → Option (List ℕ) → Option (List ℕ) → Option LinkShape → Option Item
link_with (Some name) (Some from) (Some to) (Some shape) = Some (item.Link (record { name = name; from = from; to = to; shape = shape; quotas = [] }))
link_with name from to shape = None

-- the link that the line says, whose number is the next one
abbrev pub link_said : Version → Said → Values → Option Item
link_said version said values = link_with (name_at values.ones 0) (name_at values.ones 1) (name_at values.ones 2) (shape_of (link_at (length said.links)) (test_of version) (link_numbers values))

abbrev pub link_says : Version → Said → Values → Result Item LineCause
link_says version said values = stated (link_rule said values) (link_said version said values)

pub record MayPutLink (said : Said) (entry : LinkEntry) : Type 0 where
  pub before : IsBefore said
  pub link : MayAddLink (parts_said said) entry

-- what its line says
abbrev pub bound_values : List ℕ → List FieldValue
bound_values bounds = map value.Number bounds

abbrev pub link_ones : LinkEntry → List FieldValue
link_ones entry = value.Name entry.name ∷ value.Name entry.from ∷ value.Name entry.to ∷ value.Number entry.shape.rate ∷ value.Number entry.shape.cap
    ∷ value.Number entry.shape.prop ∷ value.Number entry.shape.buffer ∷ []

abbrev pub link_values : LinkEntry → List FieldValue → Values
link_values entry best = record { ones = link_ones entry ++ best; run = bound_values entry.shape.bounds }

abbrev pub link_fields : LinkEntry → List (List ℕ)
link_fields entry = if nat_eq entry.shape.best 0 then fields_with plain_form (link_values entry []) else fields_with best_form (link_values entry (value.Number entry.shape.best ∷ []))

unfoldable pub link_text : LinkEntry → List ℕ
link_text entry = whole_line (link_fields entry)
