-- The lines `rounds R` and `tail Q`: how many rounds the plane makes beside the callers, and after them.
use Rattle.std.specs.Prelude.{ℕ, ◌≡◌, ◌≤◌, ◌+◌, ◌*◌, ◌++◌, Bool, nat_le, None, Result, Ok, List, [], ◌∷◌, length}
use Rattle.net_units.specs.Limits.{most_rounds}
use Rattle.text_writer.specs.Lines.{whole_line}
use Rattle.line_forms.specs.Values.{number_at, with_ones}
use Rattle.line_forms.specs.Writing.{fields_with}
use Rattle.line_forms.specs.declared.form.Part.{Part}
use Rattle.line_forms.specs.declared.form.Part.TheVariants as part
use Rattle.line_forms.specs.declared.slot.Slot.TheVariants as slot
use Rattle.line_forms.specs.declared.value.FieldValue.TheVariants as value
use Rattle.line_forms.specs.declared.value.Values.{Values}
use Rattle.line_forms.specs.declared.word.Keyword.TheVariants as word
use Rattle.scenario_reader.specs.Causes.{unless, judged}
use Rattle.scenario_reader.specs.Drafts.{Said, rounds_of}
use Rattle.scenario_reader.specs.declared.cause.LineCause.{LineCause}
use Rattle.scenario_reader.specs.declared.cause.LineCause.TheVariants as cause
use Rattle.scenario_reader.specs.declared.item.Item.{Item}
use Rattle.scenario_reader.specs.declared.item.Item.TheVariants as item
use Rattle.scenario_reader.specs.line.Before.{HasALink}

abbrev pub rounds_form : List Part
rounds_form = part.Word word.Rounds ∷ part.One (slot.Number 0 most_rounds) ∷ []

abbrev pub rounds_says : Values → Result Item LineCause
rounds_says values = Ok (item.Rounds (number_at values.ones 0))

abbrev pub tail_form : List Part
tail_form = part.Word word.Tail ∷ part.One (slot.Number 0 most_rounds) ∷ []

-- the ticks of all links together are within the limit
abbrev pub are_few_ticks : Said → ℕ → Bool
are_few_ticks said tail = nat_le ((rounds_of said + tail) * length said.links) most_rounds

abbrev pub tail_says : Said → Values → Result Item LineCause
tail_says said values = judged (unless (are_few_ticks said (number_at values.ones 0)) cause.Load) (item.Tail (number_at values.ones 0))

pub record MayPutRounds (said : Said) (count : ℕ) : Type 0 where
  pub before : HasALink said
  pub most : count ≤ most_rounds

pub record MayPutTail (said : Said) (count : ℕ) : Type 0 where
  pub headed : said.version ≡ None → ⊥
  pub rounded : said.rounds ≡ None → ⊥
  pub most : count ≤ most_rounds
  pub ticks : (rounds_of said + count) * length said.links ≤ most_rounds

abbrev pub rounds_fields : ℕ → List (List ℕ)
rounds_fields count = fields_with rounds_form (with_ones (value.Number count ∷ []))

abbrev pub tail_fields : ℕ → List (List ℕ)
tail_fields count = fields_with tail_form (with_ones (value.Number count ∷ []))

-- `rounds` and `tail`
unfoldable pub rounds_text : ℕ → ℕ → List ℕ
rounds_text rounds tail = whole_line (rounds_fields rounds) ++ whole_line (tail_fields tail)
