-- What a field of a line has to be: a name, or a number in its range.
use Rattle.std.specs.Prelude.{ℕ, Bool, nat_eq, nat_le, ◌&&◌, List}
use Rattle.std.specs.List.{list_any}
use Rattle.std.specs.Cmp.Lexicographic.{pointwise}
use Rattle.net_units.specs.Text.{is_name}
pub use Rattle.line_forms.specs.Words.{text_of, is_word}
use Rattle.scenario_reader.specs.Causes.{Rule, unless, or_else}
use Rattle.scenario_reader.specs.Decimal.{is_number, value_of}
use Rattle.scenario_reader.specs.declared.cause.LineCause.TheVariants as cause

-- a field that has to be a name of any kind
abbrev pub name_rule : List ℕ → Rule
name_rule field = unless (is_name field) cause.Name

-- whether a name is one of these
abbrev pub is_among : List (List ℕ) → List ℕ → Bool
is_among names field = list_any (λ name. pointwise nat_eq name field) names

-- a field that has to be a number from `low` to `high`
abbrev pub number_rule : ℕ → ℕ → List ℕ → Rule
number_rule low high field = or_else (unless (is_number field) cause.Number) (unless (nat_le low (value_of field) && nat_le (value_of field) high) cause.Range)
