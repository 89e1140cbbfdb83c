-- A number as it is written (`line_forms` has what it is).
pub use Rattle.line_forms.specs.Decimal.{is_number, value_of}
