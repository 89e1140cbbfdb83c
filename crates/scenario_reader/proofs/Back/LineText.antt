-- Lines of fields are the whole lines of their bytes.
use Rattle.std.proofs.Common.{◌≡◌, ℕ, ◌+◌, ◌-◌, ◌≤◌, true, false, List, [], ◌∷◌, ◌++◌, length, map, flat_map, refl, ◌∙◌, ap, arith, append_assoc, length-append}
use Rattle.byte_ends.specs.WholeLines.{feed, whole_lines, all_given, ending, Outlook, outlook}
use Rattle.link_steps.specs.Lists.{Each}
use Rattle.scenario_reader.specs.Fields.{line_of, are_fields}
use Rattle.text_writer.specs.Lines.{whole_line}
use Rattle.byte_ends.proofs.Outlooks.{whole_lines-line, ending_from-line}
use Rattle.line_forms.proofs.FieldText.{line-no-feed}

-- each line is made of fields
abbrev pub AreLines : List (List (List ℕ)) → Type 0
AreLines lines = Each (λ fields. are_fields fields ≡ true) lines

-- lines of fields are the whole lines of their bytes, and nothing is left after them
pub lines-of-text : (lines : List (List (List ℕ))) (most : ℕ) → AreLines lines → length (flat_map whole_line lines) ≤ most
    → outlook most (flat_map whole_line lines) ≡ record { lines = map line_of lines; ending = all_given }
lines-of-text [] most are few = refl
lines-of-text (fields ∷ lines) most are few =
    let line = line_of fields in
    let rest = flat_map whole_line lines in
    let count = length-append (whole_line fields) (flat_map whole_line lines) in
    let count_line = length-append (line_of fields) (10 ∷ []) in
    let room : most ≡ length (line_of fields) + 1 + (most - (length (line_of fields) + 1)) = omega arith in
    let after = lines-of-text lines (most - (length line + 1)) are.1 (omega arith) in
    let no_feed = line-no-feed fields are.0 in
    rw (append_assoc line (10 ∷ []) rest)
    (same-parts most (line ++ feed ∷ rest) (line ∷ map line_of lines)
    (whole_lines-line most _ line rest no_feed room ∙ ap (λ (o : Outlook). line ∷ o.lines) after)
    (ending_from-line false most _ line rest no_feed room ∙ ap (λ (o : Outlook). o.ending) after))
  where
    same-parts : (most : ℕ) (bs : List ℕ) (ls : List (List ℕ)) → whole_lines most bs ≡ ls → ending most bs ≡ all_given → outlook most bs ≡ record { lines = ls; ending = all_given }
    same-parts most bs ls p q = rw (p, q) refl
