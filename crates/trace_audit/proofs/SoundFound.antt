-- An audit finds nothing in a sound table.
use Rattle.std.proofs.Common.{◌≡◌, ℕ, suc, ◌+◌, Option, List, [], ◌∷◌, ◌++◌, length, sym, ap, ◌∙◌, subst, append_assoc, append-nil, arith}
use Rattle.std.proofs.lemmas.List.{reverse-append}
use Rattle.std.specs.Prelude.{reverse}
use Rattle.net_units.specs.declared.levels.Levels.{Levels}
use Rattle.call_script.specs.Parts.{PlanParts}
use Rattle.run_record.specs.declared.rows.HopRow.{HopRow}
use Rattle.trace_audit.specs.Checks.{AllPass, IsSound, finding_below, finding_of}
use Rattle.trace_audit.specs.declared.finding.Finding.TheVariants.{Sound}
use Rattle.trace_audit.proofs.KeptMatchesRows.{finding-step}

-- the rows above some of a sound table pass
passes-above : (plan : PlanParts) (levels : List (Option Levels)) (front back : List HopRow) → AllPass plan levels (front ++ back) → AllPass plan levels back
unfolding AllPass
passes-above plan levels [] back all = all
passes-above plan levels (row ∷ front) back all = passes-above plan levels front back all.0

same-sum : (a b : ℕ) → a + suc b ≡ suc a + b
same-sum a b = omega arith

sound-below : (plan : PlanParts) (levels : List (Option Levels)) (above table : List HopRow) → AllPass plan levels (reverse table ++ above) → finding_below plan levels above table ≡ Sound (length table + length above)
unfolding finding_below AllPass
sound-below plan levels above [] all = ap (λ n. Sound n) (omega arith)
sound-below plan levels above (row ∷ table) all =
    let shifted : AllPass plan levels (reverse table ++ (row ∷ above)) =
    subst (AllPass plan levels) (ap (λ rs. rs ++ above) (reverse-append (row ∷ []) table) ∙ append_assoc (reverse table) (row ∷ []) above) all in
    let passes = passes-above plan levels (reverse table) (row ∷ above) shifted in
    finding-step plan levels above table row passes.1 ∙ sound-below plan levels (row ∷ above) table shifted ∙ ap (λ n. Sound n) (same-sum (length table) (length above))

none-above : (n : ℕ) → n + 0 ≡ n
none-above n = omega arith

pub sound-found : (plan : PlanParts) (levels : List (Option Levels)) (table : List HopRow) → IsSound plan levels table → finding_of plan levels table ≡ Sound (length table)
sound-found plan levels table sound = sound-below plan levels [] table (subst (AllPass plan levels) (sym (append-nil (reverse table))) sound) ∙ ap (λ n. Sound n) (none-above (length table))
