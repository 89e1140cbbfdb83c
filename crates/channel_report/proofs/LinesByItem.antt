-- The lines of a report, by the items of a plan that they speak of.
use Rattle.std.proofs.Common.{◌≡◌, ℕ, ◌<◌, Bool, Some, List, [], ◌∷◌, ◌++◌, length, get_or, refl, sym, ap, ◌∙◌, append-nil, append_assoc, Result, Ok, Err, OnOk}
use Rattle.std.specs.Prelude.{map, codes}
use Rattle.std.specs.Fmt.{decimal}
use Rattle.std.specs.List.{flat_map, join_with_byte}
use Rattle.setup_protocol.specs.Setup.{Accepts}
use Rattle.channel_report.specs.Verdicts.{verdict_line}
use Rattle.std.proofs.lemmas.Option.{slice_get_read}
use Rattle.std.specs.List.{slice_get}
use Rattle.call_script.specs.Parts.{PlanParts}
use Rattle.call_script.specs.Plans.{IsPlan}
use Rattle.call_script.specs.declared.entries.LinkEntry.{LinkEntry}
use Rattle.call_script.specs.declared.version.Version.{Version}
use Rattle.run_record.specs.Runs.{part_of}
use Rattle.run_record.specs.declared.done.Done.{Done}
use Rattle.channel_report.specs.Links.{link_line, takes_best, told_link}

-- the item that was read at an index
pub found-item : {X : Type 0} (xs : List X) (i : ℕ) (x : X) → i < length xs → x ≡ get_or xs i x → slice_get xs i ≡ Some x
found-item xs i x inside is = slice_get_read xs (length xs) i x refl inside is

-- the line of the link at a place
pub line-at : (parts : PlanParts) (run : List Done) (number : ℕ) (entry : LinkEntry) (version : Version) (best : Bool) → IsPlan parts → slice_get parts.links number ≡ Some entry → version ≡ parts.version → best ≡ takes_best version entry
    → told_link entry.name best (part_of number run) ≡ link_line parts.version run entry
line-at parts run number entry version best plan found versions bests =
    ap (λ b. told_link entry.name b (part_of number run)) (bests ∙ ap (λ v. takes_best v entry) versions)
    ∙ ap (λ n. told_link entry.name (takes_best parts.version entry) (part_of n run)) (sym (plan.planned.links number entry found))

-- words after a first one, each after a space
pub join-levels : (word : List ℕ) (levels : List ℕ) → join_with_byte 32 (word ∷ map decimal levels) ≡ word ++ flat_map (λ level. 32 ∷ decimal level) levels
join-levels word [] = sym (append-nil word)
join-levels word (level ∷ levels) = ap (λ rest. word ++ 32 ∷ rest) (join-levels (decimal level) levels)

-- the line of an accepted request, in the parts in which it is written
pub accepted-parts : (text name levels_text : List ℕ) (delay : ℕ) (levels : List ℕ) → levels_text ≡ flat_map (λ level. 32 ∷ decimal level) levels
    → ((text ++ (codes "accept " ++ (name ++ (codes " delay " ++ (decimal delay ++ codes " levels"))))) ++ levels_text) ++ 10 ∷ [] ≡ text ++ verdict_line name (Some (Accepts levels delay))
accepted-parts text name levels_text delay levels is =
    rw (is) (simp (join-levels (codes "levels") levels, append_assoc) refl)

-- what an answer's Ok says, another fact may follow from
pub on-ok : {T E : Type 0} {P Q : Type 0} (answer : Result T E) → OnOk answer P → (P → Q) → OnOk answer Q
on-ok (Ok x) own more = more own
on-ok (Err e) own more = own
