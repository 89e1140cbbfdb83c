-- The header: the fields `tenet` and the number of the version.
use Rattle.std.specs.Prelude.{ℕ, nat_eq, ◌&&◌, if◌then◌else◌, Option, Some, None, Result, Ok, Err, List, length, codes, [], ◌∷◌}
use Rattle.std.specs.Cmp.Lexicographic.{pointwise}
use Rattle.call_script.specs.declared.version.Version.{Version}
use Rattle.call_script.specs.declared.version.Version.TheVariants.{One, Two, Three, Four, Five, Six}
use Rattle.scenario_reader.specs.Fields.{field_at}
use Rattle.scenario_reader.specs.declared.cause.LineCause.{LineCause}
use Rattle.scenario_reader.specs.declared.item.Item.{Item}
use Rattle.scenario_reader.specs.declared.cause.LineCause.TheVariants as cause
use Rattle.scenario_reader.specs.declared.item.Item.TheVariants as item

abbrev pub version_in : List ℕ → Option Version
version_in field =
    if pointwise nat_eq field (codes "1") then Some One else (
    if pointwise nat_eq field (codes "2") then Some Two else (
    if pointwise nat_eq field (codes "3") then Some Three else (
    if pointwise nat_eq field (codes "4") then Some Four else (
    if pointwise nat_eq field (codes "5") then Some Five else (
    if pointwise nat_eq field (codes "6") then Some Six else None)))))

abbrev pub header_version : List (List ℕ) → Option Version
header_version fields =
    if nat_eq (length fields) 2 && pointwise nat_eq (field_at fields 0) (codes "tenet") then version_in (field_at fields 1) else None

-- what a version says, or that there is none
abbrev pub header_said : Option Version → Result Item LineCause
header_said None = Err cause.Header
header_said (Some version) = Ok (item.Header version)

abbrev pub version_field : Version → List ℕ
version_field One = codes "1"
version_field Two = codes "2"
version_field Three = codes "3"
version_field Four = codes "4"
version_field Five = codes "5"
version_field Six = codes "6"

abbrev pub header_fields : Version → List (List ℕ)
header_fields version = codes "tenet" ∷ version_field version ∷ []
