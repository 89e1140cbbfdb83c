-- The header of a plan is read as its version.
use Rattle.std.proofs.Common.{[], ◌∷◌, refl}
use Rattle.call_script.specs.declared.version.Version.{Version}
use Rattle.call_script.specs.declared.version.Version.TheVariants.{One, Two, Three, Four, Five, Six}
use Rattle.scenario_reader.specs.Drafts.{nothing_said}
use Rattle.scenario_reader.specs.Grammar.{judge}
use Rattle.scenario_reader.specs.line.Header.{header_fields}
use Rattle.scenario_reader.proofs.Back.SaysBack.{Reads, reads-one, front}
use Rattle.scenario_reader.specs.declared.item.Item.TheVariants as item

pub header-read : (version : Version) → Reads (header_fields version ∷ []) nothing_said (front version [] [] [] [])
unfolding judge
header-read One = reads-one (header_fields One) nothing_said (item.Header One) refl (λ number. refl)
header-read Two = reads-one (header_fields Two) nothing_said (item.Header Two) refl (λ number. refl)
header-read Three = reads-one (header_fields Three) nothing_said (item.Header Three) refl (λ number. refl)
header-read Four = reads-one (header_fields Four) nothing_said (item.Header Four) refl (λ number. refl)
header-read Five = reads-one (header_fields Five) nothing_said (item.Header Five) refl (λ number. refl)
header-read Six = reads-one (header_fields Six) nothing_said (item.Header Six) refl (λ number. refl)
