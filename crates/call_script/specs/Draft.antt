-- The parts of a plan as the code holds them.
use Rattle.call_script.specs.Parts.{PlanParts, parts_with}
use Rattle.call_script.specs.declared.parts.Parts.{Parts}

abbrev pub parts_in : Parts → PlanParts
parts_in parts = parts_with parts.version parts.links.items parts.groups.items parts.requests.items parts.callers.items parts.rounds parts.tail
