-- In the lines of a schedule each actor has a name: a caller has its own, and the actor after the callers is the plane.
use Rattle.std.specs.Prelude.{ℕ, Option, Some, None, List, codes}
use Rattle.call_script.specs.declared.entries.CallerEntry.{CallerEntry}

-- the name of the caller at an actor's number, if there is one there
abbrev pub name_of_actor : Option CallerEntry → List ℕ
name_of_actor None = codes "plane"
name_of_actor (Some entry) = entry.name
