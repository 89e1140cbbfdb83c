-- The text of a schedule: a line for each item, with the name of its actor and its number of steps.
use Rattle.std.specs.Prelude.{ℕ, List}
use Rattle.std.specs.List.{flat_map, slice_get}
use Rattle.net_units.specs.Numbers.{actor_number}
use Rattle.call_script.specs.ActorNames.{name_of_actor}
use Rattle.call_script.specs.declared.entries.CallerEntry.{CallerEntry}
use Rattle.call_script.specs.declared.schedule.Do.{Do}
use Rattle.text_writer.specs.Lines.{do_line}

abbrev pub item_line : List CallerEntry → Do → List ℕ
item_line callers item = do_line (name_of_actor (slice_get callers (actor_number item.actor))) item.count

abbrev pub schedule_of : List CallerEntry → List Do → List ℕ
schedule_of callers items = flat_map (item_line callers) items
