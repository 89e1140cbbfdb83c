-- A request's setup begins in a run with the first ask of it, which stands behind so many steps, and ends with the last one.
use Rattle.std.specs.Prelude.{ℕ, suc, Option, Some, None, List, [], ◌∷◌, if◌then◌else◌, length, max}
use Rattle.std.specs.List.{position, slice_get}
use Rattle.run_engine.specs.replies.Verdicts.{is_setup_ask}
use Rattle.net_units.specs.Numbers.{channel_number}
use Rattle.call_script.specs.declared.entries.RequestEntry.{RequestEntry}
use Rattle.run_record.specs.declared.done.Done.{Done}

-- how many of these entries, in the order of time, come before the first ask of a setup of the channel of this number
abbrev pub setup_start : ℕ → List Done → Option ℕ
setup_start chan entries = position (λ done. is_setup_ask chan done.ask) entries

-- the end so far, behind so many steps, once one more is seen
abbrev pub later_end : ℕ → Done → ℕ → Option ℕ → Option ℕ
later_end chan done steps end = if is_setup_ask chan done.ask then Some (suc steps) else end

-- how many steps there are up to the last ask of it, with that; the run stands newest first
unfoldable pub setup_end : ℕ → List Done → Option ℕ
setup_end chan [] = None
setup_end chan (done ∷ past) = later_end chan done (length past) (setup_end chan past)

-- the same, or the length of the run where it never begins
abbrev pub ended_by : List Done → Option ℕ → ℕ
ended_by run (Some steps) = steps
ended_by run None = length run

-- of the request at a place, or the length of the run where there is none
abbrev pub end_at : List Done → Option RequestEntry → ℕ
end_at run (Some entry) = ended_by run (setup_end (channel_number entry.request.chan) run)
end_at run None = length run

abbrev pub end_in : List RequestEntry → List Done → ℕ → ℕ
end_in requests run number = end_at run (slice_get requests number)

-- by when the setups of the requests of these numbers have all ended
unfoldable pub end_of_all : List RequestEntry → List Done → List ℕ → ℕ
end_of_all requests run [] = 0
end_of_all requests run (number ∷ numbers) = max (end_in requests run number) (end_of_all requests run numbers)
