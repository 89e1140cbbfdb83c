-- The rows that are kept for a table stay those of the entries as these come, with the hops by whatever offers follow.
use Rattle.std.proofs.Common.{◌≡◌, Bool, List, [], ◌∷◌, ◌++◌, map, refl, sym, ap, ◌∙◌, subst, append_assoc, append-nil}
use Rattle.std.proofs.lemmas.List.{map-append}
use Rattle.run_record.specs.Rows.{in_order, departures_in, rows_by, rows_of}
use Rattle.run_record.specs.ToldHops.{with_hop}
use Rattle.run_record.specs.declared.done.Done.{Done}
use Rattle.run_record.specs.declared.rows.HopRow.{HopRow}
use Rattle.run_record.proofs.KeptRows.{departures-more, row-again}
use Rattle.channel_report.specs.KeptRows.{AreKept, AreKeptIf}

-- what holds with an entry and later ones holds with all of them later
shifted : (past : List Done) (done : Done) (rows : List HopRow) (later : List Done) → AreKept past rows → map (with_hop ((past ++ done ∷ []) ++ later)) rows ≡ departures_in ((past ++ done ∷ []) ++ later) past
shifted past done rows later kept =
    subst (λ run. map (with_hop run) rows ≡ departures_in run past) (sym (append_assoc past (done ∷ []) later)) (kept (done ∷ later))

pub none-kept : (packets : Bool) → AreKeptIf packets [] []
unfolding departures_in
none-kept packets on later = refl

-- an entry's row is kept as it is told, with any hop
pub row-kept : (packets : Bool) (past : List Done) (done : Done) (rows : List HopRow) (told : HopRow) → rows_by (past ++ done ∷ []) done.link done.reply ≡ told ∷ [] → AreKeptIf packets past rows → AreKeptIf packets (past ++ done ∷ []) (rows ++ told ∷ [])
row-kept packets past done rows told is kept on later =
    let run : List Done = (past ++ done ∷ []) ++ later in
    map-append (with_hop run) rows (told ∷ [])
    ∙ ap (λ front. front ++ map (with_hop run) (told ∷ [])) (shifted past done rows later (kept on))
    ∙ ap (λ new. departures_in run past ++ new) (row-again (past ++ done ∷ []) run done.link done.reply told is)
    ∙ sym (departures-more run past done)

-- or there is none
pub row-none : (packets : Bool) (past : List Done) (done : Done) (rows : List HopRow) → ((run : List Done) → rows_by run done.link done.reply ≡ []) → AreKeptIf packets past rows → AreKeptIf packets (past ++ done ∷ []) rows
row-none packets past done rows none kept on later =
    let run : List Done = (past ++ done ∷ []) ++ later in
    shifted past done rows later (kept on)
    ∙ sym (append-nil (departures_in run past))
    ∙ ap (λ new. departures_in run past ++ new) (sym (none run))
    ∙ sym (departures-more run past done)

-- they are the rows of the run
pub kept-rows : (entries : List Done) (rows : List HopRow) → AreKept entries rows → in_order (map (with_hop entries) rows) ≡ rows_of entries
kept-rows entries rows kept = ap in_order (subst (λ run. map (with_hop run) rows ≡ departures_in run entries) (append-nil entries) (kept []))
