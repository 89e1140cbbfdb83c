-- The row that the entry tells is kept, or there is none, or none is wanted.
use Rattle.std.proofs.Common.{◌≡◌, List, [], ◌∷◌, ◌++◌, ap, sym, ◌∙◌, subst}
use Rattle.net_units.specs.declared.numbers.LinkNo.{LinkNo}
use Rattle.link_steps.specs.declared.replies.Reply.{Reply}
use Rattle.run_record.specs.Rows.{rows_by}
use Rattle.run_record.specs.declared.done.Done.{Done}
use Rattle.channel_report.specs.KeptRows.{AreKeptIf}
use Rattle.channel_report.proofs.RowsStayKept.{row-kept, row-none}
use Rattle.channel_report.proofs.tally.keep_row.Goals as goal

-- the rows are those of the entry
of-entry : (run : List Done) (done : Done) (link : LinkNo) (reply : Reply) → done.link ≡ link → done.reply ≡ reply → rows_by run done.link done.reply ≡ rows_by run link reply
of-entry run done link reply to gets = ap (λ l. rows_by run l done.reply) to ∙ ap (rows_by run link) gets

pub returns-in_ok-push-in-Some : goal.returns-in_ok-push-in-Some
returns-in_ok-push-in-Some c = λ past done to gets noted kept.
    let run : List Done = past ++ done ∷ [] in
    let told = of-entry run done c.args.link c.args.reply.now to gets ∙ c.in-Some.ensures.some run noted in
    subst (AreKeptIf c.args.packets run) (sym c.in_ok-push-in-Some.ensures.items) (row-kept c.args.packets past done c.args.rows.now.items c.in-Some.row told kept)

pub returns-in-None : goal.returns-in-None
returns-in-None c = λ past done to gets noted kept.
    row-none c.args.packets past done c.args.rows.now.items (λ run. of-entry run done c.args.link c.args.reply.now to gets ∙ c.in-None.ensures.none run) kept
