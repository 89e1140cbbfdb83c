-- A record sees the step as any other.
use Rattle.std.proofs.lemmas.Result.{on_ok_weaker}
use Rattle.run_engine.proofs.watching.RecordWatch.see_told.Goals as goal

pub see_plane-requires : goal.see_plane-requires
see_plane-requires c = (let next = c.requires.1.1 in (c.requires.1.0, record { plan = next.plan; run = next.run_is; next = next.next; seen = next.lag }))

pub returns-clause-seen : goal.returns-clause-seen
returns-clause-seen c = on_ok_weaker c.see_plane.result (λ seen past run next. seen run (record { plan = next.plan; run = next.run_is; next = next.next; seen = next.lag })) c.see_plane.ensures.seen
