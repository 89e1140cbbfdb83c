use Rattle.std.proofs.Common.{◌≡◌, ◌+◌, [], ◌∷◌, refl, drop, sym, ◌∙◌, append-nil, append_assoc}
use Rattle.std.proofs.lemmas.List.{drop_more, drop_all}
use Rattle.run_record.specs.Rows.{departures_in}
use Rattle.run_record.proofs.departures.departures.Goals as goal

pub push_row-requires : goal.push_row-requires
push_row-requires c =
    let next : drop c.loop-done.done-index c.args.entries.now ≡ c.done-item.result ∷ drop (c.loop-done.done-index + 1) c.args.entries.now =
    rw (drop_more c.args.entries.now c.loop-done.done-index c.done-item.result c.loop-done-test.true, ← c.done-item.is) refl in
    (rw next at c.loop-done.invariant.early).0

pub loop-done-preserved : goal.loop-done-preserved
unfolding departures_in
loop-done-preserved c =
    let next : drop c.loop-done.done-index c.args.entries.now ≡ c.done-item.result ∷ drop (c.loop-done.done-index + 1) c.args.entries.now =
    rw (drop_more c.args.entries.now c.loop-done.done-index c.done-item.result c.loop-done-test.true, ← c.done-item.is) refl in
    record {
      early = (rw next at c.loop-done.invariant.early).1;
      rows = λ run are. rw (c.in_ok-push_row.ensures run are, append_assoc) (rw next at (c.loop-done.invariant.rows run are));
    }

pub returns : goal.returns
unfolding departures_in
returns c = λ run are.
    let over : drop c.loop-done.done-index c.args.entries.now ≡ [] = drop_all c.loop-done.done-index c.args.entries.now c.loop-done-test.false in
    sym (append-nil c.loop-done.rows.items) ∙ (rw over at (c.loop-done.invariant.rows run are))
