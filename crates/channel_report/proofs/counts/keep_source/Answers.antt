use Rattle.std.proofs.Common.{◌<◌, length, ap, ◌∙◌, arith}
use Rattle.channel_report.specs.Sources.{chan_of}
use Rattle.channel_report.proofs.ChannelTallies.{sources-more, sources-same, tally-few}
use Rattle.channel_report.proofs.LinesByItem.{found-item, on-ok}
use Rattle.channel_report.proofs.counts.keep_source.Goals as goal

pub keep-requires : goal.keep-requires
keep-requires c =
    let are = c.requires.1.0 in
    let inside : c.in-Some.place < length c.args.channels.now.items = omega (arith, are.all, c.in-Some.ensures.inside) in
    record { few = tally-few c.args.plan.now.requests c.requires.0 c.args.channels.now.items c.in-Some.place c.index_mut.result.now are c.in-Some.ensures.inside (found-item c.args.channels.now.items c.in-Some.place c.index_mut.result.now inside c.index_mut.ensures.value) c.requires.1.1 }

pub returns-in-Some : goal.returns-in-Some
returns-in-Some c = on-ok c.keep.result c.keep.ensures (λ goes past are clock.
    let own = c.in-Some.ensures.own in
    let inside : c.in-Some.place < length c.args.channels.now.items = omega (arith, are.all, c.in-Some.ensures.inside) in
    sources-more c.args.plan.now.requests past c.args.done.now c.args.channels.now.items c.in-Some.place c.index_mut.result.now c.keep.new.self own.0 are
    (found-item c.args.channels.now.items c.in-Some.place c.index_mut.result.now inside c.index_mut.ensures.value) (rw c.act_of-act.ensures at own.1.0) own.1.1 c.in-Some.ensures.first
    (λ planned refused keeps. rw (c.act_of-act.ensures, clock) at (goes c.in-Some.place own.0 planned refused own.1.0 own.1.1 keeps)))

pub returns-in-None : goal.returns-in-None
returns-in-None c = λ past are clock.
    sources-same c.args.plan.now.requests past c.args.done.now c.args.channels.now.items are
    (λ n entry chan found on of own. c.in-None.ensures.none n entry chan found on (ap chan_of c.act_of-act.ensures ∙ of) own)
