use Rattle.std.proofs.Common.{refl, sym, ap, ◌∙◌}
use Rattle.std.proofs.lemmas.Option.{same_Some}
use Rattle.net_units.specs.Numbers.{channel_number}
use Rattle.channel_report.specs.Sources.{chan_of}
use Rattle.channel_report.proofs.SourceAfterEntry.{keeps-cancelled}
use Rattle.channel_report.proofs.channel_tally.ChannelTally.keep.Goals as goal

pub returns-in_ok-self-in-Cancels : goal.returns-in_ok-self-in-Cancels
returns-in_ok-self-in-Cancels c = λ number chan planned refused of own keeps.
    let same = same_Some c.in-Cancels.chan chan (sym (ap chan_of c.in-Cancels.is) ∙ of) in
    rw c.in-Cancels.is
    (keeps-cancelled number c.args.clock refused c.in-Cancels.chan planned c.args.self.now _ (ap channel_number same ∙ own) keeps (rw (← c.as_slice.ensures.value) c.in_ok-self-in-Cancels.ensures) refl)
