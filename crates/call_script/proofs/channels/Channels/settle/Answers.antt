use Rattle.std.proofs.Common.{◌∷◌, Some, sym, ap, subst}
use Rattle.setup_protocol.specs.State.{outcome_of}
use Rattle.call_script.specs.Channels.{AreTold, told_in}
use Rattle.call_script.specs.Scripts.{Settles}
use Rattle.call_script.specs.declared.channels.Channel.{Channel}
use Rattle.call_script.proofs.ChannelsAsLearnt.{with-settled}
use Rattle.call_script.proofs.channels.Channels.settle.Goals as goal

pub returns-clause-told : goal.returns-clause-told
returns-clause-told c = λ outcomes are.
    let items = c.args.self.now.by_number.items in
    let channel : Channel = record c.of-was.result { verdict = Some c.args.verdict.now; established = c.is_accepted-established.result } in
    subst (λ xs. AreTold xs (Settles c.args.chan (outcome_of c.args.verdict.now) ∷ outcomes)) (sym c.put.ensures)
    (with-settled items c.args.chan (outcome_of c.args.verdict.now) channel c.of-was.result outcomes c.requires c.of-was.ensures
    (ap (λ accepted. told_in (record c.of-was.result { verdict = Some c.args.verdict.now; established = accepted })) c.is_accepted-established.ensures) are)
