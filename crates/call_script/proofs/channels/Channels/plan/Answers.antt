use Rattle.std.proofs.Common.{◌∷◌, sym, subst, refl}
use Rattle.call_script.specs.Channels.{AreTold}
use Rattle.call_script.specs.Scripts.{PlannedOn}
use Rattle.call_script.specs.declared.channels.Channel.{Channel}
use Rattle.call_script.proofs.ChannelsAsLearnt.{with-planned}
use Rattle.call_script.proofs.channels.Channels.plan.Goals as goal

pub returns-clause-told : goal.returns-clause-told
returns-clause-told c = λ outcomes are.
    let items = c.args.self.now.by_number.items in
    let channel : Channel = record c.of-was.result { gap = c.args.gap; size = c.args.size } in
    subst (λ xs. AreTold xs (PlannedOn c.args.chan c.args.gap c.args.size ∷ outcomes)) (sym c.put.ensures)
    (with-planned items c.args.chan c.args.gap c.args.size channel c.of-was.result outcomes c.requires c.of-was.ensures refl are)
