use Rattle.std.proofs.Common.{◌∷◌, ◌<◌, Some, false, sym, ap, ◌∙◌, subst, refl, length}
use Rattle.std.proofs.lemmas.List.{length-set}
use Rattle.net_units.specs.Numbers.{channel_number}
use Rattle.call_script.specs.Channels.{AreTold}
use Rattle.call_script.specs.Scripts.{MovedTo}
use Rattle.call_script.specs.declared.channels.Channel.{Channel}
use Rattle.call_script.proofs.ChannelsAsLearnt.{with-none-shifted, with-some-shifted}
use Rattle.call_script.proofs.channels.Channels.leave.Goals as goal

pub returns-then-told-ne0-clause-told : goal.returns-then-told-ne0-clause-told
returns-then-told-ne0-clause-told c = λ outcomes are.
    let items = c.args.self.now.by_number.items in
    let channel : Channel = record c.of-was.result { established = false; moved = Some c.args.told.now } in
    let joined : Channel = record c.of-joined.result { gap = c.args.gap; size = c.args.size } in
    subst (λ xs. AreTold xs (MovedTo c.args.old c.args.new c.args.told.now c.args.gap c.args.size ∷ outcomes)) (sym c.put-then-told-ne0.ensures)
    (with-some-shifted items c.put.new.self.by_number.items c.args.old c.args.new c.args.told.now c.args.gap c.args.size channel c.of-was.result joined c.of-joined.result outcomes c.requires.old c.of-was.ensures refl
    c.put.ensures (subst (λ n. channel_number c.args.new < n) (sym (ap length c.put.ensures ∙ length-set items (channel_number c.args.old) channel)) c.requires.new) c.of-joined.ensures refl c.if-told-ne0.true are)

pub returns-else-told-ne0-clause-told : goal.returns-else-told-ne0-clause-told
returns-else-told-ne0-clause-told c = λ outcomes are.
    let items = c.args.self.now.by_number.items in
    let channel : Channel = record c.of-was.result { established = false; moved = Some c.args.told.now } in
    subst (λ xs. AreTold xs (MovedTo c.args.old c.args.new c.args.told.now c.args.gap c.args.size ∷ outcomes)) (sym c.put.ensures)
    (with-none-shifted items c.args.old c.args.new c.args.told.now c.args.gap c.args.size channel c.of-was.result outcomes c.requires.old c.of-was.ensures refl c.if-told-ne0.false are)
