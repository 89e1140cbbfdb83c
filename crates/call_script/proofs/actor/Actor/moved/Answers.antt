-- What is kept of the channel says it.
use Rattle.std.proofs.Common.{ap, sym, ◌∙◌}
use Rattle.call_script.specs.Channels.{Told}
use Rattle.call_script.specs.Scripts.{Standing, moved_off}
use Rattle.call_script.specs.declared.channels.Channel.{Channel}
use Rattle.call_script.proofs.CallerStanding.{stands-in}
use Rattle.call_script.proofs.actor.Actor.moved.Goals as goal

pub returns : goal.returns
returns c = record {
  moved = λ parts replies stands.
      ap (λ (channel : Channel). channel.moved) c.of.ensures ∙ ap (λ (told : Told). told.moved) (stands.at.outcomes c.args.chan)
      ∙ ap (λ (at : Standing). moved_off c.args.chan at.outcomes) (sym (stands-in parts c.args.self.now replies stands));
}
