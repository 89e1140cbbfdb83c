-- What is kept of the channel says it.
use Rattle.std.proofs.Common.{ap, sym, ◌∙◌, option_map}
use Rattle.setup_protocol.specs.State.{outcome_of}
use Rattle.call_script.specs.Channels.{Told}
use Rattle.call_script.specs.Scripts.{Standing, outcome_in}
use Rattle.call_script.specs.declared.channels.Channel.{Channel}
use Rattle.call_script.proofs.CallerStanding.{stands-in}
use Rattle.call_script.proofs.actor.Actor.verdict.Goals as goal

pub returns : goal.returns
returns c = record {
  verdict = λ parts replies stands.
      ap (λ (channel : Channel). option_map outcome_of channel.verdict) c.of.ensures ∙ ap (λ (told : Told). told.verdict) (stands.at.outcomes c.args.chan)
      ∙ ap (λ (at : Standing). outcome_in c.args.chan at.outcomes) (sym (stands-in parts c.args.self.now replies stands));
}
