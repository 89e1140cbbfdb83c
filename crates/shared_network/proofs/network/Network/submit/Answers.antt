use Rattle.std.proofs.Common.{[], ◌∷◌, sym, subst}
use Rattle.shared_network.proofs.Words.{channel_number, IsOff}
use Rattle.std.proofs.lemmas.Result.{IfOk-weaker}
use Rattle.shared_network.proofs.Held.ContractKept.{keeps-contract, ok-where}
use Rattle.shared_network.proofs.Numbering.LinkNumbers.{ok-then}
use Rattle.shared_network.proofs.Held.OtherChannels.{sent-established, unopened-stays}
use Rattle.shared_network.proofs.CallSteps.CallsInTurn.{above-step}
use Rattle.shared_network.proofs.CallSteps.PassAfterStep.{adds-one}
use Rattle.shared_network.proofs.network.Network.submit.Goals as goal

pub returns-clause-made : goal.returns-clause-made
returns-clause-made g c = IfOk-weaker c.step_at.result _ _ (λ reply steps. adds-one g.H.Home.links c.args.link c.args.ask.now c.args.pass.now c.step_at.new.pass reply steps) c.step_at.ensures.made

pub returns-clause-established : goal.returns-clause-established
returns-clause-established g c = ok-then _ _ c.step_at.result (λ reply steps request was. sent-established g.H.Home.links c.args.link c.args.ask.now c.args.pass.now c.step_at.new.pass reply steps c.requires.send request was) c.step_at.ensures.made

pub returns-clause-unopened : goal.returns-clause-unopened
returns-clause-unopened g c = ok-then _ _ c.step_at.result (λ reply steps chan off none. unopened-stays chan _ _ (steps.entry ∷ []) steps.own (subst (IsOff (channel_number chan)) (sym steps.acted.ask_is) off, tt) none) c.step_at.ensures.made

pub returns-clause-small : goal.returns-clause-small
returns-clause-small g c =
    ok-where _ _ _ c.step_at.result
    (λ reply steps goes. keeps-contract g.H.Home.table g.H.Home.owners g.H.Home.links c.args.link c.args.pass.now c.step_at.new.pass c.step_at.ensures.splits c.requires.pass goes c.args.ask.now reply c.requires.owned steps) c.step_at.ensures.made c.step_at.ensures.ready

pub returns-clause-later : goal.returns-clause-later
returns-clause-later g c = ok-then _ _ c.step_at.result (λ reply steps. above-step g.H.Home.links _ _ _ _ reply steps) c.step_at.ensures.made
