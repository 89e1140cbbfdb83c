-- The request is the one that the parts say, each of which was read.
use Rattle.std.proofs.Common.{◌≡◌, None, length, sym, ◌∙◌, rules}
use Rattle.std.specs.Prelude.{nat_lt}
use Rattle.scenario_reader.specs.Causes.{unless}
use Rattle.scenario_reader.specs.declared.cause.LineCause.TheVariants as cause
use Rattle.scenario_reader.proofs.kind.Request.{says-open, terms-small, are-nodes, open-answer}
use Rattle.scenario_reader.proofs.draft.Draft.say_open.Goals as goal

pub contract_said-requires : goal.contract_said-requires
contract_said-requires c = terms-small c.args._version c.args.self.now c.args.values.now (says-open c.args._version c.args.self.now c.args.values.now c.requires)

pub route_said-requires-clause-links : goal.route_said-requires-clause-links
route_said-requires-clause-links c = (says-open c.args._version c.args.self.now c.args.values.now c.requires).links

pub route_said-requires-clause-nodes : goal.route_said-requires-clause-nodes
route_said-requires-clause-nodes c = are-nodes c.args._version c.args.self.now c.args.values.now (says-open c.args._version c.args.self.now c.args.values.now c.requires)

pub returns : goal.returns
returns c =
    let many : unless (nat_lt (length c.args.self.now.requests) 1024) cause.Many ≡ None = search rules in
    open-answer c.args.self.now c.args.values.now c.in_ok-name.name c.last_caller.result c.next_channel.result c.in_ok-routed.routed c.in_ok-contract.contract c.control_said.result c.term.result
    many (sym c.contract_said.ensures ∙ c.in_ok-contract.ensures.ok_part) c.in_ok-routed.ensures.0 c.in_ok-routed.ensures.1 (sym c.name.ensures ∙ c.in_ok-name.ensures.ok_part) c.last_caller.ensures c.next_channel.ensures c.control_said.ensures c.term.ensures
