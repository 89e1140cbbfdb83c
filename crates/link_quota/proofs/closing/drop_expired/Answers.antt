-- The closure asks the link whether it still has a row of the channel.
use Rattle.std.proofs.Common.{rules, tests}
use Rattle.std.proofs.lemmas.Fn.{filter_same}
use Rattle.link_server.specs.Held.{reservations_held}
use Rattle.link_quota.specs.Closing.{is_held}
use Rattle.link_quota.proofs.closing.drop_expired.Goals as goal

pub returns-clause-items : goal.returns-clause-items
returns-clause-items c =
    filter_same _ (is_held c.args.link.now.shape.bounds (reservations_held c.args.link.now)) _ (λ x b f k. search (rules, tests)) c.args.closing.now.items c.retain.new.self.items c.retain.ensures.filtered
