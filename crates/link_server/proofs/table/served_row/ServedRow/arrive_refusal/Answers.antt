-- The rules on strays come first, and then the slots.
use Rattle.std.proofs.Common.{[], ◌∷◌, ◌∙◌, ◌-◌}
use Rattle.link_server.proofs.Words.{slots_of, reservation_in}
use Rattle.link_steps.specs.Refusals.{full, stray_rules}
use Rattle.link_server.proofs.Replies.Arrive.{rule-after, rule-first, rule-one}
use Rattle.link_server.proofs.table.served_row.ServedRow.arrive_refusal.Goals as goal

pub returns-in-Some : goal.returns-in-Some
returns-in-Some c =
    let row = c.args.self.now in
    rule-first (stray_rules c.args.packet.now (reservation_in row) row.taken) (full (row.taken - row.departed) (slots_of c.args.bounds.now (reservation_in row)) ∷ []) c.in-Some.refusal c.in-Some.ensures

pub returns-in-None : goal.returns-in-None
returns-in-None c =
    let row = c.args.self.now in
    let slots = full (row.taken - row.departed) (slots_of c.args.bounds.now (reservation_in row)) in
    c.full.ensures ∙ rule-one slots ∙ rule-after (stray_rules c.args.packet.now (reservation_in row) row.taken) (slots ∷ []) c.in-None.ensures
