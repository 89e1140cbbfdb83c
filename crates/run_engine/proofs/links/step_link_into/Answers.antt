-- What the step says of its link, said of the list of the links.
use Rattle.std.proofs.Common.{◌≡◌, List, ◌∷◌, sym, subst}
use Rattle.run_engine.proofs.Words.{get_or_from_slice_get, any_rules, AnyStands, AnyLink, reply_to, Entry}
use Rattle.run_engine.proofs.Keeping.Lookups.{get-set-same}
use Rattle.run_engine.proofs.links.step_link_into.Goals as goal

pub returns-clause-same : goal.returns-clause-same
returns-clause-same c =
    λ link next found after.
    subst (λ (l : AnyLink). any_rules l ≡ any_rules link) (sym (get-set-same c.args.links.now c.args.number c.step_into.new.self next after))
    (subst (λ (l : AnyLink). any_rules c.step_into.new.self ≡ any_rules l) (get_or_from_slice_get c.args.links.now c.args.number link c.index-links-number.result found) c.step_into.ensures.same)

pub returns-clause-legal : goal.returns-clause-legal
returns-clause-legal c =
    λ link h found stands.
    subst (λ (l : AnyLink). (past : List Entry) → AnyStands l past → c.step_into.new.reply ≡ reply_to (any_rules l) past c.args.ask.now) (get_or_from_slice_get c.args.links.now c.args.number link c.index-links-number.result found) c.step_into.ensures.legal h stands

pub returns-clause-entered : goal.returns-clause-entered
returns-clause-entered c =
    λ link next h found after stands.
    subst (λ (l : AnyLink). AnyStands l (record { ask = c.args.ask.now; reply = c.step_into.new.reply } ∷ h)) (sym (get-set-same c.args.links.now c.args.number c.step_into.new.self next after))
    (subst (λ (l : AnyLink). (past : List Entry) → AnyStands l past → AnyStands c.step_into.new.self (record { ask = c.args.ask.now; reply = c.step_into.new.reply } ∷ past)) (get_or_from_slice_get c.args.links.now c.args.number link c.index-links-number.result found) c.step_into.ensures.entered h stands)
