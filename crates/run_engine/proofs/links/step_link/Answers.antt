-- What the step says of its link, said of the list of the links.
use Rattle.std.proofs.Common.{◌≡◌, List, ◌∷◌, sym, subst}
use Rattle.std.proofs.lemmas.Result.{IfOk-weaker, IfErr-weaker}
use Rattle.run_engine.proofs.Words.{get_or_from_slice_get, any_rules, AnyStands, AnyLink, reply_to, Entry}
use Rattle.run_engine.proofs.Keeping.Lookups.{get-set-same}
use Rattle.run_engine.proofs.links.step_link.Goals as goal

pub returns-clause-same : goal.returns-clause-same
returns-clause-same c =
    λ link next found after.
    subst (λ (l : AnyLink). any_rules l ≡ any_rules link) (sym (get-set-same c.args.links.now c.args.number c.step.new.self next after))
    (subst (λ (l : AnyLink). any_rules c.step.new.self ≡ any_rules l) (get_or_from_slice_get c.args.links.now c.args.number link c.index-links-number.result found) c.step.ensures.same)

pub returns-clause-legal : goal.returns-clause-legal
returns-clause-legal c =
    IfOk-weaker c.step.result _ _
    (λ reply legal link h found stands.
    subst (λ (l : AnyLink). (past : List Entry) → AnyStands l past → reply ≡ reply_to (any_rules l) past c.args.ask.now) (get_or_from_slice_get c.args.links.now c.args.number link c.index-links-number.result found) legal h stands)
    c.step.ensures.legal

pub returns-clause-entered : goal.returns-clause-entered
returns-clause-entered c =
    IfOk-weaker c.step.result _ _
    (λ reply entered link next h found after stands.
    subst (λ (l : AnyLink). AnyStands l (record { ask = c.args.ask.now; reply = reply } ∷ h)) (sym (get-set-same c.args.links.now c.args.number c.step.new.self next after))
    (subst (λ (l : AnyLink). (past : List Entry) → AnyStands l past → AnyStands c.step.new.self (record { ask = c.args.ask.now; reply = reply } ∷ past)) (get_or_from_slice_get c.args.links.now c.args.number link c.index-links-number.result found) entered h stands))
    c.step.ensures.entered

pub returns-clause-memory : goal.returns-clause-memory
returns-clause-memory c =
    IfErr-weaker c.step.result _ _
    (λ wanted kept link next h found after stands.
    subst (λ (l : AnyLink). AnyStands l h) (sym (get-set-same c.args.links.now c.args.number c.step.new.self next after))
    (subst (λ (l : AnyLink). (past : List Entry) → AnyStands l past → AnyStands c.step.new.self past) (get_or_from_slice_get c.args.links.now c.args.number link c.index-links-number.result found) kept h stands))
    c.step.ensures.memory
