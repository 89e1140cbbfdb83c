-- What one tick at rest says of its link, said of the list of the links.
use Rattle.std.proofs.Common.{◌≡◌, ◌∷◌, ℕ, get_or, sym, ap, ◌∙◌, subst, arith}
use Rattle.run_engine.proofs.Words.{get_or_from_slice_get, any_clock, any_rules, AnyStands, AnyLink, quiet_reply, quiet_ticks, reply_to, Tick}
use Rattle.run_engine.proofs.Keeping.Lookups.{get-set-same}
use Rattle.run_engine.proofs.Watched.RestedRounds.{first-told, one-tick}
use Rattle.run_engine.proofs.links.rest_link.Goals as goal

pub returns-clause-legal : goal.returns-clause-legal
returns-clause-legal c = λ link h found stands.
    let own = get_or c.args.links.now c.args.number c.index-links-number.result in
    let clock : c.clock-clock.result ≡ any_clock own = c.clock-clock.ensures in
    subst (λ (l : AnyLink). AnyStands l h → quiet_reply c.clock-clock.result ≡ reply_to (any_rules l) h Tick) (get_or_from_slice_get c.args.links.now c.args.number link c.index-links-number.result found)
    (λ mine. ap quiet_reply clock ∙ first-told (any_rules own) (any_clock own) h (c.rest.ensures.legal 0 h (omega arith) mine)) stands

pub returns-clause-entered : goal.returns-clause-entered
returns-clause-entered c = λ link next h found after stands.
    let own = get_or c.args.links.now c.args.number c.index-links-number.result in
    let clock : c.clock-clock.result ≡ any_clock own = c.clock-clock.ensures in
    let new = c.rest.new.self in
    let at = c.clock-clock.result in
    subst (λ (l : AnyLink). AnyStands l (record { ask = Tick; reply = quiet_reply at } ∷ h)) (sym (get-set-same c.args.links.now c.args.number new next after))
    (subst (λ (l : AnyLink). AnyStands l h → AnyStands new (record { ask = Tick; reply = quiet_reply at } ∷ h)) (get_or_from_slice_get c.args.links.now c.args.number link c.index-links-number.result found)
    (λ mine. one-tick new at h (subst (λ (t : ℕ). AnyStands new (quiet_ticks 1 t h)) (sym clock) (c.rest.ensures.made h mine))) stands)
