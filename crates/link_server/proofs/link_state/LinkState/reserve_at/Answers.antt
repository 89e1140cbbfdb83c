-- The offer goes on with what is kept, and so with every history that the link stands for.
use Rattle.std.proofs.Common.{◌≡◌, sym, ap, ◌∙◌, subst}
use Rattle.link_server.proofs.Words.{level_number, reach_of, MayOffer, level_of, Offer, account_in}
use Rattle.link_steps.proofs.HopHolds.{hop-guarantee}
use Rattle.link_steps.proofs.LevelByNumber.{level_of-level}
use Rattle.link_server.specs.Held.{reservations_held, reach_at, MayReserve}
use Rattle.link_server.proofs.ChosenLevel.{offer-admissible, offer-legal}
use Rattle.link_server.proofs.EveryHistoryAgrees.{rows-have, step-entered}
use Rattle.link_server.proofs.link_state.LinkState.reserve_at.Goals as goal
use Rattle.link_server.proofs.link_state.LinkState.reserve_at.Goals.{After-hold}

-- the offer may be made, since the reach is that of the level
pub hold-requires-clause-may : goal.hold-requires-clause-may
hold-requires-clause-may c =
    let far : c.reach_of-reach.result ≡ level_of (reach_of c.args.self.now.shape.bounds c.in-Reserve.delay (level_number c.args.level)) =
    sym (level_of-level c.reach_of-reach.result) ∙ ap level_of c.reach_of-reach.ensures.value in
    subst (λ reach. MayOffer c.args.self.now.shape (reservations_held c.args.self.now) c.in-Reserve.chan c.in-Reserve.contract c.in-Reserve.delay c.in-Reserve.up_reach c.args.level reach) (sym far)
    (subst (λ ask. MayReserve c.args.self.now.shape (reservations_held c.args.self.now) ask c.args.level) c.in-Reserve.is c.requires.may)

-- the reach is that of the ask at the level
reach : (c : After-hold) → c.reach_of-reach.result ≡ reach_at c.args.self.now.shape c.args.ask.now c.args.level
reach c =
    sym (level_of-level c.reach_of-reach.result) ∙ ap level_of c.reach_of-reach.ensures.value
    ∙ sym (ap (λ ask. reach_at c.args.self.now.shape ask c.args.level) c.in-Reserve.is)

pub returns-clause-offered : goal.returns-clause-offered
returns-clause-offered c = ap (Offer c.args.level) (reach (goal.at.returns-clause-offered c).After-hold)

pub returns-clause-entered : goal.returns-clause-entered
returns-clause-entered c =
    step-entered c.args.self.now.shape c.hold.new.self.shape (account_in c.args.self.now) (account_in c.hold.new.self) c.args.ask.now _ (Offer c.args.level c.reach_of-reach.result)
    (rows-have c.args.self.now) c.in-Reserve.is c.hold.ensures.shape c.in_ok-hold.ensures.kept

pub returns-clause-admissible : goal.returns-clause-admissible
returns-clause-admissible c =
    offer-admissible c.args.self.now.shape (account_in c.args.self.now) c.args.ask.now c.args.level c.reach_of-reach.result c.requires.fits c.requires.may (reach (goal.at.returns-clause-admissible c).After-hold)

pub returns-clause-guaranteed : goal.returns-clause-guaranteed
returns-clause-guaranteed c = λ h stands before.
    hop-guarantee c.args.self.now.shape _
    (offer-admissible c.args.self.now.shape (account_in c.args.self.now) c.args.ask.now c.args.level c.reach_of-reach.result c.requires.fits c.requires.may (reach (goal.at.returns-clause-guaranteed c).After-hold) h stands before)

pub returns-clause-legal : goal.returns-clause-legal
returns-clause-legal c =
    offer-legal c.args.self.now.shape (account_in c.args.self.now) c.args.ask.now c.args.level c.reach_of-reach.result (rows-have c.args.self.now) c.requires.may (reach (goal.at.returns-clause-legal c).After-hold)
