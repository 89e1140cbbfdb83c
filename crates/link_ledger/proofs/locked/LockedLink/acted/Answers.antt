use Rattle.std.proofs.Common.{◌≡◌, length, sym, ap, ◌∙◌, subst}
use Rattle.std.specs.Sync.Mutex.{mutex_guard_value}
use Rattle.std.proofs.lemmas.Result.{IfOk-weaker}
use Rattle.net_units.specs.Numbers.{link_number}
use Rattle.step_stamp.specs.Seats.{pass_view}
use Rattle.step_stamp.specs.Views.{known_of}
use Rattle.link_ledger.specs.Order.{HeldLink, AreInOrder}
use Rattle.link_ledger.specs.Own.{Acted}
use Rattle.link_ledger.specs.Tokens.{IsLink}
use Rattle.link_ledger.proofs.locked.LockedLink.acted.Goals as goal

pub returns-clause-acted : goal.returns-clause-acted
returns-clause-acted g c =
    let held : HeldLink = c.deref_mut.result.now in
    let took = c.taken-held.ensures in
    let same : held ≡ mutex_guard_value c.taken-held.result = c.deref_mut.ensures.value in
    let number : held.number ≡ link_number c.args.self.now.link = ap (λ (h : HeldLink). h.number) same ∙ took.number in
    IfOk-weaker c.act.result _ _
    (λ e acted. record {
      link = held.rules;
      is_link = subst (λ (h : HeldLink). IsLink g.H.Home.links (link_number c.args.self.now.link) h.rules) (sym same) took.rules;
      entries = held.entries;
      acted = subst (λ n. Acted held.rules n c.args.seat.now.actor c.args.ask.now (pass_view c.args.seat.now) (pass_view c.act.new.pass) held.entries e) number acted;
    })
    c.act.ensures.acted

pub returns-clause-order : goal.returns-clause-order
returns-clause-order g c =
    let held : HeldLink = c.deref_mut.result.now in
    let same : held ≡ mutex_guard_value c.taken-held.result = c.deref_mut.ensures.value in
    let number : held.number ≡ link_number c.args.self.now.link = ap (λ (h : HeldLink). h.number) same ∙ c.taken-held.ensures.number in
    IfOk-weaker c.act.result _ _ (λ e order. subst (λ n. AreInOrder g.H.Home.owners (length g.H.Home.links) (known_of n (pass_view c.act.new.pass))) number order) c.act.ensures.order
