use Rattle.std.proofs.Common.{◌≡◌, ℕ, Some, true, false, List, [], ◌∷◌, ◌++◌, map, refl, sym, ap, ◌∙◌, subst}
use Rattle.std.proofs.lemmas.Option.{same_Some}
use Rattle.net_units.specs.Numbers.{link_number, actor_number}
use Rattle.net_units.specs.declared.numbers.ActorNo.{ActorNo}
use Rattle.link_steps.specs.Split.{Link}
use Rattle.link_steps.specs.declared.asks.Ask.{Ask}
use Rattle.step_stamp.specs.Lists.{Has}
use Rattle.step_stamp.specs.Seats.{pass_table, pass_view}
use Rattle.step_stamp.specs.declared.seats.PassSeat.{PassSeat}
use Rattle.step_stamp.specs.declared.views.View.{View}
use Rattle.step_stamp.proofs.ListMembers.{has-first}
use Rattle.link_ledger.specs.Own.{IsExact, Owns, Acted, own_entry, own_at}
use Rattle.link_ledger.specs.Tokens.{Token, token_of, KeepsSeat, KeepsToken, ActedAt, Steps}
use Rattle.link_ledger.specs.declared.entries.OwnEntry.{OwnEntry}
use Rattle.link_ledger.proofs.OwnStaysExact.{exact-after, entries-after, owns-after}
use Rattle.link_ledger.proofs.locked.LockedLink.step.Goals as goal

pub invariant_of-pass-in-Ok : goal.invariant_of-pass-in-Ok
invariant_of-pass-in-Ok g c =
    let a : ActorNo = c.pass.inside.actor in
    let own : List OwnEntry = c.pass.inside.own.items in
    let seat : PassSeat = c.in-Some.seat in
    let seat_is : c.pass.inside.seat ≡ Some seat = sym c.take.ensures.value ∙ c.in-Some.is in
    let keeps : KeepsSeat a seat own c.pass.inside.spent = subst (λ o. KeepsToken a o own c.pass.inside.spent) seat_is c.pass.invariant in
    let v : View = pass_view seat in
    let v' : View = pass_view c.locked-made.new.seat in
    let e : OwnEntry = c.in-Ok.entry in
    let at : ActedAt g.H.Home.links (link_number c.args.self.now.link) seat.actor c.args.ask.now v v' e = c.in-Ok.ensures.acted in
    let acted : Acted at.link (link_number c.args.self.now.link) a c.args.ask.now v v' at.entries e = subst (λ (x : ActorNo). Acted at.link (link_number c.args.self.now.link) x c.args.ask.now v v' at.entries e) keeps.actor_is at.acted in
    let acts : Has (actor_number a) v.actors = subst (λ (x : ActorNo). Has (actor_number x) v.actors) keeps.actor_is (has-first (actor_number seat.actor) v.actors seat.actors) in
    let items : c.push_reserved.new.self.items ≡ own ++ e ∷ [] = c.push_reserved.ensures.items ∙ ap (λ es. es ++ e ∷ []) c.reserve.ensures.items in
    record {
      actor_is = c.in-Ok.ensures.same.1 ∙ keeps.actor_is;
      exact = λ unspent. subst (IsExact a v') (sym items) (exact-after at.link (link_number c.args.self.now.link) a c.args.ask.now v v' at.entries own e acts (keeps.exact unspent) acted);
    }

pub returns-in-Ok-clause-made : goal.returns-in-Ok-clause-made
returns-in-Ok-clause-made g c =
    let a : ActorNo = c.pass.inside.actor in
    let own : List OwnEntry = c.pass.inside.own.items in
    let seat : PassSeat = c.in-Some.seat in
    let seat_is : c.pass.inside.seat ≡ Some seat = sym c.take.ensures.value ∙ c.in-Some.is in
    let keeps : KeepsSeat a seat own c.pass.inside.spent = subst (λ o. KeepsToken a o own c.pass.inside.spent) seat_is c.pass.invariant in
    let v : View = pass_view seat in
    let v' : View = pass_view c.locked-made.new.seat in
    let e : OwnEntry = c.in-Ok.entry in
    let l : ℕ = link_number c.args.self.now.link in
    let ask : Ask = c.args.ask.now in
    let at : ActedAt g.H.Home.links l seat.actor ask v v' e = c.in-Ok.ensures.acted in
    let acted : Acted at.link l a ask v v' at.entries e = subst (λ (x : ActorNo). Acted at.link l x ask v v' at.entries e) keeps.actor_is at.acted in
    let acts : Has (actor_number a) v.actors = subst (λ (x : ActorNo). Has (actor_number x) v.actors) keeps.actor_is (has-first (actor_number seat.actor) v.actors seat.actors) in
    let items : c.push_reserved.new.self.items ≡ own ++ e ∷ [] = c.push_reserved.ensures.items ∙ ap (λ es. es ++ e ∷ []) c.reserve.ensures.items in
    let before : Token = token_of a (Some seat) own c.pass.inside.spent in
    let before_is : before ≡ c.args.pass.now = ap (λ o. token_of a o own c.pass.inside.spent) (sym seat_is) ∙ c.pass.view_is in
    let unspent : c.pass.inside.spent ≡ false = ap (λ (x : Token). x.spent) before_is ∙ c.requires.unspent in
    let owned : Owns at.link l a v own = subst (λ (x : Token). Owns at.link l x.actor x.view x.own) (sym before_is) (c.requires.own at.link at.is_link) in
    let exact = keeps.exact unspent in
    let owns : Owns at.link l a v' c.push_reserved.new.self.items = subst (Owns at.link l a v') (sym items) (owns-after at.link l a ask v v' at.entries own e acts exact acted owned) in
    let after : Token = record { actor = a; has_seat = true; table = pass_table c.locked-made.new.seat; view = v'; own = c.push_reserved.new.self.items; spent = c.pass.inside.spent } in
    let made : Steps g.H.Home.links l ask before after e.reply = record {
      link = at.link;
      is_link = at.is_link;
      entries = at.entries;
      entry = e;
      acted = acted;
      reply_is = refl;
      own = items;
      exact = entries-after at.link l a ask v v' at.entries own e acts exact acted owned ∙ ap (λ es. map (own_entry a) (own_at l es)) (sym items);
      owns = λ link is. subst (λ (x : Link). Owns x l a v' c.push_reserved.new.self.items) (same_Some at.link link (sym at.is_link ∙ is)) owns;
      has_seat = refl;
      unspent = unspent;
    } in
    subst (λ (x : Token). Steps g.H.Home.links l ask x after e.reply) before_is made
