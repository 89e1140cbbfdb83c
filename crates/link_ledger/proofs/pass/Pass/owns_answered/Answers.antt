use Rattle.std.proofs.Common.{◌≡◌, Option, Some, None, List, true, false, ap, ◌∙◌, subst}
use Rattle.net_units.specs.declared.numbers.ActorNo.{ActorNo}
use Rattle.step_stamp.specs.declared.seats.PassSeat.{PassSeat}
use Rattle.link_ledger.specs.Own.{IsExact}
use Rattle.link_ledger.specs.Tokens.{Token, token_of, KeepsToken}
use Rattle.link_ledger.specs.declared.entries.OwnEntry.{OwnEntry}
use Rattle.link_ledger.proofs.RepliesMakeOwn.{answered-owned}
use Rattle.link_ledger.proofs.pass.Pass.owns_answered.Goals as goal

exact-of : (a : ActorNo) (seat : Option PassSeat) (own : List OwnEntry) (spent : _) (pass : Token) → token_of a seat own spent ≡ pass → pass.has_seat ≡ true → pass.spent ≡ false → KeepsToken a seat own spent → IsExact pass.actor pass.view pass.own
exact-of a (Some seat) own spent pass is has unspent keeps = subst (λ (p : Token). IsExact p.actor p.view p.own) is (keeps.exact (ap (λ (p : Token). p.spent) is ∙ unspent))
exact-of a None own spent pass is has unspent keeps = absurd (let clash : false ≡ true = ap (λ (p : Token). p.has_seat) is ∙ has in cc)

pub returns : goal.returns
returns c = λ links l answered link is.
    let pass : Token = c.args.self.now in
    answered-owned link l pass.actor pass.view pass.own (exact-of _ _ _ _ pass c.self.view_is c.requires.seat c.requires.unspent c.self.invariant) (answered link is)
