use Rattle.std.proofs.Common.{◌≡◌, ℕ, List, [], ◌∷◌, ◌++◌, length, sym, ap, ◌∙◌, arith}
use Rattle.shared_network.proofs.Words.{append_assoc, length-append, into_iter_items, Token}
use Rattle.shared_network.specs.Ready.{MayStep}
use Rattle.shared_network.proofs.Numbering.SeatsJoined.{gathered-first, gathered-next, given-none, given-more, after}
use Rattle.shared_network.proofs.closing.gather.Goals as goal

pub loop-pass-init : goal.loop-pass-init
loop-pass-init g c =
    let all = c.requires.all in
    let first : Token = c.in-Some.first in
    let split : first ∷ into_iter_items c.into_iter-pass-iterator.result ≡ c.args.passes.items =
    ap (λ it. first ∷ into_iter_items it) c.into_iter-pass-iterator.ensures.into_iter_gives ∙ sym c.in-Some.ensures.items ∙ c.into_iter-rest.ensures.rest in
    let may : MayStep g.H.Home.table g.H.Home.owners g.H.Home.links first = after (MayStep g.H.Home.table g.H.Home.owners g.H.Home.links) c.args.passes.items [] _ first split all.may_step in
    let among : first.view.among ≡ length c.args.passes.items = after (λ (p : Token). p.view.among ≡ length c.args.passes.items) c.args.passes.items [] _ first split all.among in
    let given = c.in-Some-give_seat.ensures in
    let pushed = c.push_reserved.ensures.items in
    let room = c.requires.room in
    let capacity = c.push_reserved.ensures.capacity in
    record {
      done = first ∷ [];
      split = split;
      gathered = gathered-first g.H.Home.table g.H.Home.owners g.H.Home.links (length c.args.passes.items) first _ may among given.seat.2;
      given_up = given-more [] c.args.closed.items c.push_reserved.new.self.items first c.give_seat.new.self (given-none c.args.closed.items c.requires.empty) pushed given.kept.0 given.kept.1 given.gone;
      table = given.seat.1 ∙ may.table_is;
      room = (let long = ap length split in let short = ap length (pushed ∙ ap (λ ps. ps ++ c.give_seat.new.self ∷ []) c.requires.empty) in omega (arith, long, short, room, capacity));
    }

pub unreachable-requires-in_default-give_seat-2 : goal.unreachable-requires-in_default-give_seat-2
unreachable-requires-in_default-give_seat-2 g c =
    let so = c.loop-pass.invariant in
    let split = ap (λ ps. so.done ++ ps) (sym c.in-Some-pass.ensures.steps.0) ∙ so.split in
    let may : MayStep g.H.Home.table g.H.Home.owners g.H.Home.links c.in-Some-pass.pass = after (MayStep g.H.Home.table g.H.Home.owners g.H.Home.links) c.args.passes.items so.done _ c.in-Some-pass.pass split c.requires.all.may_step in
    let given = c.in_default-give_seat-2.ensures.given.1 may.has_seat in
    cc

pub gather-requires-clause-that : goal.gather-requires-clause-that
gather-requires-clause-that g c =
    let so = c.loop-pass.invariant in
    let split = ap (λ ps. so.done ++ ps) (sym c.in-Some-pass.ensures.steps.0) ∙ so.split in
    let may : MayStep g.H.Home.table g.H.Home.owners g.H.Home.links c.in-Some-pass.pass = after (MayStep g.H.Home.table g.H.Home.owners g.H.Home.links) c.args.passes.items so.done _ c.in-Some-pass.pass split c.requires.all.may_step in
    c.in-Some-give_seat-2.ensures.seat.1 ∙ may.table_is ∙ sym c.requires.table

pub loop-pass-preserved : goal.loop-pass-preserved
loop-pass-preserved g c =
    let so = c.loop-pass.invariant in
    let pass : Token = c.in-Some-pass.pass in
    let n : ℕ = length c.args.passes.items in
    let rest : List Token = into_iter_items c.next-in-loop-pass.new.self in
    let split : so.done ++ pass ∷ rest ≡ c.args.passes.items = ap (λ ps. so.done ++ ps) (sym c.in-Some-pass.ensures.steps.0) ∙ so.split in
    let may : MayStep g.H.Home.table g.H.Home.owners g.H.Home.links pass = after (MayStep g.H.Home.table g.H.Home.owners g.H.Home.links) c.args.passes.items so.done rest pass split c.requires.all.may_step in
    let given = c.in-Some-give_seat-2.ensures in
    let pushed = c.push_reserved-in-loop-pass.ensures.items in
    let capacity = c.push_reserved-in-loop-pass.ensures.capacity in
    record {
      done = so.done ++ pass ∷ [];
      split = append_assoc so.done (pass ∷ []) rest ∙ split;
      gathered = gathered-next g.H.Home.table g.H.Home.owners g.H.Home.links n so.done pass _ _ _ may given.seat.2 so.gathered c.gather.ensures.joined;
      given_up = given-more so.done c.loop-pass.closed.items c.push_reserved-in-loop-pass.new.self.items pass c.give_seat-in-loop-pass.new.self so.given_up pushed given.kept.0 given.kept.1 given.gone;
      table = c.gather.ensures.same.0 ∙ so.table;
      room = (let long = ap length c.in-Some-pass.ensures.steps.0 in let more = ap length pushed ∙ length-append c.loop-pass.closed.items (c.give_seat-in-loop-pass.new.self ∷ []) in let room = so.room in omega (arith, long, more, room, capacity));
    }
