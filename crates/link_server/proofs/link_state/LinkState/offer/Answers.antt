-- The rules are tried in their order, over the reservations of the account.
use Rattle.std.proofs.Common.{◌≡◌, ◌≤◌, length, map, sym, ap, ◌∙◌, subst, arith}
use Rattle.std.proofs.lemmas.Bool.{le-leb, lt-leb}
use Rattle.link_server.proofs.Words.{level_number, last_bound, reach_of, best_level, refused_sum, Offer, Refused, need_of, free_units, admitted, TableAccount, level_of, reservation_in, row_in, account_in}
use Rattle.link_steps.specs.declared.replies.Refusal.TheVariants.{NoLevel}
use Rattle.link_steps.specs.Account.{account_terms, account_reply}
use Rattle.link_steps.proofs.LevelByNumber.{level_of-level}
use Rattle.link_server.proofs.RowsOfTable.Places.{terms-found, terms-absent}
use Rattle.link_server.proofs.RowsOfTable.Parts.{free-is}
use Rattle.link_server.proofs.Replies.Setup.{reserve-wide, reserve-twice, reserve-no_level, reserve-no_buffer, reserve-offer, reply-may}
use Rattle.link_server.proofs.link_state.LinkState.offer.Goals as goal

pub returns-then-smax-self-clause-reply : goal.returns-then-smax-self-clause-reply
unfolding account_reply
returns-then-smax-self-clause-reply c =
    rw (c.from.ensures, c.smax-smax.ensures.value, c.from-then-smax-self.ensures)
    (reserve-wide c.args.self.now.shape (map account_terms c.args.self.now.table.rows) c.args.wanted.now.chan c.args.wanted.now.contract c.args.wanted.now.delay c.args.wanted.now.up_reach (lt-leb c.args.wanted.now.contract.smax c.args.self.now.shape.cap (omega (arith, c.if-smax-self.true, c.smax-smax.ensures.value))))

pub returns-in-Some-clause-reply : goal.returns-in-Some-clause-reply
unfolding account_reply
returns-in-Some-clause-reply c =
    let wide = le-leb c.args.wanted.now.contract.smax c.args.self.now.shape.cap (omega (arith, c.if-smax-self.false, c.smax-smax.ensures.value)) in
    let found = terms-found c.args.wanted.now.chan c.args.self.now.table.rows (row_in c.in-Some.row.now) c.in-Some.ensures.some in
    reserve-twice c.args.self.now.shape (map account_terms c.args.self.now.table.rows) c.args.wanted.now.chan c.args.wanted.now.contract c.args.wanted.now.delay c.args.wanted.now.up_reach (reservation_in c.in-Some.row.now) wide found

pub returns-in-Err-clause-reply : goal.returns-in-Err-clause-reply
unfolding account_reply
returns-in-Err-clause-reply c =
    let wide = le-leb c.args.wanted.now.contract.smax c.args.self.now.shape.cap (omega (arith, c.if-smax-self.false, c.smax-smax.ensures.value)) in
    let absent = terms-absent c.args.wanted.now.chan c.args.self.now.table.rows c.in_default.ensures.none in
    let best = sym (ap (λ (table : TableAccount). best_level table.server (map admitted (map account_terms c.args.self.now.table.rows)) c.args.wanted.now.contract) c.args.self.now.of_shape) ∙ c.in-Err.ensures.level in
    let sum = c.in-Err.ensures.sum ∙ ap (λ (table : TableAccount). refused_sum table.server (map admitted (map account_terms c.args.self.now.table.rows)) c.args.wanted.now.contract) c.args.self.now.of_shape in
    let bound = c.in-Err.ensures.bound ∙ ap (λ (table : TableAccount). last_bound table.server.bounds) c.args.self.now.of_shape in
    ap (λ n. Refused (NoLevel c.in-Err.none.sum n)) bound
    ∙ ap (λ n. Refused (NoLevel n (last_bound c.args.self.now.shape.bounds))) sum
    ∙ reserve-no_level c.args.self.now.shape (map account_terms c.args.self.now.table.rows) c.args.wanted.now.chan c.args.wanted.now.contract c.args.wanted.now.delay c.args.wanted.now.up_reach wide absent best

pub reach_of-reach-requires : goal.reach_of-reach-requires
reach_of-reach-requires c = subst (λ n. level_number c.in-Ok.level ≤ n) (ap (λ (table : TableAccount). length table.server.bounds) c.args.self.now.of_shape) c.in-Ok.ensures.within

pub returns-then-need-free-clause-reply : goal.returns-then-need-free-clause-reply
unfolding account_reply
returns-then-need-free-clause-reply c =
    let wide = le-leb c.args.wanted.now.contract.smax c.args.self.now.shape.cap (omega (arith, c.if-smax-self.false, c.smax-smax.ensures.value)) in
    let absent = terms-absent c.args.wanted.now.chan c.args.self.now.table.rows c.in_default.ensures.none in
    let best = sym (ap (λ (table : TableAccount). best_level table.server (map admitted (map account_terms c.args.self.now.table.rows)) c.args.wanted.now.contract) c.args.self.now.of_shape) ∙ c.in-Ok.ensures.level in
    let need : c.need_of-need.result ≡ need_of c.args.self.now.shape.bounds c.args.wanted.now.contract c.args.wanted.now.up_reach (reach_of c.args.self.now.shape.bounds c.args.wanted.now.delay (level_number c.in-Ok.level)) =
    c.need_of-need.ensures ∙ ap (need_of c.args.self.now.shape.bounds c.args.wanted.now.contract c.args.wanted.now.up_reach) c.reach_of-reach.ensures.value in
    let free : c.free-free.result ≡ free_units c.args.self.now.shape (map account_terms c.args.self.now.table.rows) =
    c.free-free.ensures ∙ free-is c.args.self.now in
    rw (need, free) (reserve-no_buffer c.args.self.now.shape (map account_terms c.args.self.now.table.rows) c.args.wanted.now.chan c.args.wanted.now.contract c.args.wanted.now.delay c.args.wanted.now.up_reach (level_number c.in-Ok.level) wide absent best (lt-leb _ _ (omega (arith, need, free, c.if-need-free.true))))

pub returns-else-need-free-clause-reply : goal.returns-else-need-free-clause-reply
unfolding account_reply
returns-else-need-free-clause-reply c =
    let wide = le-leb c.args.wanted.now.contract.smax c.args.self.now.shape.cap (omega (arith, c.if-smax-self.false, c.smax-smax.ensures.value)) in
    let absent = terms-absent c.args.wanted.now.chan c.args.self.now.table.rows c.in_default.ensures.none in
    let best = sym (ap (λ (table : TableAccount). best_level table.server (map admitted (map account_terms c.args.self.now.table.rows)) c.args.wanted.now.contract) c.args.self.now.of_shape) ∙ c.in-Ok.ensures.level in
    let need : c.need_of-need.result ≡ need_of c.args.self.now.shape.bounds c.args.wanted.now.contract c.args.wanted.now.up_reach (reach_of c.args.self.now.shape.bounds c.args.wanted.now.delay (level_number c.in-Ok.level)) =
    c.need_of-need.ensures ∙ ap (need_of c.args.self.now.shape.bounds c.args.wanted.now.contract c.args.wanted.now.up_reach) c.reach_of-reach.ensures.value in
    let free : c.free-free.result ≡ free_units c.args.self.now.shape (map account_terms c.args.self.now.table.rows) =
    c.free-free.ensures ∙ free-is c.args.self.now in
    ap (λ level. Offer level c.reach_of-reach.result) (sym (level_of-level c.in-Ok.level))
    ∙ ap (Offer (level_of (level_number c.in-Ok.level))) (sym (level_of-level c.reach_of-reach.result) ∙ ap level_of c.reach_of-reach.ensures.value)
    ∙ reserve-offer c.args.self.now.shape (map account_terms c.args.self.now.table.rows) c.args.wanted.now.chan c.args.wanted.now.contract c.args.wanted.now.delay c.args.wanted.now.up_reach (level_number c.in-Ok.level) wide absent best (le-leb _ _ (omega (arith, need, free, c.if-need-free.false)))

pub returns-else-need-free-clause-may : goal.returns-else-need-free-clause-may
returns-else-need-free-clause-may c = reply-may c.args.self.now.shape (account_in c.args.self.now) c.args.wanted.now _ (returns-else-need-free-clause-reply c)
