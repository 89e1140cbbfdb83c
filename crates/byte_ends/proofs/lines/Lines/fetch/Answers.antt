use Rattle.std.proofs.Common.{◌≡◌, false, [], length, ap, ◌∙◌, arith}
use Rattle.std.proofs.lemmas.List.{drop_all}
use Rattle.std.proofs.KnownBytes.{Keeps-refl}
use Rattle.byte_ends.specs.Cutting.{Cutting, WantsMore}
use Rattle.byte_ends.specs.Held.{cutting_of, front_of}
use Rattle.byte_ends.proofs.Fetching.{gathered, IsHeld-fetched, GivesNone-kept}
use Rattle.byte_ends.proofs.lines.Lines.fetch.Goals as goal
use Rattle.byte_ends.proofs.lines.Lines.fetch.Goals.{After-reserve}

-- the cutting before the call, by its fields
abbrev before : (g : _) (c : After-reserve g) → Cutting
before g c = let a = c.self.inside in cutting_of a.most a.taken a.number a.ended a.whole a.line.items a.block

undecided : (g : _) (c : After-reserve g) → WantsMore (before g c)
undecided g c = rw (← c.self.view_is) at c.requires

-- the line has all that was pending
all-pending : (g : _) (c : After-reserve g) → c.reserve.new.self.items ≡ (before g c).pending
all-pending g c =
    let a = c.self.inside in
    let moved : c.move_front.new.line.items ≡ (before g c).pending =
    gathered (front_of a.whole a.line.items) a.block c.begin_line.new.line.items c.move_front.new.line.items (length c.rest-count.result.now)
    c.begin_line.ensures.front (ap length c.rest-count.ensures.rest) c.move_front.ensures.line in
    rw c.reserve.ensures.items moved

-- the block is empty
none-left : (g : _) (c : After-reserve g) → c.move_front.new.block ≡ []
none-left g c = c.move_front.ensures.block ∙ drop_all (length c.rest-count.result.now) c.self.inside.block (omega (arith, ap length c.rest-count.ensures.rest))

pub returns-in_default-clause-fetches : goal.returns-in_default-clause-fetches
returns-in_default-clause-fetches g c =
    let r = (goal.at.returns-in_default-clause-fetches g c).After-reserve in
    let kept = GivesNone-kept (before g r) _ _ _ _ _ (undecided g r) c.begin_line.ensures.begun (all-pending g r) (none-left g r) (Keeps-refl (g.S.Source.left c.args.source.now)) in
    rw (← c.self.view_is) (record { stays = kept.0; open_still = kept.1 })

pub invariant_of-self-in-Taken : goal.invariant_of-self-in-Taken
invariant_of-self-in-Taken g c =
    let r = (goal.at.invariant_of-self-in-Taken g c).After-reserve in
    let read = c.in-Taken.ensures in
    let none : c.self.inside.ended ≡ false = (undecided g r).goes_on in
    IsHeld-fetched (before g r) _ _ _ _ _ _ c.self.invariant.cutting (undecided g r) c.begin_line.ensures.begun (all-pending g r)
    (omega (arith, read.count)) (omega (arith, read.at_most, (undecided g r).room)) (λ e. cc) (omega (arith, read.at_most, read.count, c.in-Ok.ensures.ok))

pub invariant_of-self-in-End : goal.invariant_of-self-in-End
invariant_of-self-in-End g c =
    let r = (goal.at.invariant_of-self-in-End g c).After-reserve in
    IsHeld-fetched (before g r) _ _ _ _ _ _ c.self.invariant.cutting (undecided g r) c.begin_line.ensures.begun (all-pending g r)
    (omega (arith, ap length c.in-End.ensures.0)) (omega (arith, (undecided g r).room)) (λ e. c.in-End.ensures.0) (omega (arith, ap length c.in-End.ensures.0, c.in-Ok.ensures.ok))

pub invariant_of-self-in-Failed : goal.invariant_of-self-in-Failed
invariant_of-self-in-Failed g c =
    let r = (goal.at.invariant_of-self-in-Failed g c).After-reserve in
    IsHeld-fetched (before g r) _ _ _ _ _ _ c.self.invariant.cutting (undecided g r) c.begin_line.ensures.begun (all-pending g r)
    (omega (arith, ap length c.in-Failed.ensures.0)) (omega (arith, (undecided g r).room)) (λ e. c.in-Failed.ensures.0) (omega (arith, ap length c.in-Failed.ensures.0, c.in-Ok.ensures.ok))

pub returns-in-Failed-clause-fetches : goal.returns-in-Failed-clause-fetches
returns-in-Failed-clause-fetches g c =
    let r = (goal.at.returns-in-Failed-clause-fetches g c).After-reserve in
    let failed = c.in-Failed.ensures in
    let kept = GivesNone-kept (before g r) _ _ _ _ _ (undecided g r) c.begin_line.ensures.begun (all-pending g r) failed.0 failed.1.keeps in
    rw (← c.self.view_is) (record { stays = kept.0; open_still = kept.1; rises = failed.1.rises })
