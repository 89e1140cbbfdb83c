use Rattle.std.proofs.Common.{[], refl, inl}
use Rattle.byte_ends.proofs.Blocks.{Answers-settled, Moves-settled}
use Rattle.byte_ends.proofs.Settling.{HasLine-given, over-settles, cut-settles, final-settles}
use Rattle.byte_ends.proofs.Outlooks.{Foretells-answered}
use Rattle.byte_ends.specs.Cutting.{let_go}
use Rattle.byte_ends.proofs.lines.Lines.read_line.Goals as goal

pub returns-in-Some-clause-told : goal.returns-in-Some-clause-told
returns-in-Some-clause-told g c =
    let s = c.args.self.now in
    let left = g.S.Source.left c.args.source.now in
    let answers = Answers-settled c.in-Some.answer s s c.settle.new.self left left 0 0 (Moves-settled s s left [] refl refl refl refl) refl c.in-Some.ensures.settles in
    λ of. Foretells-answered c.in-Some.answer s c.settle.new.self left left 0 0 answers c.settle.ensures.stands of

pub returns-in-Some-clause-over_again : goal.returns-in-Some-clause-over_again
returns-in-Some-clause-over_again g c = over-settles c.in-Some.answer _ _ c.in-Some.ensures.settles c.settle.ensures.stands

pub returns-in-Some-clause-cut_again : goal.returns-in-Some-clause-cut_again
returns-in-Some-clause-cut_again g c = cut-settles c.in-Some.answer _ _ c.in-Some.ensures.settles c.settle.ensures.stands

pub returns-in-Some-clause-same_again : goal.returns-in-Some-clause-same_again
returns-in-Some-clause-same_again g c = final-settles c.in-Some.answer _ _ c.in-Some.ensures.settles

pub returns-in-None-clause-told : goal.returns-in-None-clause-told
returns-in-None-clause-told g c =
    let answers = rw c.in-None.ensures.settles.same at c.read_on.ensures.answers in
    λ of. Foretells-answered c.read_on.result (let_go c.args.self.now) c.read_on.new.self _ _ _ _ answers c.read_on.ensures.stands of

pub returns-in-Some-clause-near : goal.returns-in-Some-clause-near
returns-in-Some-clause-near g c =
    λ line. inl (HasLine-given c.args.self.now c.settle.new.self (rw line at c.in-Some.ensures.settles))
