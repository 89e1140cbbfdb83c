-- A reply that is expected goes on from where the setup has come.
use Rattle.std.proofs.Common.{◌≡◌, ◌++◌, ◌∷◌, [], true, subst, sym, ap, ◌∙◌}
use Rattle.setup_protocol.specs.Setup.{progress_of, is_expected}
use Rattle.setup_protocol.specs.State.{advance}
use Rattle.setup_protocol.proofs.SetupAdvances.{progress-advances}
use Rattle.setup_protocol.proofs.setup.Setup.take.Goals as goal

pub returns-then-expects-clause-taken : goal.returns-then-expects-clause-taken
returns-then-expects-clause-taken c replies stands =
    let request = c.args.self.now.request in
    let expected : is_expected request (progress_of request replies) c.args.reply ≡ true = subst (λ p. is_expected request p c.args.reply ≡ true) stands (sym c.expects.ensures ∙ c.if-expects.true) in
    c.advance.ensures.progress ∙ ap (λ p. advance request p c.args.reply) stands ∙ sym (progress-advances request replies c.args.reply expected)
    ∙ ap (λ r. progress_of r (replies ++ c.args.reply ∷ [])) (sym c.advance.ensures.request)
