-- One is left, and it isn't a run of quiet ticks.
use Rattle.std.proofs.Common.{◌+◌, ◌∷◌, drop, sym, ap, ◌∙◌, arith}
use Rattle.std.proofs.lemmas.List.{drop_more}
use Rattle.plane_workers.proofs.SaidInTurn.{first-reply, left-inside, written-out}
use Rattle.plane_workers.proofs.lane.Lane.next_reply.Goals as goal

pub index-requires : goal.index-requires
index-requires c = (let within = left-inside c.args.self.now.said.items c.args.self.now.told c.requires.left.0 c.requires.left.1.0 c.requires.left.1.1 in omega (arith, within, c.args.self.now.said.ok.0))

pub unreachable-requires : goal.unreachable-requires
unreachable-requires c =
    let within = left-inside c.args.self.now.said.items c.args.self.now.told c.requires.left.0 c.requires.left.1.0 c.requires.left.1.1 in
    written-out c.args.self.now.said.items c.args.self.now.told c.in-Quiet.field-0 (drop (c.args.self.now.told + 1) c.args.self.now.said.items) c.requires.written
    (drop_more c.args.self.now.said.items c.args.self.now.told c.index.result.now within ∙ ap (λ x. x ∷ drop (c.args.self.now.told + 1) c.args.self.now.said.items) (sym c.index.ensures ∙ c.in-Quiet.is))

pub returns : goal.returns
returns c =
    let within = left-inside c.args.self.now.said.items c.args.self.now.told c.requires.left.0 c.requires.left.1.0 c.requires.left.1.1 in
    record {
      inside = within;
      first = first-reply c.args.self.now.said.items c.args.self.now.told c.in-Replied.reply
          (drop_more c.args.self.now.said.items c.args.self.now.told c.index.result.now within ∙ ap (λ x. x ∷ drop (c.args.self.now.told + 1) c.args.self.now.said.items) (sym c.index.ensures ∙ c.in-Replied.is));
    }
