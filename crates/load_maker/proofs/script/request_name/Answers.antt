-- A letter and a number are a name.
use Rattle.std.proofs.Common.{◌∙◌}
use Rattle.load_maker.proofs.LoopsMakeLoad.{never, named}
use Rattle.load_maker.proofs.script.request_name.Goals as goal

pub unreachable-requires : goal.unreachable-requires
unreachable-requires c = never (c.in-None.ensures.found.1 (named c.args.number c.as_bytes.result.now (c.as_bytes.ensures.value ∙ c.in_ok-text.ensures.ok) c.requires))
