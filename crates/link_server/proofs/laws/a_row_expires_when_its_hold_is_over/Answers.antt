-- The two ways in which a hold ends agree.
use Rattle.link_server.proofs.Calendars.HoldsAgree.{holds-agree}
use Rattle.link_server.proofs.laws.a_row_expires_when_its_hold_is_over.Goals as goal

pub returns : goal.returns
returns c = holds-agree
