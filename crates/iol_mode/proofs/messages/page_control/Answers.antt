-- The clauses of `messages::page_control` that the search can't prove.
use Rattle.std.proofs.Common.{refl}
use Rattle.iol_mode.proofs.Controls.{page_control_is}
use Rattle.iol_mode.proofs.messages.page_control.Goals as goal

pub returns : goal.returns
returns c = page_control_is _ refl
