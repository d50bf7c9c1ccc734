-- What each round of a loop of `messages::message` keeps.
use Rattle.std.proofs.Common.{true}
use Rattle.iol_mseq.specs.Master.{HasMasterParts}
use Rattle.iol_mseq.specs.Replies.{HasReplyParts}
use Rattle.iol_bench.proofs.messages.message.Given as goal

abbrev pub invariant-loop : goal.invariant-loop
invariant-loop l = HasMasterParts l.layout l.message × HasReplyParts l.layout true l.reply
