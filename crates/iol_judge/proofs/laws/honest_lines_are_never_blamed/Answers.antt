-- The clauses of `laws::honest_lines_are_never_blamed` that the search can't prove.
use Rattle.iol_judge.proofs.Fairness.{never_blamed}
use Rattle.iol_judge.proofs.Sending.{texts_of}
use Rattle.iol_judge.proofs.laws.honest_lines_are_never_blamed.Goals as goal

pub returns : goal.returns
returns c = never_blamed (record {
  pages = c.pages_ask_for_layouts.ensures;
  texts = texts_of c.modes_have_layouts.ensures c.texts_join.ensures
      c.requests_are_received.ensures c.cut_is_whole.ensures.sized;
}) c.parts_stay_regular.ensures c.page_and_room_stay.ensures.much c.replies_are_read.ensures.read
