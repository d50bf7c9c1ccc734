-- The clauses of `laws::texts_join` that the search can't prove.
use Rattle.iol_segment.proofs.TextLaws.{text_laws}
use Rattle.iol_segment.proofs.laws.texts_join.Goals as goal

pub returns : goal.returns
returns c = text_laws c.one_text_each.ensures.request c.one_text_each.ensures.request_length
    c.one_text_each.ensures.answer_length c.one_text_each.ensures.found
    c.one_text_each.ensures.accepted
