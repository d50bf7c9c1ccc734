-- The clauses of `fields::image_of` that the search can't prove.
use Rattle.std.proofs.Common.{sym, ap, option_and_then, ◌∙◌}
use Rattle.iol_script.specs.Numerals.{octets_within, word_octets}
use Rattle.iol_script.proofs.FieldsLemmas.{within-is, not_within, image-within}
use Rattle.iol_script.proofs.fields.image_of.Goals as goal

pub returns-in_err-octets : goal.returns-in_err-octets
returns-in_err-octets c = c.from_residual.ensures
    ∙ not_within 32 (word_octets c.args.word.now) c.in_err-octets.ensures

pub returns : goal.returns
returns c =
    c.ok.ensures.value
    ∙ image-within c.as_slice.result.now c.new.result c.new.ensures.octets c.new.ensures.length
    ∙ ap (octets_within 1 32) c.as_slice.ensures.value
    ∙ sym (ap (option_and_then (octets_within 1 32)) (within-is 32 c.in_ok-octets.octets.items
    (word_octets c.args.word.now) c.in_ok-octets.ensures))
