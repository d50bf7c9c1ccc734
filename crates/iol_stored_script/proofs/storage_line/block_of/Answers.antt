-- What the search can't prove of the body of `storage_line::block_of`.
use Rattle.std.proofs.Common.{◌∙◌, ap, option_map, rules}
use Rattle.iol_stored_script.specs.declared.storage_line.StorageCall.TheVariants.{Block}
use Rattle.iol_stored_script.proofs.WritesLemmas.{first_write, next_write}
use Rattle.iol_stored_script.proofs.storage_line.block_of.Goals as goal

pub returns-in_err-put_write : goal.returns-in_err-put_write
returns-in_err-put_write c =
    rw (first_write _ _ _ _ _ _ c.in_ok-next.ensures.steps c.in_ok-keep.ensures
    c.new-writes.ensures
    c.in_err-put_write.ensures) (search rules)

pub loop-word-init : goal.loop-word-init
loop-word-init c = first_write _ _ _ _ _ _ c.in_ok-next.ensures.steps c.in_ok-keep.ensures
    c.new-writes.ensures
    c.in_ok-put_write.ensures

pub loop-word-preserved : goal.loop-word-preserved
loop-word-preserved c = c.loop-word.invariant
    ∙ ap (option_map (Block c.in_ok-keep.keep))
    (next_write _ _ _ _ _ c.in-Some.ensures.steps c.in_ok-slash_of.ensures
    c.in_ok-put_write-2.ensures)
