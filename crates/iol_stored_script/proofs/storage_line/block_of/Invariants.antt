-- What each round of a loop of `storage_line::block_of` keeps.
use Rattle.std.proofs.Common.{◌≡◌, length, option_map}
use Rattle.iol_script.specs.Text.{words_left}
use Rattle.iol_stored_script.specs.StorageLines.{block_form, more_writes}
use Rattle.iol_stored_script.specs.declared.storage_line.StorageCall.TheVariants.{Block}
use Rattle.iol_stored_script.proofs.storage_line.block_of.Given as goal

abbrev pub invariant-loop-word : goal.invariant-loop-word
invariant-loop-word l = block_form (words_left l.fn.words)
    ≡ option_map (Block l.keep) (more_writes l.writes (words_left l.words))

abbrev pub decreases-loop-word : goal.decreases-loop-word
decreases-loop-word l = length (words_left l.words)
