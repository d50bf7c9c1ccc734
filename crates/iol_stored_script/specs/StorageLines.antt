-- The lines of a script that set up a port with Data Storage, or make a call that it alone has.
use Rattle.std.specs.Prelude.{ℕ, ◌-◌, ◌^◌, Option, Some, None, option_map, option_and_then, List, [], ◌∷◌, ◌++◌, if◌then◌else◌, codes}
use Rattle.std.specs.Str.{bytes_eq}
use Rattle.iol_isdu.specs.declared.values.Place.{Place}
use Rattle.iol_script.specs.Numerals.{of_both, number_in, octets_within, word_octets}
use Rattle.iol_script.specs.RunLines.{parameter_octets, place_of_words}
use Rattle.iol_script.specs.Text.{alone, line_words}
use Rattle.iol_storage.specs.declared.attempt.StorageMode.{StorageMode}
use Rattle.iol_storage.specs.declared.attempt.StorageMode.TheVariants.{Off, Restore, Both, Own}
use Rattle.iol_storage.specs.declared.download.Keep.{Keep}
use Rattle.iol_storage.specs.declared.download.Keep.TheVariants.{No, Yes}
use Rattle.iol_storage.specs.Objects.{fits_behind}
use Rattle.iol_stored_script.specs.declared.storage_line.StorageCall.{StorageCall}
use Rattle.iol_stored_script.specs.declared.storage_line.StorageCall.TheVariants as storage
use Rattle.iol_stored_script.specs.declared.storage_line.StorageLine.{StorageLine}
use Rattle.iol_stored_script.specs.declared.storage_line.StorageLine.TheVariants.{Store, Call}

-- the word behind `store`
abbrev pub storage_mode_named : List ℕ → Option StorageMode
storage_mode_named word =
    if bytes_eq word (codes "off") then Some Off else
    if bytes_eq word (codes "restore") then Some Restore else
    if bytes_eq word (codes "both") then Some Both else
    if bytes_eq word (codes "own") then Some Own else None

abbrev pub store_form : List (List ℕ) → Option StorageMode
store_form (word ∷ []) = storage_mode_named word
store_form _ = None

-- A block

-- whether the device is to ask for an upload behind it
abbrev pub keep_named : List ℕ → Option Keep
keep_named word =
    if bytes_eq word (codes "plain") then Some No else
    if bytes_eq word (codes "store") then Some Yes else None

-- a write: a place and its octets
abbrev pub write_of_words : List ℕ → List ℕ → List ℕ → Option (Place × List ℕ)
write_of_words index sub word =
    of_both (λ place octets. (place, octets)) (place_of_words index sub) (parameter_octets word)

-- it stands behind others, where there is room for it
abbrev pub write_behind : List (Place × List ℕ) → Place × List ℕ → Option (List (Place × List ℕ))
write_behind writes write =
    if fits_behind writes write.1 then Some (writes ++ write ∷ []) else None

-- three words are a write behind these, and more words follow
abbrev pub write_taken : List (Place × List ℕ) → List (List ℕ)
    → Option (List (Place × List ℕ) × List (List ℕ))
write_taken writes (index ∷ sub ∷ word ∷ words) = option_map (λ more. (more, words))
    (option_and_then (write_behind writes) (write_of_words index sub word))
write_taken writes _ = None

-- more of them behind these, each behind a slash
abbrev pub more_writes : List (Place × List ℕ) → List (List ℕ) → Option (List (Place × List ℕ))
more_writes writes [] = Some writes
more_writes writes (slash ∷ index ∷ sub ∷ word ∷ words) =
    if bytes_eq slash (codes "/")
    then option_and_then (λ more. more_writes more words)
    (option_and_then (write_behind writes) (write_of_words index sub word))
    else None
more_writes writes _ = None

-- the words behind `block`: the first write has no slash
abbrev pub block_form : List (List ℕ) → Option StorageCall
block_form [] = None
block_form (word ∷ words) =
    of_both storage.Block (keep_named word) (more_writes [] (codes "/" ∷ words))

-- Other calls

-- the word behind `outcome`: the number of a block
abbrev pub outcome_form : List (List ℕ) → Option StorageCall
outcome_form (word ∷ []) =
    option_map (λ number. storage.Outcome (record { 0 = number })) (number_in 0 (2 ^ 64 - 1) word)
outcome_form _ = None

-- the word behind `load`: the octets of a set
abbrev pub load_form : List (List ℕ) → Option StorageCall
load_form (word ∷ []) = option_map (λ octets. storage.Load (record { items = octets }))
    (option_and_then (octets_within 0 512) (word_octets word))
load_form _ = None

-- the calls of one word
abbrev pub bare_storage_call : List ℕ → Option StorageCall
bare_storage_call name =
    if bytes_eq name (codes "standing") then Some storage.Standing else
    if bytes_eq name (codes "set") then Some storage.Backup else
    if bytes_eq name (codes "save") then Some storage.Save else
    if bytes_eq name (codes "forget") then Some storage.Forget else
    if bytes_eq name (codes "release") then Some storage.Release else None

-- the words of one call
abbrev pub storage_call_form : List ℕ → List (List ℕ) → Option StorageCall
storage_call_form name words =
    if bytes_eq name (codes "block") then block_form words else
    if bytes_eq name (codes "outcome") then outcome_form words else
    if bytes_eq name (codes "load") then load_form words else
    alone (bare_storage_call name) words

-- Lines

abbrev pub storage_words : List (List ℕ) → Option StorageLine
storage_words [] = None
storage_words (name ∷ words) =
    if bytes_eq name (codes "store") then option_map Store (store_form words) else
    option_map Call (storage_call_form name words)

-- what a line says, where it fits a form
abbrev pub storage_form : List ℕ → Option StorageLine
storage_form line = option_and_then storage_words (line_words line)
