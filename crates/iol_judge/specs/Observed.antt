-- What is known of a page: each of the octets 0x02 to 0x0B that was read, or was told.
use Rattle.std.specs.Prelude.{ℕ, Bool, ◌-◌, ◌&&◌, nat_le, if◌then◌else◌, List, [], ◌∷◌, map, replicate, slice_index, slice_index_or, slice_set, Option, Some, None, Result, Err}
use Rattle.std.specs.Result.{result_map_both}
use Rattle.iol_page.specs.Page.{layouts_of}
use Rattle.iol_page.specs.declared.page.Layouts.{Layouts}
use Rattle.iol_judge.specs.declared.open.Open.{Open}
use Rattle.iol_judge.specs.declared.open.Open.TheVariants.{PageUnread, PageRefused}

abbrev pub nothing_observed : List (Option ℕ)
nothing_observed = replicate 10 None

abbrev pub whole_page : List ℕ → List (Option ℕ)
whole_page page =
    map (λ place. Some (slice_index page place))
    (0 ∷ 1 ∷ 2 ∷ 3 ∷ 4 ∷ 5 ∷ 6 ∷ 7 ∷ 8 ∷ 9 ∷ [])

abbrev pub is_of_page : ℕ → Bool
is_of_page address = nat_le 2 address && nat_le address 11

-- what a page address other than 0x01 reads as, where it is known
abbrev pub octet_observed : List (Option ℕ) → ℕ → Option ℕ
octet_observed observed address =
    if is_of_page address then slice_index_or observed (address - 2) None else Some 0

-- a page address was read as this octet
abbrev pub page_noted : List (Option ℕ) → ℕ → ℕ → List (Option ℕ)
page_noted observed address octet =
    if is_of_page address then slice_set observed (address - 2) (Some octet) else observed

-- the layouts that a page with these octets at 0x03 to 0x06 asks for
unfoldable pub layouts_by : ℕ → ℕ → ℕ → ℕ → Result Layouts Open
layouts_by capability revision input output =
    result_map_both (λ layouts. layouts) (λ fault. PageRefused)
    (layouts_of (0 ∷ capability ∷ revision ∷ input ∷ output ∷ 0 ∷ 0 ∷ 0 ∷ 0 ∷ 0 ∷ []))

abbrev pub layouts_known : Option ℕ → Option ℕ → Option ℕ → Option ℕ → Result Layouts Open
layouts_known (Some capability) (Some revision) (Some input) (Some output) =
    layouts_by capability revision input output
layouts_known capability revision input output = Err PageUnread

-- the layouts that the page asks for, where that is known
abbrev pub layouts_observed : List (Option ℕ) → Result Layouts Open
layouts_observed observed =
    layouts_known (octet_observed observed 3) (octet_observed observed 4)
    (octet_observed observed 5) (octet_observed observed 6)
