-- A cell with the handle of its allocator fits into memory: each call that takes or frees it needs
-- `has_room`.
-- For the clauses of `ImageSeat::drop`, `ImageSeat::load`, `ImageWriter::drop` and 3 more.
use Rattle.std.proofs.Common.{ℕ, ◌+◌, ◌<◌, max, inl, inr, lit<}
use prog.Memory.{up}
use Rattle.iol_cell.specs.Handle.{IsNoneOrAddress}

abbrev pub cell_alignment : ℕ → ℕ
cell_alignment alignment = max 8 (max 8 (max 8 (max 8 (max 8 (max alignment 1)))))

abbrev pub cell_size : ℕ → ℕ → ℕ
cell_size octets alignment =
    up (max (cell_alignment alignment) 1)
    (up (cell_alignment alignment) 0 + up (cell_alignment alignment) (up alignment 64 + octets))

abbrev pub HasRoom : ℕ → ℕ → Type 0
HasRoom octets alignment = cell_size octets alignment < 9223372036854775808

pub has_room : (octets alignment : ℕ) → IsNoneOrAddress octets alignment → HasRoom octets alignment
has_room octets alignment (inl none) =
    let size = none.0 in let unit = none.1 in rw (size, unit) (lit< tt)
has_room octets alignment (inr address) =
    let size = address.0 in let unit = address.1 in rw (size, unit) (lit< tt)
