-- The room that an allocator's handle takes.
use Rattle.std.specs.Prelude.{◌≡◌, ℕ, ◌⊎◌}
use prog.Memory.{size, align}
use denote.RattleType.{RattleType}
use denote.Param.{layout}

-- none, or that of one address
abbrev pub IsNoneOrAddress : ℕ → ℕ → Type 0
IsNoneOrAddress octets alignment = ((octets ≡ 0) × (alignment ≡ 1))
    ⊎ ((octets ≡ 8) × (alignment ≡ 8))

abbrev pub IsSmall : RattleType → Type 0
IsSmall T = IsNoneOrAddress (size (layout T)) (align (layout T))
