-- What the words of a row say.
use Rattle.std.specs.Prelude.{ℕ, List, [], ◌∷◌}
use Rattle.block.specs.declared.row.BlockRow.{BlockRow}
use Rattle.rows.specs.declared.row.Row.{Row}
use Rattle.words.specs.Next.{Next}
use Rattle.entries.specs.Numbers.{Holds}
use Rattle.entries.specs.Entries.{Reads, Counted}
use Rattle.entries.specs.Priced.{IsPoint, IsBlock}

-- bus and blocks
abbrev pub IsBlockRow : List ℕ → BlockRow → Type 0
IsBlockRow text row =
    (after : List ℕ) × Reads (Holds 255) text (row.bus ∷ []) after × Counted {n = 10} IsBlock after row.blocks

-- a word for the class, bus, five levels, and points
abbrev pub IsRow : List ℕ → Row → Type 0
IsRow text row =
    (class : List ℕ) × (first : List ℕ) × (second : List ℕ) × (third : List ℕ)
    × Next text class first
    × Reads (Holds 255) first (row.bus ∷ []) second
    × Reads (Holds 65535) second (row.lsl ∷ row.ldl ∷ row.hdl ∷ row.hsl ∷ row.reading ∷ []) third
    × Counted {n = 10} IsPoint third row.points
