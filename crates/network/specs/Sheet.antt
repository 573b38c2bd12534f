-- What a sheet of injections holds.
use Rattle.std.specs.Prelude.{ℕ, Bool, ◌&&◌, ℤ, pos, negsuc, int_le, nat_lt, slice_index_or}
use Rattle.network.specs.declared.injections.Injections.{Injections}

-- the injection at bus b; 0 at a bus that is not there
abbrev pub sheet_of : Injections → ℕ → ℤ
sheet_of s b = slice_index_or s.at b (pos 0)

-- an amount that a sheet can hold, at a bus that there is
abbrev pub holds : ℕ → ℤ → Bool
holds b amount = nat_lt b 64 && int_le (negsuc 1279999) amount && int_le amount (pos 1280000)
