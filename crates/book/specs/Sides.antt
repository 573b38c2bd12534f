-- What a side counts.
use Rattle.std.specs.Prelude.{◌≡◌, ℤ, pos, ◌*ℤ◌, Some, None, Option, refl}
use Rattle.book.specs.Meaning.{generator, load}
use Rattle.book.specs.declared.side.Side.{Side}
use Rattle.book.specs.declared.side.Side.TheVariants.{Generator, Load}

abbrev pub sign_of : Side → ℤ
sign_of Generator = generator
sign_of Load = load

-- a participant that is not there has no side, and counts 0
abbrev pub side_of : Option Side → ℤ
side_of None = pos 0
side_of (Some s) = sign_of s

-- a side is its own inverse
pub squared : (s : Side) → (sign_of s *ℤ sign_of s) ≡ pos 1
squared Generator = refl
squared Load = refl
