-- The mistakes that a line of any kind may hold.
use Rattle.std.specs.Prelude.{◌≢◌}
use Rattle.words.specs.declared.mistake.Mistake.{Mistake}
use Rattle.words.specs.declared.mistake.Mistake.TheVariants.{NoSlash, ManyBasePoints}

-- all but two, of proposals and of base points
abbrev pub IsPlain : Mistake → Type 0
IsPlain m = (m ≢ NoSlash) × (m ≢ ManyBasePoints)
