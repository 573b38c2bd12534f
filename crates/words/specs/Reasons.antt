-- The reason that a mistake gives, in bytes.
use Rattle.std.specs.Prelude.{ℕ, List, codes}
use Rattle.words.specs.declared.mistake.Mistake.{Mistake}
use Rattle.words.specs.declared.mistake.Mistake.TheVariants.{UnknownWord, MissingWord, ExtraWord, NotANumber, NotALetter, NotAPoint, NotABlock, NotYesOrNo, TooManyPrices, NotAShare, BusRange, RepeatedBus, NoSlash, ManyBasePoints}

abbrev pub reason_of : Mistake → List ℕ
reason_of UnknownWord = codes "unknown word"
reason_of MissingWord = codes "missing word"
reason_of ExtraWord = codes "extra word"
reason_of NotANumber = codes "not a number"
reason_of NotALetter = codes "a class is one letter"
reason_of NotAPoint = codes "a point is level:price"
reason_of NotABlock = codes "a block is size:price"
reason_of NotYesOrNo = codes "neither yes nor no"
reason_of TooManyPrices = codes "more than 64 reference prices"
reason_of NotAShare = codes "a share is bus:share"
reason_of BusRange = codes "a bus is 0 to 63"
reason_of RepeatedBus = codes "a bus is named twice"
reason_of NoSlash = codes "no / before the base points"
reason_of ManyBasePoints = codes "over 64 base points"
