-- The number and the layer of each cause, in one definition that every contract on a refusal uses.
use Rattle.std.specs.Prelude.{◌≡◌, ℕ}
use Rattle.fault.specs.declared.cause.Cause.{Cause}
use Rattle.fault.specs.declared.cause.Cause.TheVariants.{OfferCap, RowCount, ClassLetter, BusNumber, UnitLimits, PointCount, CurveLevels, CurvePrices, Reading, LineCount, ShareRange, Absent, Amount, StepNumber, ListLength, PriceRange, UnobservedPrice, BasePoint, Balance, FlowLimit, GapTolerance, Contents, FolioLength, Padding, RecordCounts, NotHeld, ShortBuffer}
use Rattle.fault.specs.declared.cause.Layer.{Layer}
use Rattle.fault.specs.declared.cause.Layer.TheVariants.{Book, Network, Run, Folio}

pub record Code : Type 0 where
  pub number : ℕ
  pub layer : Layer

abbrev code : ℕ → Layer → Code
code n l = record { number = n; layer = l }

abbrev pub code_of : Cause → Code
code_of OfferCap = code 1 Book
code_of RowCount = code 2 Book
code_of ClassLetter = code 3 Book
code_of BusNumber = code 4 Book
code_of UnitLimits = code 5 Book
code_of PointCount = code 6 Book
code_of CurveLevels = code 7 Book
code_of CurvePrices = code 8 Book
code_of Reading = code 9 Book
code_of LineCount = code 10 Network
code_of ShareRange = code 11 Network
code_of Absent = code 12 Run
code_of Amount = code 13 Run
code_of StepNumber = code 14 Run
code_of ListLength = code 15 Run
code_of PriceRange = code 16 Run
code_of UnobservedPrice = code 17 Run
code_of BasePoint = code 18 Run
code_of Balance = code 19 Run
code_of FlowLimit = code 20 Run
code_of GapTolerance = code 21 Run
code_of Contents = code 22 Folio
code_of FolioLength = code 23 Folio
code_of Padding = code 24 Folio
code_of RecordCounts = code 25 Folio
code_of NotHeld = code 26 Run
code_of ShortBuffer = code 27 Run

abbrev pub number_of : Cause → ℕ
number_of c = (code_of c).number

abbrev pub layer_of : Cause → Layer
layer_of c = (code_of c).layer

-- the letters B, N, R and F
abbrev pub letter_of : Layer → ℕ
letter_of Book = 66
letter_of Network = 78
letter_of Run = 82
letter_of Folio = 70

-- no two causes have one number
abbrev pub Apart : Type 0
Apart = (c d : Cause) → number_of c ≡ number_of d → c ≡ d
