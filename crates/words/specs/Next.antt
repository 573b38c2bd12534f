-- The text that words are taken from.
use Rattle.std.specs.Prelude.{◌≡◌, ℕ, ◌<◌, List, ◌++◌, length, ◌≢◌, slice_index}
use Rattle.std.specs.Str.Iter.{split_whitespace_rest}
use Rattle.std.specs.Char.{is_whitespace, is_not_whitespace}
use Rattle.std.specs.Str.{NoCharPasses, EmptyOrStartsWithPassing}
use Rattle.words.specs.declared.line.Words.{Words}

-- what is left of the text
abbrev pub left : Words → List ℕ
left w = split_whitespace_rest w.rest

-- a line up to its comment, which the byte 35 opens
unfoldable pub Said : List ℕ → List ℕ → Type 0
Said line text =
    ((i : ℕ) → i < length text → slice_index text i ≢ 35) × ((rest : List ℕ) × (line ≡ text ++ rest) × (0 < length rest → slice_index rest 0 ≡ 35))

-- a text begins with a word, after white space if there is any, and then goes on with the rest
unfoldable pub Next : List ℕ → List ℕ → List ℕ → Type 0
Next text word rest =
    (gap : List ℕ)
    × (text ≡ gap ++ (word ++ rest))
    × (0 < length word)
    × NoCharPasses is_not_whitespace gap
    × NoCharPasses is_whitespace word
    × ((more : List ℕ) × EmptyOrStartsWithPassing is_whitespace rest more)

-- no word is left
unfoldable pub Spent : List ℕ → Type 0
Spent text = NoCharPasses is_not_whitespace text

-- a word is left
unfoldable pub More : List ℕ → Type 0
More text = (word : List ℕ) × (rest : List ℕ) × Next text word rest
