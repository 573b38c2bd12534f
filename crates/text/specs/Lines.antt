-- What a line says, and what is kept of a text that is put into one.
use Rattle.std.specs.Prelude.{ℕ, List, take}
use Rattle.given.specs.Kept.{kept as listed}
use Rattle.text.specs.declared.line.Line.{Line}

-- the text of a line: the bytes that it had room for
unfoldable pub text_of : Line → List ℕ
text_of l = listed l.bytes.count l.bytes.items

-- a line keeps the first 80 bytes of what is put into it
unfoldable pub kept : List ℕ → List ℕ
kept bytes = take 80 bytes
