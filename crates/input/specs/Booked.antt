-- Whether a script has begun a book.
use Rattle.std.specs.Prelude.{Bool, ◌||◌, is_some, vec_len, nat_lt}
use Rattle.input.specs.declared.input.Input.{Input}

-- a cap for a house book, or a block
abbrev pub has_book : Input → Bool
has_book i = is_some i.cap || nat_lt 0 (vec_len i.blocks)
