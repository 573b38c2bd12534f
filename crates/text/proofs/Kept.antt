-- What a line keeps, piece after piece.
use Rattle.std.proofs.Common.{◌≡◌, ℕ, ◌≤◌, List, [], ◌++◌, length, sym}
use Rattle.std.proofs.lemmas.List.{append-nil, take_all}
use Rattle.given.proofs.Lists.{take_more_of, taken_both}
use Rattle.text.specs.declared.line.Line.{Line}
use Rattle.text.specs.Lines.{text_of, kept}

-- a text that fits is kept whole
pub kept_all : (xs : List ℕ) → length xs ≤ 80 → kept xs ≡ xs
unfolding kept
kept_all xs h = take_all 80 xs h

-- what is cut on the way would be cut at the end
pub kept_more : (xs ys : List ℕ) → kept (kept xs ++ ys) ≡ kept (xs ++ ys)
unfolding kept
kept_more xs ys = take_more_of 80 xs ys

-- two pieces put one after the other are one piece
pub kept_both : {mid end : List ℕ} (was xs ys : List ℕ) → mid ≡ kept (was ++ xs) → end ≡ kept (mid ++ ys) → end ≡ kept (was ++ (xs ++ ys))
unfolding kept
kept_both was xs ys p q = taken_both 80 was xs ys p q

-- a line's text is no longer than its room
pub text_at_most : (l : Line) → length (text_of l) ≤ 80
unfolding text_of
text_at_most l = l.within

-- a line that nothing is put into
pub kept_none : (l : Line) → text_of l ≡ kept (text_of l ++ [])
kept_none l = rw append-nil (sym (kept_all (text_of l) (text_at_most l)))
