-- Which of several checks answers.
use Rattle.std.specs.Prelude.{List, [], ◌∷◌, Some, None, Option}

abbrev pub or_else : {X : Type 0} → Option X → Option X → Option X
or_else None y = y
or_else (Some x) y = Some x

-- the first that there is, in the order of the list
abbrev pub first_of : {X : Type 0} → List (Option X) → Option X
first_of [] = None
first_of (x ∷ xs) = or_else x (first_of xs)
