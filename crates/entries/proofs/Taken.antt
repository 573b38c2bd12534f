-- Words that are taken one after another.
use Rattle.std.proofs.Common.{ℕ, List, [], ◌∷◌, ◌++◌, refl, subst, sym}
use Rattle.given.specs.declared.given.Given.{Given}
use Rattle.words.specs.Next.{Next}
use Rattle.entries.specs.Entries.{Reads, Lists, Counted, Within}

-- none is taken yet
pub reads_none : {X : Type 0} (R : List ℕ → X → Type 0) (text : List ℕ) → Reads R text [] text
unfolding Reads
reads_none R text = refl

-- one word more
pub reads_more : {X : Type 0} (R : List ℕ → X → Type 0) (text : List ℕ) (xs : List X) (mid word rest : List ℕ) (x : X) → Reads R text xs mid → Next mid word rest → R word x → Reads R text (xs ++ x ∷ []) rest
unfolding Reads
reads_more R text [] mid word rest x e next said =
    (word, rest, subst (λ t. Next t word rest) (sym e) next, said, refl)
reads_more R text (y ∷ ys) mid word rest x (w, after, first, say, more) next said =
    (w, after, first, say, reads_more R after ys mid word rest x more next said)

-- what follows from what each word says
pub reads_as : {X : Type 0} (R Q : List ℕ → X → Type 0) → ((word : List ℕ) (x : X) → R word x → Q word x) → (text : List ℕ) (xs : List X) (rest : List ℕ) → Reads R text xs rest → Reads Q text xs rest
unfolding Reads
reads_as R Q f text [] rest e = e
reads_as R Q f text (x ∷ xs) rest (word, after, next, said, more) =
    (word, after, next, f word x said, reads_as R Q f after xs rest more)

pub lists_as : {X : Type 0} (R Q : List ℕ → X → Type 0) → ((word : List ℕ) (x : X) → R word x → Q word x) → (text : List ℕ) (xs : List X) → Lists R text xs → Lists Q text xs
unfolding Lists
lists_as R Q f text xs (rest, reads, spent) = (rest, reads_as R Q f text xs rest reads, spent)

pub counted_as : {X : Type 0} {n : ℕ} (R Q : List ℕ → X → Type 0) → ((word : List ℕ) (x : X) → R word x → Q word x) → (text : List ℕ) (list : Given X n) → Counted R text list → Counted Q text list
counted_as R Q f text list (xs, lists, count, table) = (xs, lists_as R Q f text xs lists, count, table)

pub within_as : {X : Type 0} {n : ℕ} (R Q : List ℕ → X → Type 0) → ((word : List ℕ) (x : X) → R word x → Q word x) → (text : List ℕ) (list : Given X n) → Within R text list → Within Q text list
within_as R Q f text list (xs, lists, few, count, table) = (xs, lists_as R Q f text xs lists, few, count, table)

-- a single word
pub reads_one : {X : Type 0} (R : List ℕ → X → Type 0) (text word rest : List ℕ) (x : X) → Next text word rest → R word x → Reads R text (x ∷ []) rest
reads_one R text word rest x next said = reads_more R text [] text word rest x (reads_none R text) next said
