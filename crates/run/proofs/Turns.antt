-- One call more of a list, and its answer.
use Rattle.std.proofs.Common.{◌≡◌, ℕ, ◌+◌, ◌<◌, cond, ltb, ◌≢◌, List, [], ◌∷◌, reverse, length, get_or, take, set, sym, ap, ◌∙◌, subst, ⊎_elim, arith, length-set, get_or-set_other, get_or-set_same}
use Rattle.std.proofs.lemmas.List.{take_more, reverse-append}
use Rattle.std.proofs.lemmas.Bool.{cases_eq, cases_lt, cond-true, cond-false, lt-ltb, le-ltb}

pub newest_more : {X : Type 0} (xs : List X) (i : ℕ) (d : X) → i < length xs → reverse (take (i + 1) xs) ≡ get_or xs i d ∷ reverse (take i xs)
newest_more xs i d h = ap reverse (take_more xs i d h) ∙ reverse-append (take i xs) (get_or xs i d ∷ [])

-- what the first i places have of a function, and the rest of what stood there
abbrev pub Noted : {X : Type 0} → X → (ℕ → X) → ℕ → List X → List X → Type 0
Noted d f i before now = (length now ≡ length before) × ((k : ℕ) → k < length before → get_or now k d ≡ cond (ltb k i) (f k) (get_or before k d))

module _ {X : Type 0} (d : X) (f : ℕ → X) (i : ℕ) (before now : List X) (so_far : Noted d f i before now) where
  earlier : (k : ℕ) → k ≢ i → cond (ltb k i) (f k) (get_or before k d) ≡ cond (ltb k (i + 1)) (f k) (get_or before k d)
  earlier k ne =
      ⊎_elim
      (λ l. cond-true _ _ _ (lt-ltb k i l) ∙ sym (cond-true _ _ _ (lt-ltb k (i + 1) (omega arith))))
      (λ g. cond-false _ _ _ (le-ltb k i g) ∙ sym (cond-false _ _ _ (le-ltb k (i + 1) (omega arith))))
      (cases_lt k i)

  pub noted_more : (x : X) → x ≡ f i → Noted d f (i + 1) before (set now i x)
  noted_more x is = (
    simp length-set so_far.0,
    λ k h.
        ⊎_elim
        (λ e.
        let P : ℕ → Type 0 = λ j. get_or (set now i x) j d ≡ cond (ltb j (i + 1)) (f j) (get_or before j d) in
        let long = so_far.0 in
        let fits : i < length now = omega arith in
        subst P (sym e) (get_or-set_same now i x d fits ∙ is ∙ sym (cond-true _ _ _ (lt-ltb i (i + 1) (omega arith)))))
        (λ ne. let other : k ≢ i = ne in (rw get_or-set_other (so_far.1 k h)) ∙ earlier k ne)
        (cases_eq k i),
  )
