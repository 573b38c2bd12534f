-- A text copied into a part of a buffer is the text laid there.
use Rattle.std.proofs.Common.{◌≡◌, ℕ, ◌+◌, ◌<◌, ◌≤◌, true, false, List, length, Some, None, sym, ap, ◌∙◌, arith}
use borrow.Rule.Slice.PartMut.{put_mid}
use Rattle.std.proofs.lemmas.List.{append_assoc, drop-drop}
use Rattle.std.proofs.lemmas.Bool.{le-leb, lt-leb, cond-true, cond-false}
use Rattle.text.specs.Laid.{fits, laid, laid_end}

-- the part is n long, written k for what code computes, and holds the text now
pub laid_whole : (text before part : List ℕ) (at n k : ℕ) → n ≡ length text → k ≡ n → part ≡ text → at + n ≤ length before → (Some (at + n) ≡ laid_end text at before) × (put_mid at k before part ≡ laid text at before)
laid_whole text before part at n k e f g h =
    let p : fits text at before ≡ true = le-leb (at + length text) (length before) (omega arith) in (
      ap (λ m. Some (at + m)) e ∙ sym (cond-true (fits text at before) _ _ p),
      rw (f, g, e, drop-drop, ← append_assoc) (sym (cond-true (fits text at before) _ _ p)),
    )

pub laid_not : (text before : List ℕ) (at : ℕ) → length before < at + length text → (None ≡ laid_end text at before) × (before ≡ laid text at before)
laid_not text before at h =
    let p : fits text at before ≡ false = lt-leb (at + length text) (length before) h in
    (sym (cond-false (fits text at before) _ _ p), sym (cond-false (fits text at before) _ _ p))
