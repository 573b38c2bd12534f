-- The layer that a table holds.
use Rattle.std.specs.Prelude.{ℕ, true, false, cond, ◌&&◌, List, ℤ, pos, negsuc, ◌==◌, nat_lt, slice_index_or}
use Rattle.bounded.specs.Mitigation.{Terms, Layer}
use Rattle.bounded.specs.declared.table.Table.{Table}
use Rattle.bounded.specs.declared.term.Term.{Term}

abbrev pub terms_of : Term → Terms
terms_of t = record { floor = t.floor; ceiling = t.ceiling; adder = t.adder; subject = t.subject }

-- the term of a new run: floor −25,000, cap 0, adder 0, not subject
abbrev pub fresh_term : Term
fresh_term =
    record {
      floor = negsuc 24999;
      ceiling = pos 0;
      adder = 0;
      subject = false;
      bottom = record { le = tt };
      under = record { le = tt };
      positive = record { le = tt };
      within = record { le = tt };
      hundredth = record { le = tt };
    }

abbrev pub layer_of : Table → Layer
layer_of t =
    record {
      terms = λ i. terms_of (slice_index_or t.terms i fresh_term);
      reference = λ i. slice_index_or t.references i (pos 0);
      referenced = t.referenced;
    }

-- the layer of a new run: every term fresh, and no reference prices
abbrev pub fresh_layer : Layer
fresh_layer = record { terms = λ _. terms_of fresh_term; reference = λ _. pos 0; referenced = false }

-- a layer with another term for participant k, of which there are 64
abbrev pub with_term : Layer → ℕ → Terms → Layer
with_term l k t =
    record { terms = λ i. cond (i == k && nat_lt k 64) t (l.terms i); reference = l.reference; referenced = l.referenced }

-- a layer with these reference prices
abbrev pub with_references : Layer → List ℤ → Layer
with_references l rs = record { terms = l.terms; reference = λ i. slice_index_or rs i (pos 0); referenced = true }

-- a layer without reference prices
abbrev pub without_references : Layer → Layer
without_references l = record { terms = l.terms; reference = l.reference; referenced = false }
