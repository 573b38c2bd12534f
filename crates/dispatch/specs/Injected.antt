-- What a dispatch injects at each bus, and the flows that follow.
use Rattle.std.specs.Prelude.{ℕ, cond, ℤ, pos, ◌*ℤ◌, ◌==◌}
use Rattle.shelf.specs.Sum.{sum}
use Rattle.book.specs.Meaning.{Book}
use Rattle.network.specs.Grid.{Grid, flow_of}

-- side times base point
abbrev pub injection : Book → (ℕ → ℕ) → ℕ → ℤ
injection m x i = m.side i *ℤ pos (x i)

-- what participant i injects at bus b
abbrev pub injection_at : Book → (ℕ → ℕ) → ℕ → ℕ → ℤ
injection_at m x b i = cond (m.bus i == b) (injection m x i) (pos 0)

-- what the first n participants inject at bus b
abbrev pub injected_by : Book → (ℕ → ℕ) → ℕ → ℕ → ℤ
injected_by m x n b = sum n (injection_at m x b)

-- the injection at bus b of the dispatch x
abbrev pub injected : Book → (ℕ → ℕ) → ℕ → ℤ
injected m x b = injected_by m x m.count b

-- the flow on line k of the dispatch x
abbrev pub dispatch_flow : Book → Grid → (ℕ → ℕ) → ℕ → ℤ
dispatch_flow m g x k = flow_of g k (injected m x)

-- the same flow, by participants: share at its bus times side times base point
abbrev pub participant_flow : Book → Grid → (ℕ → ℕ) → ℕ → ℤ
participant_flow m g x k = sum m.count (λ i. g.share k (m.bus i) *ℤ injection m x i)
