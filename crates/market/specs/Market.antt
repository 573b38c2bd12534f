-- A dispatch in a market: feasible, priced, worth and gap, over the meanings of book and network alone.
use Rattle.std.specs.Prelude.{◌≡◌, ℕ, suc, ◌+◌, ◌-◌, ◌<◌, ◌≤◌, Bool, true, cond, ℤ, pos, ◌+ℤ◌, ◌-ℤ◌, ◌*ℤ◌, neg_ℤ, ◌≤ℤ◌, ◌<ℤ◌}
use Rattle.shelf.specs.Sum.{sum}
use Rattle.book.specs.Meaning.{Book}
use Rattle.network.specs.Grid.{Grid}
use Rattle.dispatch.specs.Injected.{injection, dispatch_flow}
use Rattle.market.specs.Best.{best}

-- what a step is held to: the requirement, and each line's limit and whether the step observes it
pub record Step : Type 0 where
  pub requirement : ℤ
  pub limit : ℕ → ℤ
  pub observed : ℕ → Bool

-- the system price Y and the shadow prices U
pub record Prices : Type 0 where
  pub system : ℤ
  pub shadow : ℕ → ℤ

-- side times base point, summed
abbrev pub balance : Book → (ℕ → ℕ) → ℤ
balance m x = sum m.count (injection m x)

-- the requirement less all readings
abbrev pub due : Book → Step → ℤ
due m s = s.requirement -ℤ sum m.count (λ i. pos (m.reading i))

-- what an observed line may carry
abbrev pub room : Step → ℕ → ℤ
room s k = pos 1000 *ℤ s.limit k

pub record Feasible (m : Book) (g : Grid) (s : Step) (x : ℕ → ℕ) : Type 0 where
  pub low : (i : ℕ) → i < m.count → m.low i ≤ x i
  pub high : (i : ℕ) → i < m.count → x i ≤ m.high i
  pub balanced : balance m x ≡ due m s
  pub limited : (k : ℕ) → k < g.lines → s.observed k ≡ true → dispatch_flow m g x k ≤ℤ room s k

-- G: 1,000·Y less the sum over lines of share at the participant's bus times U
abbrev pub lmp : Book → Grid → Prices → ℕ → ℤ
lmp m g p i = (pos 1000 *ℤ p.system) -ℤ sum g.lines (λ k. g.share k (m.bus i) *ℤ p.shadow k)

-- the gain of the tenth that ends at q, where the participant's price is G: G − 1,000·price for a generator,
-- 1,000·price − G for a load
abbrev pub gain_at : Book → ℤ → ℕ → ℕ → ℤ
gain_at m price i q = m.side i *ℤ (price -ℤ (pos 1000 *ℤ m.price i q))

abbrev pub gain : Book → Grid → Prices → ℕ → ℕ → ℤ
gain m g p i q = gain_at m (lmp m g p i) i q

-- the sum of gains from low up to level q, at the price G
abbrev pub gains_up : Book → ℤ → ℕ → ℕ → ℤ
gains_up m price i q = sum (q - m.low i) (λ t. gain_at m price i (suc (m.low i + t)))

-- the gain of the t-th tenth above low, counted from 0
abbrev pub gain_above : Book → Grid → Prices → ℕ → ℕ → ℤ
gain_above m g p i t = gain m g p i (suc (m.low i + t))

-- the sum of gains from low up to level q
abbrev pub gains : Book → Grid → Prices → ℕ → ℕ → ℤ
gains m g p i q = gains_up m (lmp m g p i) i q

-- the greatest sum of gains from low up to any level from low to high, at the price G
abbrev pub best_at : Book → ℤ → ℕ → ℤ
best_at m price i = best (m.high i - m.low i) (λ t. gain_at m price i (suc (m.low i + t)))

-- that sum less the gains up to level q
abbrev pub forgone_at : Book → ℤ → ℕ → ℕ → ℤ
forgone_at m price i q = best_at m price i -ℤ gains_up m price i q

abbrev pub best_gains : Book → Grid → Prices → ℕ → ℤ
best_gains m g p i = best_at m (lmp m g p i) i

abbrev pub forgone : Book → Grid → Prices → (ℕ → ℕ) → ℕ → ℤ
forgone m g p x i = forgone_at m (lmp m g p i) i (x i)

-- the prices of the tenths from above low up to level q
abbrev pub cost : Book → ℕ → ℕ → ℤ
cost m i q = sum (q - m.low i) (λ t. m.price i (suc (m.low i + t)))

-- the loads' prices less the generators' prices, over all tenths above low up to the base point
abbrev pub worth : Book → (ℕ → ℕ) → ℤ
worth m x = sum m.count (λ i. neg_ℤ (m.side i *ℤ cost m i (x i)))

-- U·(1,000·limit − flow) on an observed line
abbrev pub slack : Book → Grid → Step → Prices → (ℕ → ℕ) → ℕ → ℤ
slack m g s p x k = cond (s.observed k) (p.shadow k *ℤ (room s k -ℤ dispatch_flow m g x k)) (pos 0)

-- all forgone gains, and over observed lines U·(1,000·limit − flow)
abbrev pub gap : Book → Grid → Step → Prices → (ℕ → ℕ) → ℤ
gap m g s p x = sum m.count (forgone m g p x) +ℤ sum g.lines (slack m g s p x)

-- a participant's last tenth objects if its gain is below 0, its next if above 0
abbrev pub LastObjects : Book → Grid → Prices → (ℕ → ℕ) → ℕ → Type 0
LastObjects m g p x i = (m.low i < x i) × (gain m g p i (x i) <ℤ pos 0)

abbrev pub NextObjects : Book → Grid → Prices → (ℕ → ℕ) → ℕ → Type 0
NextObjects m g p x i = (x i < m.high i) × (pos 0 <ℤ gain m g p i (suc (x i)))
