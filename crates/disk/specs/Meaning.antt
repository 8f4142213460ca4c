-- What every disk means, and what a loss of supply leaves of it.
use Rattle.std.specs.Prelude.{◌≡◌, ℕ, ◌<◌, Bool, true, false, cond, List, length, is_some, Some, Option}
use Rattle.std.specs.Option.{unwrap_or}

-- the number of blocks, the medium's block b, the image of b in flight, whether b may be started, whether the disk is spent
pub record Meaning : Type 0 where
  pub blocks : ℕ
  pub medium : ℕ → List ℕ
  pub air : ℕ → Option (List ℕ)
  pub opens : ℕ → Bool
  pub spent : Bool

-- whether block b is in flight
abbrev pub flies : Meaning → ℕ → Bool
flies m b = is_some (m.air b)

-- nothing is in flight
abbrev pub Still : Meaning → Type 0
Still m = (b : ℕ) → b < m.blocks → flies m b ≡ false

-- what every disk owes; the last three are the laws of open blocks
pub record Lawful (m : Meaning) : Type 0 where
  pub few_blocks : m.blocks < 65536
  pub whole_block : (b : ℕ) → b < m.blocks → length (m.medium b) ≡ 256
  pub whole_image : (b : ℕ) (image : List ℕ) → m.air b ≡ Some image → length image ≡ 256
  pub flying_below : (b : ℕ) → flies m b ≡ true → b < m.blocks
  pub open_below : (b : ℕ) → m.opens b ≡ true → b < m.blocks
  pub open_grounded : (b : ℕ) → m.opens b ≡ true → flies m b ≡ false
  pub idle_open : Still m → m.spent ≡ false → (b : ℕ) → b < m.blocks → m.opens b ≡ true

-- what stands at block b after a loss of supply in which the chosen blocks in flight got written
abbrev pub stands : Meaning → (ℕ → Bool) → ℕ → List ℕ
stands m chosen b = cond (chosen b) (unwrap_or (m.air b) (m.medium b)) (m.medium b)
