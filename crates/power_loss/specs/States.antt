-- Every state that a loss of supply can leave.
use Rattle.std.specs.Prelude.{◌≡◌, ℕ, ◌^◌, ◌<◌, ◌≤◌, Bool, true, false, ◌||◌, List, [], ◌∷◌, map, length, Ok, Err, vec_items, count_by, Result, ◌==◌, slice_index_or}
use Rattle.std.specs.List.{range_with_len}
use Rattle.std.specs.Global.{Vec}
use Rattle.disk.specs.Meaning.{Meaning, flies, stands}
use Rattle.power_loss.specs.Numbered.{airborne, picked}
use Rattle.power_loss.specs.declared.State.{State}
use Rattle.power_loss.specs.declared.Unlisted.{Unlisted}
use Rattle.power_loss.specs.declared.Unlisted.TheVariants.{Memory, TooManyInFlight}

-- how many blocks are in flight
abbrev pub in_flight : Meaning → ℕ
in_flight m = count_by (flies m) (range_with_len 0 m.blocks)

-- whether b is among the blocks
abbrev pub among : List ℕ → ℕ → Bool
among [] b = false
among (a ∷ rest) b = a == b || among rest b

-- the blocks in flight that get written are just the chosen ones
abbrev pub Chooses : Meaning → (ℕ → Bool) → List ℕ → Type 0
Chooses m chosen written = (b : ℕ) → flies m b ≡ true → among written b ≡ chosen b

-- each block as it stands if the chosen ones get written
abbrev pub Shows : Meaning → (ℕ → Bool) → List (List ℕ) → Type 0
Shows m chosen blocks = (length blocks ≡ m.blocks) × ((b : ℕ) → b < m.blocks → slice_index_or blocks b [] ≡ stands m chosen b)

-- the states are those that a loss can leave: each choice of the blocks in flight once, with what then stands
pub record Listing (m : Meaning) (choices : List (List ℕ)) (blocks : List (List (List ℕ))) : Type 0 where
  pub numbered : choices ≡ map (λ n. picked n (airborne m)) (range_with_len 0 (2 ^ in_flight m))
  pub shown : blocks ≡ map (λ written. map (stands m (among written)) (range_with_len 0 m.blocks)) choices
  pub only : (i : ℕ) → i < length choices → (b : ℕ) → among (slice_index_or choices i []) b ≡ true → flies m b ≡ true
  pub every : (chosen : ℕ → Bool) → (i : ℕ) × (i < length choices) × Chooses m chosen (slice_index_or choices i []) × Shows m chosen (slice_index_or blocks i [])
  pub once : (i j : ℕ) → i < length choices → j < length choices → Chooses m (among (slice_index_or choices i [])) (slice_index_or choices j []) → i ≡ j

-- what the call answers; whether memory suffices is free
abbrev pub Listed : Meaning → Result (Vec State) Unlisted → Type 0
Listed m (Ok states) = (in_flight m ≤ 16) × Listing m (map (λ s. vec_items s.written) (vec_items states)) (map (λ s. vec_items s.blocks) (vec_items states))
Listed m (Err Memory) = Unit {0}
Listed m (Err TooManyInFlight) = 16 < in_flight m
