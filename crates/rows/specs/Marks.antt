-- Marks in a row.
use Rattle.std.specs.Prelude.{◌≡◌, ℕ, ◌<◌, Bool, true, List, length, slice_index_or}

-- no two elements pass
abbrev pub AtMostOne : {X : Type 0} → (X → Bool) → List X → X → Type 0
AtMostOne p xs d = (i j : ℕ) → i < length xs → j < length xs → p (slice_index_or xs i d) ≡ true → p (slice_index_or xs j d) ≡ true → i ≡ j
