-- The choices of the blocks in flight, by numbers.
use Rattle.std.specs.Prelude.{ℕ, ◌/◌, ◌%◌, cond, List, [], ◌∷◌, filter, ◌==◌}
use Rattle.std.specs.List.{range_with_len}
use Rattle.disk.specs.Meaning.{Meaning, flies}

-- the blocks in flight, in rising order
abbrev pub airborne : Meaning → List ℕ
airborne m = filter (flies m) (range_with_len 0 m.blocks)

-- the choice with number n: its lowest bit is for the first block
abbrev pub picked : ℕ → List ℕ → List ℕ
picked n [] = []
picked n (b ∷ bs) = cond (n % 2 == 1) (b ∷ picked (n / 2) bs) (picked (n / 2) bs)
