-- What a plain disk means, and what its making and its calls do to its bytes and places.
use Rattle.std.specs.Prelude.{◌≡◌, ℕ, ◌+◌, ◌*◌, ◌<◌, ◌≤◌, true, false, not, ◌&&◌, List, length, get_or, is_some, Some, ◌≢◌, nat_lt, slice_index_or}
use Rattle.std.specs.Option.{option_map}
use Rattle.disk.specs.Meaning.{Meaning}
use Rattle.rows.specs.Blocks.{block, put_block}
use Rattle.rows.specs.Marks.{AtMostOne}
use Rattle.plain_disk.specs.declared.places.Places.{Places}
use Rattle.plain_disk.specs.declared.places.Slot.TheVariants.{Free, Holding, Absent}
use Rattle.plain_disk.specs.Slots.{same_slot, present, place, flights}
use Rattle.plain_disk.specs.Places.{put_slot}

-- so many bytes are n blocks of medium and k places, 1 to 8
abbrev pub Fit : ℕ → ℕ → ℕ → Type 0
Fit bytes n k = (1 ≤ k) × (k ≤ 8) × (bytes ≡ 256 * (n + k))

-- the medium comes first, then the places; a block is open while it is not in flight and fewer than k are
abbrev pub plain : List ℕ → Places → Meaning
plain bytes p = record {
  blocks = p.blocks;
  medium = λ b. block b bytes;
  air = λ b. option_map (λ j. block (p.blocks + j) bytes) (place (Holding b) p.slots);
  opens = λ b. nat_lt b p.blocks && (not (is_some (place (Holding b) p.slots)) && nat_lt (flights p.slots) p.count);
  spent = false;
}

-- the condition of a plain disk: k of the 8 places are there, each block in flight is below n and in one place, and where there is a block the bytes fit
pub record Sound (bytes : List ℕ) (p : Places) : Type 0 where
  pub few : p.blocks < 65536
  pub some : 1 ≤ p.count
  pub most : p.count ≤ 8
  pub eight : length p.slots ≡ 8
  pub there : (j : ℕ) → j < 8 → present (slice_index_or p.slots j Free) ≡ nat_lt j p.count
  pub below : (j b : ℕ) → j < 8 → same_slot (Holding b) (slice_index_or p.slots j Free) ≡ true → b < p.blocks
  pub apart : (b : ℕ) → AtMostOne (same_slot (Holding b)) p.slots Free
  pub long : 0 < p.blocks → length bytes ≡ 256 * (p.blocks + p.count)

-- start takes the lowest free place, puts the image there, and leaves all else as it was
pub record PlainStart (old : List ℕ) (p : Places) (b : ℕ) (image : List ℕ) (new : List ℕ) (q : Places) : Type 0 where
  pub at : ℕ
  pub found : place Free p.slots ≡ Some at
  pub free : get_or p.slots at Absent ≡ Free
  pub lowest : (i : ℕ) → i < at → slice_index_or p.slots i Absent ≢ Free
  pub bytes : new ≡ put_block (p.blocks + at) image old
  pub places : q ≡ put_slot at (Holding b) p

-- finish copies the image from its place to the medium, frees the place, and leaves all else as it was
pub record PlainFinish (old : List ℕ) (p : Places) (b : ℕ) (new : List ℕ) (q : Places) : Type 0 where
  pub at : ℕ
  pub found : place (Holding b) p.slots ≡ Some at
  pub held : get_or p.slots at Absent ≡ Holding b
  pub bytes : new ≡ put_block b (block (p.blocks + at) old) old
  pub places : q ≡ put_slot at Free p
