-- How pages wear: which page a start takes, when a finish fails, what life is left.
use Rattle.std.specs.Prelude.{◌≡◌, ℕ, ◌-◌, ◌<◌, ◌≤◌, List, get_or, slice_index, slice_index_or, slice_set}
use Rattle.disk.specs.declared.Outcome.{Outcome}
use Rattle.disk.specs.declared.Outcome.TheVariants.{Written, Failed}
use Rattle.rows.specs.Blocks.{put_block}
use Rattle.page_disk.specs.declared.pages.Page.TheVariants.{Retired, Spare, Medium, Image}
use Rattle.page_disk.specs.declared.pages.Pages.{Pages}
use Rattle.page_disk.specs.Pages.{put_page}

-- start takes the spare page with most life left, the lower number among equals, puts the image there, and leaves all else as it was
pub record PageStart (old : List ℕ) (t : Pages) (b : ℕ) (image : List ℕ) (new : List ℕ) (u : Pages) : Type 0 where
  pub at : ℕ
  pub spare : get_or t.pages at Retired ≡ Spare
  pub most : (k : ℕ) → slice_index_or t.pages k Retired ≡ Spare → slice_index t.lives k ≤ slice_index t.lives at
  pub lowest : (k : ℕ) → k < at → slice_index_or t.pages k Retired ≡ Spare → slice_index t.lives k < slice_index t.lives at
  pub bytes : new ≡ put_block at image old
  pub pages : u ≡ put_page at (Image b) t

-- block b is now in page j, which has one life less, and its old page is spare
abbrev pub landed : ℕ → ℕ → ℕ → Pages → Pages
landed j old b t = record { blocks = t.blocks; pages = slice_set (slice_set t.pages old Spare) j (Medium b); lives = slice_set t.lives j (slice_index t.lives j - 1) }

-- a write of block b from its page `old` to page j fails just where page j has no life left; then page j is retired
abbrev pub EndsIn : ℕ → ℕ → Pages → ℕ → Outcome → Pages → Type 0
EndsIn j old t b Written u = (0 < slice_index t.lives j) × (u ≡ landed j old b t)
EndsIn j old t b (Failed layer block) u = (slice_index t.lives j ≡ 0) × (layer ≡ 1) × (block ≡ b) × (u ≡ put_page j Retired t)

-- finish ends the write in the page that has the image, and leaves every byte as it was
pub record PageFinish (bytes : List ℕ) (t : Pages) (b : ℕ) (o : Outcome) (new : List ℕ) (u : Pages) : Type 0 where
  pub at : ℕ
  pub image : get_or t.pages at Retired ≡ Image b
  pub home : ℕ
  pub medium : get_or t.pages home Retired ≡ Medium b
  pub end : EndsIn at home t b o u
  pub same : new ≡ bytes
