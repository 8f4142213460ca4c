-- What a page disk means, and the condition that it keeps.
use Rattle.std.specs.Prelude.{◌≡◌, ℕ, ◌*◌, ◌<◌, ◌≤◌, true, not, ◌&&◌, List, length, is_some, count_by, nat_le, nat_lt, slice_index, slice_index_or}
use Rattle.std.specs.Option.{option_map, unwrap_or}
use Rattle.disk.specs.Meaning.{Meaning}
use Rattle.rows.specs.Blocks.{Has, block}
use Rattle.rows.specs.Marks.{AtMostOne}
use Rattle.page_disk.specs.declared.pages.Page.TheVariants.{Retired, Spare, Medium, Image}
use Rattle.page_disk.specs.declared.pages.Pages.{Pages}
use Rattle.page_disk.specs.Pages.{same_page, live, holds, place}

-- so many bytes are p pages, 2 to 80, for n blocks, 1 to 64 and fewer than the pages
abbrev pub Fit : ℕ → ℕ → ℕ → Type 0
Fit bytes n p = (2 ≤ p) × (p ≤ 80) × (bytes ≡ 256 * p) × (1 ≤ n) × (n ≤ 64) × (n < p)

-- a block is in its page; it is open while it is not in flight and a spare page exists; spent when at most n pages are not retired
abbrev pub paged : List ℕ → Pages → Meaning
paged bytes t = record {
  blocks = t.blocks;
  medium = λ b. block (unwrap_or (place (Medium b) t.pages) 0) bytes;
  air = λ b. option_map (λ j. block j bytes) (place (Image b) t.pages);
  opens = λ b. nat_lt b t.blocks && (not (is_some (place (Image b) t.pages)) && is_some (place Spare t.pages));
  spent = nat_le (count_by live t.pages) t.blocks;
}

-- the condition of a page disk: each block below n and no other has a page, one only, a block in flight has one image, and the pages in use are within the bytes
pub record Sound (bytes : List ℕ) (t : Pages) : Type 0 where
  pub few : t.blocks ≤ 64
  pub eighty : length t.pages ≡ 80
  pub lives : length t.lives ≡ 80
  pub homes : (b : ℕ) → is_some (place (Medium b) t.pages) ≡ nat_lt b t.blocks
  pub one_home : (b : ℕ) → AtMostOne (same_page (Medium b)) t.pages Retired
  pub one_image : (b : ℕ) → AtMostOne (same_page (Image b)) t.pages Retired
  pub below : (b : ℕ) → is_some (place (Image b) t.pages) ≡ true → b < t.blocks
  pub count : count_by holds t.pages ≡ t.blocks
  pub inside : (j : ℕ) → live (slice_index_or t.pages j Retired) ≡ true → Has j bytes

-- how a page disk begins, said page by page: each block is in the page of its number, with what stands there, the other pages are spare, and each has its given life
pub record Begins (bytes : List ℕ) (n : ℕ) (given : List ℕ) (t : Pages) : Type 0 where
  pub blocks : t.blocks ≡ n
  pub medium : (b : ℕ) → b < n → (paged bytes t).medium b ≡ block b bytes
  pub home : (b : ℕ) → b < n → slice_index_or t.pages b Retired ≡ Medium b
  pub spare : (j : ℕ) → n ≤ j → j < length given → slice_index_or t.pages j Retired ≡ Spare
  pub beyond : (j : ℕ) → length given ≤ j → slice_index_or t.pages j Retired ≡ Retired
  pub life : (j : ℕ) → j < length given → slice_index t.lives j ≡ slice_index given j
