-- The pages of a page disk: what each is for, and how they begin.
use Rattle.std.specs.Prelude.{◌≡◌, ℕ, ◌<◌, ◌≤◌, Bool, true, false, not, cond, List, map, length, Some, None, position, Option, ◌==◌, ◌≢◌, nat_lt, slice_index, slice_index_or, slice_set}
use Rattle.std.specs.List.{list_all, range_with_len}
use Rattle.page_disk.specs.declared.pages.Page.{Page}
use Rattle.page_disk.specs.declared.pages.Page.TheVariants.{Retired, Spare, Medium, Image}
use Rattle.page_disk.specs.declared.pages.Pages.{Pages}

-- whether two pages are for the same
abbrev pub same_page : Page → Page → Bool
same_page Retired Retired = true
same_page Retired Spare = false
same_page Retired (Medium b) = false
same_page Retired (Image b) = false
same_page Spare Retired = false
same_page Spare Spare = true
same_page Spare (Medium b) = false
same_page Spare (Image b) = false
same_page (Medium a) Retired = false
same_page (Medium a) Spare = false
same_page (Medium a) (Medium b) = a == b
same_page (Medium a) (Image b) = false
same_page (Image a) Retired = false
same_page (Image a) Spare = false
same_page (Image a) (Medium b) = false
same_page (Image a) (Image b) = a == b

-- whether a page is not retired
abbrev pub live : Page → Bool
live Retired = false
live Spare = true
live (Medium b) = true
live (Image b) = true

-- whether a page has a block of the medium
abbrev pub holds : Page → Bool
holds Retired = false
holds Spare = false
holds (Medium b) = true
holds (Image b) = false

-- whether a page has an image in flight
abbrev pub carries : Page → Bool
carries Retired = false
carries Spare = false
carries (Medium b) = false
carries (Image b) = true

-- whether no page has an image in flight
abbrev pub idle : List Page → Bool
idle pages = list_all (λ page. not (carries page)) pages

-- the lowest page that is for this
abbrev pub place : Page → List Page → Option ℕ
place wanted pages = position (same_page wanted) pages

-- of p pages for n blocks, page j as it begins: block b is in page b, the others are spare
abbrev pub fresh_page : ℕ → ℕ → ℕ → Page
fresh_page n p j = cond (nat_lt j n) (Medium j) (cond (nat_lt j p) Spare Retired)

-- n blocks in as many pages as there are lives; pages that are not there are retired, with no life
abbrev pub fresh : ℕ → List ℕ → Pages
fresh n lives = record { blocks = n; pages = map (fresh_page n (length lives)) (range_with_len 0 80); lives = map (λ j. slice_index lives j) (range_with_len 0 80) }

-- the table with page j replaced
abbrev pub put_page : ℕ → Page → Pages → Pages
put_page j page t = record { blocks = t.blocks; pages = slice_set t.pages j page; lives = t.lives }

-- of the first n pages, the spare one with most life left, the lower number among equals; none where none is spare
abbrev pub BestBelow : List Page → List ℕ → ℕ → Option ℕ → Type 0
BestBelow pages lives n None = (k : ℕ) → k < n → slice_index_or pages k Retired ≢ Spare
BestBelow pages lives n (Some j) = (j < n) × (slice_index_or pages j Retired ≡ Spare) × ((k : ℕ) → k < n → slice_index_or pages k Retired ≡ Spare → (slice_index lives k ≤ slice_index lives j) × (k < j → slice_index lives k < slice_index lives j))
