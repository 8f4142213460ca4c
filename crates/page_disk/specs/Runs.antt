-- What can be told of whole runs of a page disk.
use Rattle.std.specs.Prelude.{◌≡◌, ℕ, suc, ◌+◌, true, false, List, [], ◌∷◌, Err, sum_by, count_by, Result}
use Rattle.refusal.specs.declared.Refusal.{Refusal}
use Rattle.refusal.specs.declared.Refusal.TheVariants.{BlockNotOpen}
use Rattle.disk.specs.Meaning.{Meaning}
use Rattle.disk.specs.Rules.{StartRule}
use Rattle.disk.specs.declared.Outcome.{Outcome}
use Rattle.disk.specs.declared.Outcome.TheVariants.{Written, Failed}
use Rattle.rows.specs.Blocks.{Whole}
use Rattle.page_disk.specs.declared.pages.Pages.{Pages}
use Rattle.page_disk.specs.Pages.{live, fresh}
use Rattle.page_disk.specs.Wear.{PageStart, PageFinish}
use Rattle.page_disk.specs.Paged.{paged}

-- starts and finishes, one after the other, of which so many were written and so many failed
pub data Run (bytes : List ℕ) (t : Pages) : ℕ → ℕ → List ℕ → Pages → Type 0 where
  none : Run bytes t 0 0 bytes t
  start : (w f b : ℕ) (xs ys image : List ℕ) (u v : Pages) → Run bytes t w f xs u → PageStart xs u b image ys v → Run bytes t w f ys v
  write : (w f b : ℕ) (xs ys : List ℕ) (u v : Pages) → Run bytes t w f xs u → PageFinish xs u b Written ys v → Run bytes t (suc w) f ys v
  fail : (w f b layer block : ℕ) (xs ys : List ℕ) (u v : Pages) → Run bytes t w f xs u → PageFinish xs u b (Failed layer block) ys v → Run bytes t w (suc f) ys v

-- the life that all pages have left
abbrev pub life_left : Pages → ℕ
life_left t = sum_by (λ l. l) t.lives

-- in every run as many writes succeed as life is used up, and as many fail as pages are retired
abbrev pub WearCounted : Type 0
WearCounted = (bytes : List ℕ) (t : Pages) (w f : ℕ) (new : List ℕ) (u : Pages) → Run bytes t w f new u → (life_left u + w ≡ life_left t) × (count_by live u.pages + f ≡ count_by live t.pages)

-- a whole write of block b, and how it ended
pub record WriteOf (bytes : List ℕ) (t : Pages) (b : ℕ) (o : Outcome) (new : List ℕ) (u : Pages) : Type 0 where
  pub image : List ℕ
  pub whole : Whole image
  pub air : List ℕ
  pub meanwhile : Pages
  pub start : PageStart bytes t b image air meanwhile
  pub finish : PageFinish air meanwhile b o new u

-- three writes of the one block in two pages of life 1, how they ended, and the disk after the second and after the third
pub record ThreeWrites (x : List ℕ) (p q r : Outcome) (z : List ℕ) (u : Pages) (w : List ℕ) (v : Pages) : Type 0 where
  pub y : List ℕ
  pub t : Pages
  pub first : WriteOf x (fresh 1 (1 ∷ 1 ∷ [])) 0 p y t
  pub second : WriteOf y t 0 q z u
  pub third : WriteOf z u 0 r w v

-- two succeed, the third fails and leaves the disk spent, then start is refused because the block is not open
abbrev pub WornOut : Type 0
WornOut = (x z w image : List ℕ) (u v : Pages) (p q r : Outcome) (after : Meaning) (answer : Result (Unit {0}) Refusal)
    → ThreeWrites x p q r z u w v
    → Whole image
    → StartRule (paged w v) 0 image after answer
    → (p ≡ Written) × (q ≡ Written) × (r ≡ Failed 1 0) × ((paged z u).spent ≡ false) × ((paged w v).spent ≡ true) × (answer ≡ Err BlockNotOpen)

-- three such writes there are, whatever stands in the pages
abbrev pub CanWearOut : Type 0
CanWearOut = (x : List ℕ) → (z : List ℕ) × ((u : Pages) × ((w : List ℕ) × ((v : Pages) × ThreeWrites x Written Written (Failed 1 0) z u w v)))
