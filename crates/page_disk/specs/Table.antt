-- The table of a page disk, as contracts see it.
use Rattle.std.specs.Prelude.{ℕ, List}
use Rattle.page_disk.specs.declared.pages.Page.{Page}

-- how many blocks there are, what each page is for, and what life each has left
pub record Table : Type 0 where
  pub blocks : ℕ
  pub pages : List Page
  pub lives : List ℕ
