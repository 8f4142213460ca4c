-- What a contract sees of the table's entries.
use Rattle.std.proofs.Common.{◌≡◌, ℕ, List, map, get_or}
use Rattle.std.proofs.lemmas.List.{map-set}
use Rattle.std.proofs.Math.ListN.{get_or-map}
use Rattle.std.proofs.Math.Seq.{map-set_same}
use Rattle.page_disk.specs.declared.pages.Page.TheVariants.{Retired}
use Rattle.page_disk.specs.declared.pages.Entry.{Entry}

-- what stands for an entry that is not there
abbrev none : Entry
none = record { page = Retired; life = 0 }

-- what the page of entry i is for, and its life
pub page_at : (es : List Entry) (i : ℕ) → get_or (map (λ e. e.page) es) i Retired ≡ (get_or es i none).page
page_at es i = get_or-map (λ (e : Entry). e.page) es i none

pub life_at : (es : List Entry) (i : ℕ) → get_or (map (λ e. e.life) es) i 0 ≡ (get_or es i none).life
life_at es i = get_or-map (λ (e : Entry). e.life) es i none

pub ruleset entry_steps = (page_at, life_at, map-set, map-set_same)
