-- Why every run uses up as much life as it writes, and retires as many pages as fail.
use Rattle.std.proofs.Common.{◌≡◌, ℕ, ◌+◌, ◌-◌, ◌<◌, true, false, List, length, get_or, set, count_by, refl, ap, ◌∙◌, ⊎_elim, arith, get_or-set_other}
use Rattle.std.proofs.lemmas.List.{get_or_past}
use Rattle.std.proofs.lemmas.List.Sums.{sum_by-set}
use Rattle.std.proofs.lemmas.Bool.{cases_lt, eq-eqb}
use Rattle.rows.proofs.Sets.{count_set}
use Rattle.page_disk.specs.declared.pages.Page.{Page}
use Rattle.page_disk.specs.declared.pages.Page.TheVariants.{Retired, Spare, Medium, Image}
use Rattle.page_disk.specs.declared.pages.Pages.{Pages}
use Rattle.page_disk.specs.Pages.{live}
use Rattle.page_disk.specs.Wear.{landed}
use Rattle.page_disk.specs.Runs.{none, start, write, fail, life_left, WearCounted}
use Rattle.page_disk.specs.Laws.{in_table}
use Rattle.page_disk.proofs.Turns.{apart}

-- a life that is not used up is one of the list
has-life : (ls : List ℕ) (j : ℕ) → 0 < get_or ls j 0 → j < length ls
has-life ls j h = ⊎_elim (λ l. l) (λ l. absurd (omega (arith, get_or_past ls j 0 l))) (cases_lt j (length ls))

-- a page that is not retired before and after leaves their number
live-set : (ps : List Page) (j : ℕ) (x v : Page) → get_or ps j Retired ≡ x → live x ≡ true → live v ≡ true → count_by live (set ps j v) ≡ count_by live ps
live-set ps j x v e t u = omega (arith, count_set live ps j v Retired true true (in_table ps j x e t) (ap live e ∙ t) u)

-- a write that lands uses up one life and retires no page
land-counts : (t : Pages) (j o b : ℕ) → get_or t.pages j Retired ≡ Image b → get_or t.pages o Retired ≡ Medium b → 0 < get_or t.lives j 0 → (life_left (landed j o b t) + 1 ≡ life_left t) × (count_by live (landed j o b t).pages ≡ count_by live t.pages)
land-counts t j o b image medium alive =
    let left = set t.pages o Spare in
    let still = get_or-set_other t.pages o j Spare Retired (apart t.pages j o (Image b) (Medium b) image medium (eq-eqb b b refl) refl) ∙ image in (
      omega (arith, alive, sum_by-set (λ l. l) t.lives j (get_or t.lives j 0 - 1) 0 (has-life t.lives j alive)),
      live-set left j (Image b) (Medium b) still refl refl ∙ live-set t.pages o (Medium b) Spare medium refl refl,
    )

pub wear-counted : WearCounted
wear-counted bytes t _ _ _ _ none = (omega arith, omega arith)
wear-counted bytes t _ _ _ _ (start w f b xs ys image u v run st) =
    let r = wear-counted bytes t w f xs u run in
    let same : count_by live v.pages ≡ count_by live u.pages = ap (λ (x : Pages). count_by live x.pages) st.pages ∙ live-set u.pages st.at Spare (Image b) st.spare refl refl in
    let kept : life_left v ≡ life_left u = ap life_left st.pages in
    (omega (arith, r.0), omega (arith, r.1))
wear-counted bytes t _ _ _ _ (write w f b xs ys u v run fi) =
    let r = wear-counted bytes t w f xs u run in
    let n = land-counts u fi.at fi.home b fi.image fi.medium fi.end.0 in
    let used : life_left v ≡ life_left (landed fi.at fi.home b u) = ap life_left fi.end.1 in
    let same : count_by live v.pages ≡ count_by live (landed fi.at fi.home b u).pages = ap (λ (x : Pages). count_by live x.pages) fi.end.1 in
    (omega (arith, r.0, n.0), omega (arith, r.1, n.1))
wear-counted bytes t _ _ _ _ (fail w f b layer block xs ys u v run fi) =
    let r = wear-counted bytes t w f xs u run in
    let one = count_set live u.pages fi.at Retired Retired true false (in_table u.pages fi.at (Image b) fi.image refl) (ap live fi.image) refl in
    let kept : life_left v ≡ life_left u = ap life_left fi.end.3 in
    let less : count_by live v.pages ≡ count_by live (set u.pages fi.at Retired) = ap (λ (x : Pages). count_by live x.pages) fi.end.3 in
    (omega (arith, r.0), omega (arith, r.1))
