-- Why the laws of every disk hold of a page disk under its condition.
use Rattle.std.specs.Prelude.{◌≡◌, ℕ, suc, ◌+◌, ◌<◌, Bool, true, false, not, ◌&&◌, cond, List, [], ◌∷◌, length, is_some, Some, None, count_by, position, Option, slice_index_or, refl}
use Rattle.std.proofs.Common.{sym, ap, ◌∙◌, ⊎_elim, arith, rules}
use Rattle.std.specs.Option.{option_map, unwrap_or}
use Rattle.std.proofs.lemmas.List.{get_or_past}
use Rattle.std.proofs.lemmas.List.Quantifiers.{position-Some}
use Rattle.std.proofs.lemmas.List.Sums.{sum_by-cons}
use Rattle.std.proofs.lemmas.Bool.{both_ways, cases_lt, eqb-true, eq-eqb, lt-ltb, ltb-true, leb-false, and_parts, and_from, not-true, not_from_false}
use Rattle.disk.specs.Meaning.{Lawful, Still, flies}
use Rattle.rows.specs.Blocks.{Has, Whole, block}
use Rattle.rows.proofs.Firsts.{position-none, position-cons, missing, count_none, some-count}
use Rattle.rows.proofs.Options.{some_mapped, some-from, mapped_at}
use Rattle.rows.proofs.Puts.{length-block}
use Rattle.rows.proofs.Sets.{only}
use Rattle.page_disk.specs.declared.pages.Page.{Page}
use Rattle.page_disk.specs.declared.pages.Page.TheVariants.{Retired, Spare, Medium, Image}
use Rattle.page_disk.specs.declared.pages.Pages.{Pages}
use Rattle.page_disk.specs.Pages.{same_page, live, holds, carries, idle, place}
use Rattle.page_disk.specs.Paged.{paged, Sound}

-- two pages that are for the same are equal
pub same-page : (w x : Page) → same_page w x ≡ true → x ≡ w
same-page Retired Retired e = refl
same-page Spare Spare e = refl
same-page (Medium a) (Medium b) e = ap Medium (sym (eqb-true a b e))
same-page (Image a) (Image b) e = ap Image (sym (eqb-true a b e))
same-page _ _ e = search rules

-- what stands at the page that was found
pub found-page : (w : Page) (ps : List Page) (j : ℕ) → place w ps ≡ Some j → slice_index_or ps j Retired ≡ w
found-page w ps j e = same-page w (slice_index_or ps j Retired) (position-Some (same_page w) ps j Retired e).1

-- a page that is not retired is in the table
pub in_table : (ps : List Page) (j : ℕ) (x : Page) → slice_index_or ps j Retired ≡ x → live x ≡ true → j < length ps
in_table ps j x e t = ⊎_elim (λ h. h) (λ h. absurd (both_ways _ (ap live (sym e ∙ get_or_past ps j Retired h)) t)) (cases_lt j (length ps))

-- a page that is not retired is spare, or has a block, or has an image
live-parts : (ps : List Page) → count_by live ps ≡ count_by (same_page Spare) ps + (count_by holds ps + count_by carries ps)
live-parts [] = refl
live-parts (x ∷ ps) = omega (arith, sum_by-cons (λ y. cond (live y) 1 0) x ps, sum_by-cons (λ y. cond (same_page Spare y) 1 0) x ps, sum_by-cons (λ y. cond (holds y) 1 0) x ps, sum_by-cons (λ y. cond (carries y) 1 0) x ps, one x, live-parts ps)
  where
    one : (y : Page) → ◌≡◌ {A = ℕ} (cond (live y) 1 0) (cond (same_page Spare y) 1 0 + (cond (holds y) 1 0 + cond (carries y) 1 0))
    one Retired = refl
    one Spare = refl
    one (Medium b) = refl
    one (Image b) = refl

idle-page : (b : ℕ) (x : Page) → carries x ≡ false → same_page (Image b) x ≡ false
idle-page b Retired e = refl
idle-page b Spare e = refl
idle-page b (Medium a) e = refl
idle-page b (Image a) e = absurd (both_ways true e refl)

-- where no page has an image no block is in flight
pub idle-image : (ps : List Page) → position carries ps ≡ None → (b : ℕ) → place (Image b) ps ≡ None
idle-image ps e b = position-none (same_page (Image b)) ps Retired (λ j l. idle-page b (slice_index_or ps j Retired) (missing carries ps Retired e j l))

-- no page has an image just where none is found that has one
pub idle-found : (ps : List Page) → idle ps ≡ not (is_some (position carries ps))
idle-found [] = refl
idle-found (x ∷ ps) = next (carries x) (idle-found ps) ∙ ap (λ (o : Option ℕ). not (is_some o)) (sym (position-cons carries x ps))
  where
    next : (t : Bool) → idle ps ≡ not (is_some (position carries ps)) → (not t && idle ps) ≡ not (is_some (cond t (Some 0) (option_map suc (position carries ps))))
    next true e = refl
    next false e = e ∙ ap not (sym (some_mapped suc (position carries ps)))

module _ (bytes : List ℕ) (t : Pages) (s : Sound bytes t) where
  pub flies-paged : (b : ℕ) → flies (paged bytes t) b ≡ is_some (place (Image b) t.pages)
  flies-paged b = some_mapped (λ j. block j bytes) (place (Image b) t.pages)

  -- a page that was found and is not retired is within the bytes
  pub found_inside : (w : Page) (j : ℕ) → live w ≡ true → place w t.pages ≡ Some j → Has j bytes
  found_inside w j l e = s.inside j (ap live (found-page w t.pages j e) ∙ l)

  -- a page with an image of a block is the one that is found
  pub image-found : (b j : ℕ) → slice_index_or t.pages j Retired ≡ Image b → place (Image b) t.pages ≡ Some j
  image-found b j e = only (same_page (Image b)) t.pages Retired (s.one_image b) j (in_table t.pages j (Image b) e refl) (ap (same_page (Image b)) e ∙ eq-eqb b b refl)

  -- a block in flight is below the number of blocks
  pub image-below : (b j : ℕ) → slice_index_or t.pages j Retired ≡ Image b → b < t.blocks
  image-below b j e = s.below b (ap is_some (image-found b j e))

  -- where nothing is in flight no page has an image
  pub still-idle : Still (paged bytes t) → position carries t.pages ≡ None
  still-idle still = position-none carries t.pages Retired (λ j l. clear j (slice_index_or t.pages j Retired) refl)
    where
      clear : (j : ℕ) (x : Page) → slice_index_or t.pages j Retired ≡ x → carries x ≡ false
      clear j Retired e = refl
      clear j Spare e = refl
      clear j (Medium b) e = refl
      clear j (Image b) e = absurd (both_ways _ (sym (flies-paged b) ∙ still b (image-below b j e)) (ap is_some (image-found b j e)))

  -- a block below the number of blocks is in a page
  pub at_home : (P : Type 0) (b : ℕ) → b < t.blocks → ((j : ℕ) → place (Medium b) t.pages ≡ Some j → P) → P
  at_home P b l h = some-from P (place (Medium b) t.pages) (s.homes b ∙ lt-ltb b t.blocks l) h

  pub lawful-paged : Lawful (paged bytes t)
  lawful-paged = record {
    few_blocks = omega (arith, s.few);
    whole_block = λ b l. at_home (Whole ((paged bytes t).medium b)) b l
        (λ j e. ap (λ (o : Option ℕ). length (block (unwrap_or o 0) bytes)) e ∙ length-block j bytes (found_inside (Medium b) j refl e));
    whole_image = λ b image e. mapped_at (Whole image) (λ j. block j bytes) (place (Image b) t.pages) image e
        (λ j q w. ap length (sym w) ∙ length-block j bytes (found_inside (Image b) j refl q));
    flying_below = λ b e. s.below b (sym (flies-paged b) ∙ e);
    open_below = λ b e. ltb-true b t.blocks (and_parts _ _ e).0;
    open_grounded = λ b e. flies-paged b ∙ not-true _ (and_parts _ _ (and_parts _ _ e).1).0;
    idle_open = λ still q b l.
        let none = count_none carries t.pages (still-idle still) in
        and_from _ _ (lt-ltb b t.blocks l) (and_from _ _ (not_from_false _ (sym (flies-paged b) ∙ still b l))
        (some-count (same_page Spare) t.pages (omega (arith, live-parts t.pages, s.count, leb-false (count_by live t.pages) t.blocks q))));
  }
