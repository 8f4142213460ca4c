-- What start and finish of a page disk do to its condition and its meaning.
use Rattle.std.proofs.Common.{◌≡◌, ℕ, ◌-◌, ◌<◌, true, false, ltb, leb, List, length, get_or, set, is_some, Some, None, count_by, Option, unwrap_or, sym, refl, ap, ◌∙◌, subst, subst₂, inl, inr, arith, length-set, get_or-set_other}
use Rattle.std.specs.Option.{option_map}
use Rattle.std.proofs.lemmas.Bool.{both_ways, eqb-true, eq-eqb, ne_eqb, cases_eq, lt-ltb, le-leb, leb-true}
use Rattle.disk.specs.Meaning.{flies}
use Rattle.disk.specs.Rules.{StartEffect, WriteEffect, FailEffect, FinishEffect}
use Rattle.disk.specs.declared.Outcome.{Outcome}
use Rattle.disk.specs.declared.Outcome.TheVariants.{Written, Failed}
use Rattle.rows.specs.Blocks.{Has, Whole, block, put_block}
use Rattle.rows.specs.Marks.{AtMostOne}
use Rattle.rows.proofs.Firsts.{position-none, position-set, missing, some_at}
use Rattle.rows.proofs.Options.{none_from, mapped-same, open-when}
use Rattle.rows.proofs.Puts.{length-put, block-put-same, block-put-other}
use Rattle.rows.proofs.Sets.{false-from, at_set, one_set, none-set, first-set, count_set}
use Rattle.page_disk.specs.declared.pages.Page.{Page}
use Rattle.page_disk.specs.declared.pages.Page.TheVariants.{Retired, Spare, Medium, Image}
use Rattle.page_disk.specs.declared.pages.Pages.{Pages}
use Rattle.page_disk.specs.Pages.{same_page, live, holds, place, put_page, BestBelow}
use Rattle.page_disk.specs.Wear.{PageStart, PageFinish, EndsIn, landed}
use Rattle.page_disk.specs.Paged.{paged, Sound}
use Rattle.page_disk.specs.Laws.{same-page, found-page, in_table, flies-paged, image-found, image-below, at_home}

-- what is looked for is found where it was if it is neither the page replaced nor the new one, or both
stays : (w : Page) (ps : List Page) (j : ℕ) (x v : Page) → get_or ps j Retired ≡ x → same_page w x ≡ same_page w v → place w (set ps j v) ≡ place w ps
stays w ps j x v e q = position-set (same_page w) ps Retired j v (ap (same_page w) e ∙ q)

-- two pages that are for different things are two
pub apart : (ps : List Page) (i j : ℕ) (x y : Page) → get_or ps i Retired ≡ x → get_or ps j Retired ≡ y → same_page x x ≡ true → same_page x y ≡ false → i ≡ j → ⊥
apart ps i j x y e f t u q = both_ways _ u (ap (same_page x) (sym f ∙ ap (λ (k : ℕ). get_or ps k Retired) (sym q) ∙ e) ∙ t)

-- what no two pages are for, no two are for after a write of another
less : (w : Page) (ps : List Page) (j : ℕ) (v : Page) → j < length ps → same_page w v ≡ false → AtMostOne (same_page w) ps Retired → AtMostOne (same_page w) (set ps j v) Retired
less w ps j v l f one = one_set (same_page w) ps Retired one j v l (λ t. absurd (both_ways _ f t))

module _ (bytes : List ℕ) (t : Pages) (s : Sound bytes t) (b j : ℕ) (image : List ℕ) (spare : get_or t.pages j Retired ≡ Spare) (idle : place (Image b) t.pages ≡ None) (below : b < t.blocks) (whole : Whole image) where
  inside : j < length t.pages
  inside = in_table t.pages j Spare spare refl

  fits : Has j bytes
  fits = s.inside j (ap live spare)

  keeps : (w : Page) → same_page w Spare ≡ same_page w (Image b) → place w (set t.pages j (Image b)) ≡ place w t.pages
  keeps w q = stays w t.pages j Spare (Image b) spare q

  other : (a : ℕ) → (a ≡ b → ⊥) → place (Image a) (set t.pages j (Image b)) ≡ place (Image a) t.pages
  other a d = keeps (Image a) (sym (ne_eqb a b d))

  none : (i : ℕ) → i < length t.pages → same_page (Image b) (get_or t.pages i Retired) ≡ false
  none i l = missing (same_page (Image b)) t.pages Retired idle i l

  start-sound : Sound (put_block j image bytes) (put_page j (Image b) t)
  start-sound = record {
    few = s.few;
    eighty = length-set t.pages j (Image b) ∙ s.eighty;
    lives = s.lives;
    homes = λ a. ap is_some (keeps (Medium a) refl) ∙ s.homes a;
    one_home = λ a. less (Medium a) t.pages j (Image b) inside refl (s.one_home a);
    one_image = λ a. one_set (same_page (Image a)) t.pages Retired (s.one_image a) j (Image b) inside
        (λ q i l u. absurd (both_ways _ (none i l) (subst (λ (x : ℕ). same_page (Image x) (get_or t.pages i Retired) ≡ true) (eqb-true a b q) u)));
    below = λ a q. elim (cases_eq a b) [ inl e ↦ omega arith | inr d ↦ s.below a (sym (ap is_some (other a d)) ∙ q) ];
    count = omega (arith, s.count, count_set holds t.pages j (Image b) Retired false false inside (ap holds spare) refl);
    inside = λ i. at_set (λ x. live x ≡ true → Has i (put_block j image bytes)) t.pages j (Image b) Retired i inside
        (λ e _. omega (arith, fits, length-put j image bytes fits whole))
        (λ _ q. omega (arith, s.inside i q, length-put j image bytes fits whole));
  }

  start-effect : StartEffect (paged bytes t) b image (paged (put_block j image bytes) (put_page j (Image b) t))
  start-effect = record {
    blocks = refl;
    medium = λ a l. ap (λ (o : Option ℕ). block (unwrap_or o 0) (put_block j image bytes)) (keeps (Medium a) refl)
        ∙ at_home bytes t s (block (unwrap_or (place (Medium a) t.pages) 0) (put_block j image bytes) ≡ (paged bytes t).medium a) a l
        (λ k e. ap (λ (o : Option ℕ). block (unwrap_or o 0) (put_block j image bytes)) e
        ∙ block-put-other j image bytes fits whole k (apart t.pages k j (Medium a) Spare (found-page (Medium a) t.pages k e) spare (eq-eqb a a refl) refl)
        ∙ ap (λ (o : Option ℕ). block (unwrap_or o 0) bytes) (sym e));
    here = ap (option_map (λ k. block k (put_block j image bytes))) (first-set (same_page (Image b)) t.pages Retired j (Image b) inside (λ i l _. none i l) (eq-eqb b b refl)) ∙ ap Some (block-put-same j image bytes fits whole);
    elsewhere = λ a d. ap (option_map (λ k. block k (put_block j image bytes))) (other a d)
        ∙ mapped-same (λ k. block k (put_block j image bytes)) (λ k. block k bytes) (place (Image a) t.pages)
        (λ k e. block-put-other j image bytes fits whole k (apart t.pages k j (Image a) Spare (found-page (Image a) t.pages k e) spare (eq-eqb a a refl) refl));
    spent = ap (λ (m : ℕ). leb m t.blocks) (omega (arith, count_set live t.pages j (Image b) Retired true true inside (ap live spare) refl));
  }

module _ (bytes : List ℕ) (t : Pages) (s : Sound bytes t) (b j : ℕ) (carried : get_or t.pages j Retired ≡ Image b) where
  taken : j < length t.pages
  taken = in_table t.pages j (Image b) carried refl

  found-image : place (Image b) t.pages ≡ Some j
  found-image = image-found bytes t s b j carried

  fail-sound : Sound bytes (put_page j Retired t)
  fail-sound = record {
    few = s.few;
    eighty = length-set t.pages j Retired ∙ s.eighty;
    lives = s.lives;
    homes = λ a. ap is_some (stays (Medium a) t.pages j (Image b) Retired carried refl) ∙ s.homes a;
    one_home = λ a. less (Medium a) t.pages j Retired taken refl (s.one_home a);
    one_image = λ a. less (Image a) t.pages j Retired taken refl (s.one_image a);
    below = λ a q. elim (cases_eq a b) [
      | inl e ↦ omega (arith, image-below bytes t s b j carried)
      | inr d ↦ s.below a (sym (ap is_some (stays (Image a) t.pages j (Image b) Retired carried (ne_eqb a b d))) ∙ q)
    ];
    count = omega (arith, s.count, count_set holds t.pages j Retired Retired false false taken (ap holds carried) refl);
    inside = λ i. at_set (λ x. live x ≡ true → Has i bytes) t.pages j Retired Retired i taken (λ _ q. absurd (both_ways _ refl q)) (λ _. s.inside i);
  }

  fail-effect : FailEffect (paged bytes t) b (paged bytes (put_page j Retired t))
  fail-effect = record {
    blocks = refl;
    medium = λ a l. ap (λ (o : Option ℕ). block (unwrap_or o 0) bytes) (stays (Medium a) t.pages j (Image b) Retired carried refl);
    landed = ap (option_map (λ k. block k bytes)) (none-set (same_page (Image b)) t.pages Retired (s.one_image b) j Retired taken (ap (same_page (Image b)) carried ∙ eq-eqb b b refl) refl);
    elsewhere = λ a d. ap (option_map (λ k. block k bytes)) (stays (Image a) t.pages j (Image b) Retired carried (ne_eqb a b d));
    spent = λ q. le-leb _ _ (omega (arith, leb-true (count_by live t.pages) t.blocks q, count_set live t.pages j Retired Retired true false taken (ap live carried) refl));
  }

  module _ (o : ℕ) (home : get_or t.pages o Retired ≡ Medium b) where
    old : o < length t.pages
    old = in_table t.pages o (Medium b) home refl

    two : j ≡ o → ⊥
    two = apart t.pages j o (Image b) (Medium b) carried home (eq-eqb b b refl) refl

    -- the pages with the old one spare
    abbrev left : List Page
    left = set t.pages o Spare

    -- then with the new one in its place
    abbrev after : List Page
    after = set left j (Medium b)

    still-there : get_or left j Retired ≡ Image b
    still-there = get_or-set_other t.pages o j Spare Retired two ∙ carried

    taken-left : j < length left
    taken-left = omega (arith, taken, length-set t.pages o Spare)

    -- what is found in neither of the two pages, before or after, is found where it was
    unmoved : (w : Page) → same_page w (Medium b) ≡ same_page w Spare → same_page w (Image b) ≡ same_page w (Medium b) → place w after ≡ place w t.pages
    unmoved w q u = stays w left j (Image b) (Medium b) still-there u ∙ stays w t.pages o (Medium b) Spare home q

    other-home : (a : ℕ) → (a ≡ b → ⊥) → place (Medium a) after ≡ place (Medium a) t.pages
    other-home a d = unmoved (Medium a) (ne_eqb a b d) (sym (ne_eqb a b d))

    other-image : (a : ℕ) → (a ≡ b → ⊥) → place (Image a) after ≡ place (Image a) t.pages
    other-image a d = unmoved (Image a) refl (ne_eqb a b d)

    -- the old page was the only one that had the block
    homeless : (i : ℕ) → i < length left → same_page (Medium b) (get_or left i Retired) ≡ false
    homeless i l = at_set (λ x. same_page (Medium b) x ≡ false) t.pages o Spare Retired i old (λ _. refl)
        (λ d. false-from (same_page (Medium b) (get_or t.pages i Retired)) (λ q. d (s.one_home b i o (omega (arith, length-set t.pages o Spare)) old q (ap (same_page (Medium b)) home ∙ eq-eqb b b refl))))

    moved : place (Medium b) after ≡ Some j
    moved = first-set (same_page (Medium b)) left Retired j (Medium b) taken-left (λ i l _. homeless i l) (eq-eqb b b refl)

    land-sound : Sound bytes (landed j o b t)
    land-sound = record {
      few = s.few;
      eighty = length-set left j (Medium b) ∙ length-set t.pages o Spare ∙ s.eighty;
      lives = length-set t.lives j (get_or t.lives j 0 - 1) ∙ s.lives;
      homes = λ a. elim (cases_eq a b) [
        | inl e ↦ ap (λ (x : ℕ). is_some (place (Medium x) after)) e ∙ ap is_some moved ∙ sym (lt-ltb a t.blocks (omega (arith, image-below bytes t s b j carried)))
        | inr d ↦ ap is_some (other-home a d) ∙ s.homes a
      ];
      one_home = λ a. one_set (same_page (Medium a)) left Retired (less (Medium a) t.pages o Spare old refl (s.one_home a)) j (Medium b) taken-left
          (λ q i l u. absurd (both_ways _ (homeless i l) (subst (λ (x : ℕ). same_page (Medium x) (get_or left i Retired) ≡ true) (eqb-true a b q) u)));
      one_image = λ a. less (Image a) left j (Medium b) taken-left refl (less (Image a) t.pages o Spare old refl (s.one_image a));
      below = λ a q. elim (cases_eq a b) [
        | inl e ↦ omega (arith, image-below bytes t s b j carried)
        | inr d ↦ s.below a (sym (ap is_some (other-image a d)) ∙ q)
      ];
      count = omega (arith, s.count, count_set holds t.pages o Spare Retired true false old (ap holds home) refl, count_set holds left j (Medium b) Retired false true taken-left (ap holds still-there) refl);
      inside = λ i. at_set (λ x. live x ≡ true → Has i bytes) left j (Medium b) Retired i taken-left (λ e _. omega (arith, s.inside j (ap live carried)))
          (λ _. at_set (λ x. live x ≡ true → Has i bytes) t.pages o Spare Retired i old (λ e _. omega (arith, s.inside o (ap live home))) (λ _. s.inside i));
    }

    write-effect : WriteEffect (paged bytes t) b (paged bytes (landed j o b t))
    write-effect = record {
      blocks = refl;
      here = ap (option_map (λ k. block k bytes)) found-image ∙ ap (λ (x : Option ℕ). Some (block (unwrap_or x 0) bytes)) (sym moved);
      medium = λ a l d. ap (λ (x : Option ℕ). block (unwrap_or x 0) bytes) (other-home a d);
      landed = ap (option_map (λ k. block k bytes)) (none-set (same_page (Image b)) left Retired (less (Image b) t.pages o Spare old refl (s.one_image b)) j (Medium b) taken-left (ap (same_page (Image b)) still-there ∙ eq-eqb b b refl) refl);
      elsewhere = λ a d. ap (option_map (λ k. block k bytes)) (other-image a d);
      spent = ap (λ (m : ℕ). leb m t.blocks) (omega (arith, count_set live t.pages o Spare Retired true true old (ap live home) refl, count_set live left j (Medium b) Retired true true taken-left (ap live still-there) refl));
    }

-- a block that is not in flight has no page with its image
grounded : (bytes : List ℕ) (t : Pages) (s : Sound bytes t) (b : ℕ) → flies (paged bytes t) b ≡ false → place (Image b) t.pages ≡ None
grounded bytes t s b e = none_from _ (sym (flies-paged bytes t s b) ∙ e)

-- the best spare page is there just while a spare page exists
pub best-spare : (ps : List Page) (lives : List ℕ) (o : Option ℕ) → BestBelow ps lives (length ps) o → is_some (place Spare ps) ≡ is_some o
best-spare ps lives None h = ap is_some (position-none (same_page Spare) ps Retired (λ j l. false-from (same_page Spare (get_or ps j Retired)) (λ e. h j l (same-page Spare (get_or ps j Retired) e))))
best-spare ps lives (Some j) h = some_at (same_page Spare) ps Retired j h.0 (ap (same_page Spare) h.1)

-- a block that is not in flight is open just while a spare page exists
pub open-while : (bytes : List ℕ) (t : Pages) (b : ℕ) → place (Image b) t.pages ≡ None → b < t.blocks → (paged bytes t).opens b ≡ is_some (place Spare t.pages)
open-while bytes t b idle below =
    open-when (ltb b t.blocks) (is_some (place Spare t.pages)) (place (Image b) t.pages) (lt-ltb b t.blocks below) idle

-- that is, while there is a best spare page
open-best : (bytes : List ℕ) (t : Pages) (s : Sound bytes t) (b : ℕ) (o : Option ℕ) → flies (paged bytes t) b ≡ false → b < t.blocks → BestBelow t.pages t.lives (length t.pages) o → (paged bytes t).opens b ≡ is_some o
open-best bytes t s b o idle below h = open-while bytes t b (grounded bytes t s b idle) below ∙ best-spare t.pages t.lives o h

-- a block that is not in flight is not open where no page is spare
pub shut : (bytes : List ℕ) (t : Pages) (s : Sound bytes t) (b : ℕ) → flies (paged bytes t) b ≡ false → b < t.blocks → BestBelow t.pages t.lives (length t.pages) None → (paged bytes t).opens b ≡ false
shut bytes t s b = open-best bytes t s b None

-- what is to be shown of a start: the condition after it, that the block was open, the effect that every disk's start has, and that of a page disk's
pub record Started (bytes : List ℕ) (t : Pages) (b : ℕ) (image new : List ℕ) (u : Pages) : Type 0 where
  pub keeps : Sound new u
  pub opens : (paged bytes t).opens b ≡ true
  pub effect : StartEffect (paged bytes t) b image (paged new u)
  pub starts : PageStart bytes t b image new u

pub started : (bytes : List ℕ) (t : Pages) (s : Sound bytes t) (b j : ℕ) (image new : List ℕ) (u : Pages) → flies (paged bytes t) b ≡ false → b < t.blocks → Whole image → BestBelow t.pages t.lives (length t.pages) (Some j)
    → new ≡ put_block j image bytes → u ≡ put_page j (Image b) t → Started bytes t b image new u
started bytes t s b j image new u idle below whole best written pages =
    let none = grounded bytes t s b idle in
    record {
      keeps = subst₂ Sound (sym written) (sym pages) (start-sound bytes t s b j image best.1 none below whole);
      opens = open-best bytes t s b (Some j) idle below best;
      effect = subst₂ (λ (xs : List ℕ) (x : Pages). StartEffect (paged bytes t) b image (paged xs x)) (sym written) (sym pages) (start-effect bytes t s b j image best.1 none below whole);
      starts = record {
        at = j;
        spare = best.1;
        most = λ k e. (best.2 k (in_table t.pages k Spare e refl) e).0;
        lowest = λ k l e. (best.2 k (in_table t.pages k Spare e refl) e).1 l;
        bytes = written;
        pages = pages;
      };
    }

-- however a finish ends, it keeps the condition and has the effect that every disk's finish has
ends : (bytes : List ℕ) (t : Pages) (b j o : ℕ) (how : Outcome) (u : Pages) → Sound bytes t → get_or t.pages j Retired ≡ Image b → get_or t.pages o Retired ≡ Medium b → EndsIn j o t b how u → Sound bytes u × FinishEffect (paged bytes t) b how (paged bytes u)
ends bytes t b j o Written u s carried home e =
    subst (λ (x : Pages). Sound bytes x × FinishEffect (paged bytes t) b Written (paged bytes x)) (sym e.1) (land-sound bytes t s b j carried o home, write-effect bytes t s b j carried o home)
ends bytes t b j o (Failed layer block) u s carried home e =
    subst (λ (x : Pages). Sound bytes x × FinishEffect (paged bytes t) b (Failed layer block) (paged bytes x)) (sym e.3) (fail-sound bytes t s b j carried, (omega (arith, e.1), fail-effect bytes t s b j carried))

-- what is to be shown of a finish: the condition after it, that the block was in flight, the effect that every disk's finish has, and that of a page disk's
pub record Finished (bytes : List ℕ) (t : Pages) (b : ℕ) (how : Outcome) (u : Pages) : Type 0 where
  pub keeps : Sound bytes u
  pub flying : flies (paged bytes t) b ≡ true
  pub effect : FinishEffect (paged bytes t) b how (paged bytes u)
  pub ends : PageFinish bytes t b how bytes u

pub finished : (bytes : List ℕ) (t : Pages) (s : Sound bytes t) (b j o : ℕ) (how : Outcome) (u : Pages) → place (Image b) t.pages ≡ Some j → place (Medium b) t.pages ≡ Some o → EndsIn j o t b how u → Finished bytes t b how u
finished bytes t s b j o how u image medium end =
    let carried = found-page (Image b) t.pages j image in
    let home = found-page (Medium b) t.pages o medium in
    let r = ends bytes t b j o how u s carried home end in
    record {
      keeps = r.0;
      flying = flies-paged bytes t s b ∙ ap is_some image;
      effect = r.1;
      ends = record { at = j; image = carried; home = o; medium = home; end = end; same = refl };
    }
