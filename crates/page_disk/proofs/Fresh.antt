-- Why a page disk meets its condition as it begins.
use Rattle.std.proofs.Common.{◌≡◌, ℕ, zero, suc, ◌+◌, ◌*◌, ◌<◌, ◌≤◌, true, false, cond, ltb, List, map, length, get_or, is_some, Some, None, count_by, Option, unwrap_or, sym, refl, ap, ◌∙◌, subst, ⊎_elim, arith}
use Rattle.std.specs.List.{range_with_len}
use Rattle.std.proofs.lemmas.List.{get_or_past}
use Rattle.std.proofs.lemmas.List.FromFn.{length-map-range_with_len, get_or-map-range_with_len, sum_by-map-range_with_len_more}
use Rattle.std.proofs.lemmas.Bool.{both_ways, cases_lt, lt-ltb, le-ltb, eqb-true, eq-eqb, cond-true, cond-false}
use Rattle.disk.specs.Meaning.{Still}
use Rattle.rows.specs.Blocks.{Has, block}
use Rattle.rows.specs.Marks.{AtMostOne}
use Rattle.rows.proofs.Firsts.{position-none}
use Rattle.rows.proofs.Sets.{false-from, only}
use Rattle.page_disk.specs.declared.pages.Page.{Page}
use Rattle.page_disk.specs.declared.pages.Page.TheVariants.{Retired, Spare, Medium, Image}
use Rattle.page_disk.specs.Pages.{same_page, live, holds, place, fresh_page, fresh}
use Rattle.page_disk.specs.Paged.{paged, Sound, Begins}
use Rattle.page_disk.specs.Laws.{flies-paged}

-- a page as it begins, by where it is
as-medium : (n p j : ℕ) → j < n → fresh_page n p j ≡ Medium j
as-medium n p j l = cond-true (ltb j n) _ _ (lt-ltb j n l)

as-spare : (n p j : ℕ) → n ≤ j → j < p → fresh_page n p j ≡ Spare
as-spare n p j l h = cond-false (ltb j n) _ _ (le-ltb j n l) ∙ cond-true (ltb j p) _ _ (lt-ltb j p h)

as-retired : (n p j : ℕ) → n ≤ j → p ≤ j → fresh_page n p j ≡ Retired
as-retired n p j l h = cond-false (ltb j n) _ _ (le-ltb j n l) ∙ cond-false (ltb j p) _ _ (le-ltb j p h)

-- what holds of each kind holds of a page as it begins
by_kind : (P : Page → Type 0) (n p j : ℕ) → (j < n → P (Medium j)) → (n ≤ j → j < p → P Spare) → (n ≤ j → p ≤ j → P Retired) → P (fresh_page n p j)
by_kind P n p j medium spare retired = ⊎_elim (λ l. subst P (sym (as-medium n p j l)) (medium l))
    (λ l. ⊎_elim (λ h. subst P (sym (as-spare n p j l h)) (spare l h)) (λ h. subst P (sym (as-retired n p j l h)) (retired l h)) (cases_lt j p))
    (cases_lt j n)

-- of the first m pages, as many have a block as are below n
count-fresh : (n p m : ℕ) → (m ≤ n → count_by holds (map (fresh_page n p) (range_with_len 0 m)) ≡ m) × (n ≤ m → count_by holds (map (fresh_page n p) (range_with_len 0 m)) ≡ n)
count-fresh n p zero = (λ _. refl, λ l. omega arith)
count-fresh n p (suc m) =
    let g : Page → ℕ = λ x. cond (holds x) 1 0 in
    let r = count-fresh n p m in
    let e : m + 1 ≡ suc m = omega arith in
    let more : count_by holds (map (fresh_page n p) (range_with_len 0 (suc m))) ≡ count_by holds (map (fresh_page n p) (range_with_len 0 m)) + g (fresh_page n p m) =
    ap (λ (k : ℕ). count_by holds (map (fresh_page n p) (range_with_len 0 k))) (sym e) ∙ sum_by-map-range_with_len_more g (fresh_page n p) 0 m m (omega arith) in
    let here : (m < n → g (fresh_page n p m) ≡ 1) × (n ≤ m → g (fresh_page n p m) ≡ 0) = by_kind (λ x. (m < n → g x ≡ 1) × (n ≤ m → g x ≡ 0)) n p m (λ l. (λ _. refl, λ h. absurd (omega arith))) (λ l _. (λ h. absurd (omega arith), λ _. refl)) (λ l _. (λ h. absurd (omega arith), λ _. refl)) in
    (λ l. omega (arith, more, r.0 (omega arith), here.0 (omega arith)), λ l. ⊎_elim (λ h. omega (arith, more, r.0 (omega arith), here.0 h)) (λ h. omega (arith, more, r.1 h, here.1 h)) (cases_lt m n))

module _ (bytes : List ℕ) (n : ℕ) (lives : List ℕ) (few : (n ≤ 64) × (length lives ≤ 80) × (n ≤ length lives)) (long : 256 * length lives ≤ length bytes) where
  abbrev begun : List Page
  begun = (fresh n lives).pages

  size : length begun ≡ 80
  size = length-map-range_with_len (fresh_page n (length lives)) 0 80

  at : (j : ℕ) → get_or begun j Retired ≡ fresh_page n (length lives) j
  at j = ⊎_elim (λ l. get_or-map-range_with_len (fresh_page n (length lives)) 0 80 j j Retired l (omega arith))
      (λ l. get_or_past begun j Retired (omega (arith, size)) ∙ sym (as-retired n (length lives) j (omega arith) (omega arith))) (cases_lt j 80)

  -- what holds of each kind holds of each page
  each : (P : Page → Type 0) (j : ℕ) → (j < n → P (Medium j)) → (n ≤ j → j < length lives → P Spare) → (n ≤ j → length lives ≤ j → P Retired) → P (get_or begun j Retired)
  each P j medium spare retired = subst P (sym (at j)) (by_kind P n (length lives) j medium spare retired)

  no-image : (b j : ℕ) → same_page (Image b) (get_or begun j Retired) ≡ false
  no-image b j = each (λ x. same_page (Image b) x ≡ false) j (λ _. refl) (λ _ _. refl) (λ _ _. refl)

  grounded : (b : ℕ) → place (Image b) begun ≡ None
  grounded b = position-none (same_page (Image b)) begun Retired (λ j _. no-image b j)

  -- block b is in page b
  own : (b j : ℕ) → same_page (Medium b) (get_or begun j Retired) ≡ true → (b ≡ j) × (j < n)
  own b j = each (λ x. same_page (Medium b) x ≡ true → (b ≡ j) × (j < n)) j (λ l e. (eqb-true b j e, l)) (λ _ _ e. absurd (both_ways false refl e)) (λ _ _ e. absurd (both_ways false refl e))

  one : (b : ℕ) → AtMostOne (same_page (Medium b)) begun Retired
  one b i j _ _ e f = omega (arith, (own b i e).0, (own b j f).0)

  found-home : (b : ℕ) → b < n → place (Medium b) begun ≡ Some b
  found-home b l = only (same_page (Medium b)) begun Retired (one b) b (omega (arith, size)) (ap (same_page (Medium b)) (at b ∙ as-medium n (length lives) b l) ∙ eq-eqb b b refl)

  home : (b : ℕ) → is_some (place (Medium b) begun) ≡ ltb b n
  home b = ⊎_elim
      (λ l. ap is_some (found-home b l) ∙ sym (lt-ltb b n l))
      (λ l. ap is_some (position-none (same_page (Medium b)) begun Retired (λ j _. false-from (same_page (Medium b) (get_or begun j Retired)) (λ e. omega (arith, (own b j e).0, (own b j e).1)))) ∙ sym (le-ltb b n l))
      (cases_lt b n)

  pub sound-fresh : Sound bytes (fresh n lives)
  sound-fresh = record {
    few = few.0;
    eighty = size;
    lives = length-map-range_with_len (λ j. get_or lives j 0) 0 80;
    homes = home;
    one_home = one;
    one_image = λ b i j _ _ e _. absurd (both_ways _ (no-image b i) e);
    below = λ b e. absurd (both_ways _ (ap is_some (grounded b)) e);
    count = (count-fresh n (length lives) 80).1 (omega arith);
    inside = λ j. each (λ x. live x ≡ true → Has j bytes) j (λ l _. omega arith) (λ _ l _. omega arith) (λ _ _ e. absurd (both_ways false refl e));
  }

  pub still-fresh : Still (paged bytes (fresh n lives))
  still-fresh b l = flies-paged bytes (fresh n lives) sound-fresh b ∙ ap is_some (grounded b)

  pub begins-fresh : Begins bytes n lives (fresh n lives)
  begins-fresh = record {
    blocks = refl;
    medium = λ b l. ap (λ (o : Option ℕ). block (unwrap_or o 0) bytes) (found-home b l);
    home = λ b l. at b ∙ as-medium n (length lives) b l;
    spare = λ j l h. at j ∙ as-spare n (length lives) j l h;
    beyond = λ j h. at j ∙ as-retired n (length lives) j (omega arith) h;
    life = λ j h. get_or-map-range_with_len (λ k. get_or lives k 0) 0 80 j j 0 (omega arith) (omega arith);
  }
