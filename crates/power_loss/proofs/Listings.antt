-- The states by their numbers are every state that a loss of supply can leave.
use Rattle.std.proofs.Common.{◌≡◌, ℕ, ◌+◌, ◌^◌, ◌<◌, Bool, true, List, [], ◌∷◌, ◌++◌, map, length, get_or, sym, ap, ◌∙◌, subst, arith}
use mathlib.Core.List.{map-map}
use Rattle.std.specs.List.{range_with_len}
use Rattle.std.proofs.lemmas.List.FromFn.{length-map-range_with_len, get_or-map-range_with_len, map-range_with_len_more}
use Rattle.std.proofs.lemmas.List.{map_push}
use Rattle.std.proofs.lemmas.List.Sums.{length-filter}
use Rattle.disk.specs.Meaning.{Meaning, Lawful, flies, stands}
use Rattle.power_loss.specs.States.{in_flight, among, Chooses, Shows, Listing}
use Rattle.power_loss.specs.Numbered.{airborne, picked}
use Rattle.power_loss.proofs.Members.{among-kept-by, among-counting, apart-kept}
use Rattle.power_loss.proofs.Picks.{among-picked, number, number_lt, picked-number, one_number}

-- how many fly
pub length-airborne : (m : Meaning) → length (airborne m) ≡ in_flight m
length-airborne m = length-filter (flies m) (range_with_len 0 m.blocks)

-- just the flying blocks are airborne
airborne-flies : (m : Meaning) (b : ℕ) → among (airborne m) b ≡ true → flies m b ≡ true
airborne-flies m b h = let kept = among-kept-by (flies m) (range_with_len 0 m.blocks) b in grind arith

flies-airborne : (m : Meaning) → Lawful m → (b : ℕ) → flies m b ≡ true → among (airborne m) b ≡ true
flies-airborne m w b f =
    let l = w.flying_below b f in
    let kept = among-kept-by (flies m) (range_with_len 0 m.blocks) b in
    let counted = among-counting 0 m.blocks b in
    grind arith

-- only flying blocks are picked
pub picked-flies : (m : Meaning) (n b : ℕ) → among (picked n (airborne m)) b ≡ true → flies m b ≡ true
picked-flies m n b h = airborne-flies m b (among-picked (airborne m) n b h)

-- what stands depends on the flying blocks alone
stands_same : (m : Meaning) (p q : ℕ → Bool) (b : ℕ) → (flies m b ≡ true → p b ≡ q b) → stands m p b ≡ stands m q b
stands_same m p q b h = grind arith

-- the blocks of the state in which the picked ones got written
abbrev pub shown : Meaning → ℕ → List (List ℕ)
shown m n = map (stands m (among (picked n (airborne m)))) (range_with_len 0 m.blocks)

shown-shows : (m : Meaning) (n : ℕ) (chosen : ℕ → Bool) → Chooses m chosen (picked n (airborne m)) → Shows m chosen (shown m n)
shown-shows m n chosen h =
    let f = stands m (among (picked n (airborne m))) in
    (length-map-range_with_len f 0 m.blocks, λ b l. get_or-map-range_with_len f 0 m.blocks b b [] l (omega arith) ∙ stands_same m (among (picked n (airborne m))) chosen b (h b))

chooses-number : (m : Meaning) → Lawful m → (chosen : ℕ → Bool) → Chooses m chosen (picked (number chosen (airborne m)) (airborne m))
chooses-number m w chosen b f =
    let picked = picked-number chosen (airborne m) in
    let kept = among-kept-by chosen (airborne m) b in
    let flying = flies-airborne m w b f in
    grind arith

module _ (m : Meaning) (w : Lawful m) where
  abbrev count : ℕ
  count = 2 ^ length (airborne m)

  abbrev choices : List (List ℕ)
  choices = map (λ n. picked n (airborne m)) (range_with_len 0 count)

  choices-long : length choices ≡ count
  choices-long = length-map-range_with_len (λ n. picked n (airborne m)) 0 count

  choice-at : (i : ℕ) → i < length choices → get_or choices i [] ≡ picked i (airborne m)
  choice-at i l = get_or-map-range_with_len (λ n. picked n (airborne m)) 0 count i i [] (omega (arith, choices-long)) (omega arith)

  listing : Listing m choices (map (shown m) (range_with_len 0 count))
  listing =
      let e = ap (λ k. 2 ^ k) (length-airborne m) in
      record {
        numbered = ap (λ k. map (λ n. picked n (airborne m)) (range_with_len 0 k)) e;
        shown = sym (map-map (λ written. map (stands m (among written)) (range_with_len 0 m.blocks)) (λ n. picked n (airborne m)) (range_with_len 0 count));
        only = λ i l b h. picked-flies m i b (ap (λ c. among c b) (sym (choice-at i l)) ∙ h);
        every = λ chosen.
            let n = number chosen (airborne m) in
            let l = number_lt chosen (airborne m) in
            let ch = chooses-number m w chosen in (
              n,
              omega (arith, choices-long),
              subst (Chooses m chosen) (sym (choice-at n (omega (arith, choices-long)))) ch,
              subst (Shows m chosen) (sym (get_or-map-range_with_len (shown m) 0 count n n [] l (omega arith))) (shown-shows m n chosen ch),
            );
        once = λ i j li lj h.
            one_number (airborne m) (apart-kept (flies m) 0 m.blocks) i j (omega (arith, choices-long)) (omega (arith, choices-long))
            (λ b a. ap (λ c. among c b) (sym (choice-at i li)) ∙ sym (h b (airborne-flies m b a)) ∙ ap (λ c. among c b) (choice-at j lj));
      }

  -- the lists after the last number
  pub listing-all : (n : ℕ) (cs : List (List ℕ)) (bs : List (List (List ℕ))) → n ≡ count → cs ≡ map (λ k. picked k (airborne m)) (range_with_len 0 n) → bs ≡ map (shown m) (range_with_len 0 n) → Listing m cs bs
  listing-all n cs bs e c b =
      let ec = c ∙ ap (λ k. map (λ j. picked j (airborne m)) (range_with_len 0 k)) e in
      let eb = b ∙ ap (λ k. map (shown m) (range_with_len 0 k)) e in
      subst (λ l. Listing m l bs) (sym ec) (subst (Listing m choices) (sym eb) listing)

-- one more is pushed to a list that is made from a function of the index
pub push-more : {Y : Type 0} (f : ℕ → Y) (n : ℕ) (ys : List Y) (y : Y) → ys ≡ map f (range_with_len 0 n) ++ y ∷ [] → y ≡ f n → ys ≡ map f (range_with_len 0 (n + 1))
push-more f n ys y e s = e ∙ ap (λ t. map f (range_with_len 0 n) ++ t ∷ []) s ∙ sym (map-range_with_len_more f 0 n n (omega arith))

pub map-push-more : {X Y : Type 0} (g : X → Y) (f : ℕ → Y) (n : ℕ) (xs ys : List X) (x : X) → map g xs ≡ map f (range_with_len 0 n) → ys ≡ xs ++ x ∷ [] → g x ≡ f n → map g ys ≡ map f (range_with_len 0 (n + 1))
map-push-more g f n xs ys x was e s = push-more f n (map g ys) (g x) (ap (map g) e ∙ map_push g xs x ∙ ap (λ l. l ++ g x ∷ []) was) s
