-- The numbers below 2 to the length of a list are its choices, each once.
use Rattle.std.proofs.Common.{◌≡◌, ◌≢◌, ◌==◌, map, ℕ, ◌+◌, ◌*◌, ◌/◌, ◌%◌, ◌^◌, ◌<◌, ◌≤◌, Bool, true, cond, eqb, List, [], ◌∷◌, ◌++◌, length, get_or, drop, filter, sym, refl, ap, ◌∙◌, append_assoc, append-nil, add-one, pow-suc, arith}
use Rattle.std.proofs.lemmas.Bool.{both_ways, cond-true, cond-false, eq-eqb, ne_eqb}
use Rattle.std.proofs.lemmas.List.{at_drop_more, at_drop_all}
use Rattle.std.proofs.Math.Nat.{div-one, div-div-eq-div-mul}
use Rattle.std.specs.List.{enumerate_from}
use Rattle.power_loss.specs.States.{among}
use Rattle.power_loss.specs.Numbered.{picked}
use Rattle.power_loss.proofs.Members.{Apart}

-- a number's bits from k on pick the blocks at the places from k on
picked-places_from : (n k : ℕ) (xs : List ℕ) → picked (n / 2 ^ k) xs ≡ map (λ p. p.1) (filter (λ p. n / 2 ^ p.0 % 2 == 1) (enumerate_from k xs))
picked-places_from n k [] = refl
picked-places_from n k (x ∷ xs) =
    let next : n / 2 ^ k / 2 ≡ n / 2 ^ (k + 1) = div-div-eq-div-mul n (2 ^ k) 2 ∙ ap (λ d. n / d) (rw add-one (omega (arith, pow-suc 2 k))) in
    let rest = ap (λ m. picked m xs) next ∙ picked-places_from n (k + 1) xs in
    grind arith

-- bit j of the number picks the block at place j
pub picked-places : (n : ℕ) (xs : List ℕ) → picked n xs ≡ map (λ p. p.1) (filter (λ p. n / 2 ^ p.0 % 2 == 1) (enumerate_from 0 xs))
picked-places n xs = ap (λ m. picked m xs) (sym (div-one n)) ∙ picked-places_from n 0 xs

-- the block at place i is picked, or is not, or none is left
pub pick_more : (ws xs : List ℕ) (n i : ℕ) → i < length xs → n % 2 ≡ 1 → (ws ++ get_or xs i 0 ∷ []) ++ picked (n / 2) (drop (i + 1) xs) ≡ ws ++ picked n (drop i xs)
pick_more ws xs n i l o =
    let odd : picked n (get_or xs i 0 ∷ drop (i + 1) xs) ≡ get_or xs i 0 ∷ picked (n / 2) (drop (i + 1) xs) = cond-true (eqb (n % 2) 1) _ _ (eq-eqb (n % 2) 1 o) in
    append_assoc ws (get_or xs i 0 ∷ []) (picked (n / 2) (drop (i + 1) xs)) ∙ ap (λ t. ws ++ t) (sym (at_drop_more (picked n) xs i 0 l ∙ odd))

pub skip-more : (ws xs : List ℕ) (n i : ℕ) → i < length xs → n % 2 ≡ 0 → ws ++ picked (n / 2) (drop (i + 1) xs) ≡ ws ++ picked n (drop i xs)
skip-more ws xs n i l z =
    let even : picked n (get_or xs i 0 ∷ drop (i + 1) xs) ≡ picked (n / 2) (drop (i + 1) xs) = cond-false (eqb (n % 2) 1) _ _ (ne_eqb (n % 2) 1 (λ o. omega arith)) in
    ap (λ t. ws ++ t) (sym (at_drop_more (picked n) xs i 0 l ∙ even))

pub pick_all : (ws xs : List ℕ) (n i : ℕ) → length xs ≤ i → ws ≡ ws ++ picked n (drop i xs)
pick_all ws xs n i l = sym (ap (λ t. ws ++ t) (at_drop_all (picked n) xs i l) ∙ append-nil ws)

-- only blocks of the list are picked
pub among-picked : (xs : List ℕ) (n b : ℕ) → among (picked n xs) b ≡ true → among xs b ≡ true
among-picked [] n b h = h
among-picked (x ∷ xs) n b h =
    let ih = among-picked xs (n / 2) b in
    grind arith

-- the number of a choice
abbrev pub number : (ℕ → Bool) → List ℕ → ℕ
number p [] = 0
number p (x ∷ xs) = number p xs * 2 + cond (p x) 1 0

pub number_lt : (p : ℕ → Bool) (xs : List ℕ) → number p xs < 2 ^ length xs
number_lt p [] = omega arith
number_lt p (x ∷ xs) =
    let ih = number_lt p xs in
    let e = pow-suc 2 (length xs) in
    grind arith

pub picked-number : (p : ℕ → Bool) (xs : List ℕ) → picked (number p xs) xs ≡ filter p xs
picked-number p [] = refl
picked-number p (x ∷ xs) =
    let ih = picked-number p xs in
    let half : number p (x ∷ xs) / 2 ≡ number p xs = grind arith in
    grind arith

-- two numbers with the same choice are one
pub one_number : (xs : List ℕ) → Apart xs → (n k : ℕ) → n < 2 ^ length xs → k < 2 ^ length xs → ((b : ℕ) → among xs b ≡ true → among (picked n xs) b ≡ among (picked k xs) b) → n ≡ k
one_number [] a n k ln lk h = omega arith
one_number (x ∷ xs) a n k ln lk h =
    let long = pow-suc 2 (length xs) in
    let halves = one_number xs a.1 (n / 2) (k / 2) (omega arith) (omega arith) (λ b m. let apart : x ≢ b = λ e. both_ways (among xs x) a.0 (ap (among xs) e ∙ m) in let same = h b in grind arith) in
    let first = h x in
    let from_n = among-picked xs (n / 2) x in
    let from_k = among-picked xs (k / 2) x in
    grind arith
