-- An array that is made place by place.
use Rattle.std.proofs.Common.{◌≡◌, ℕ, zero, suc, ◌+◌, ◌<◌, ◌≤◌, List, map, get_or, refl, sym, ◌∙◌, inl, inr, subst, arith}
use Rattle.std.specs.Array.{IsFromFnResult, IsFromFnResultFrom}
use Rattle.std.specs.Fn.{Mut, Called}
use Rattle.std.specs.List.{range_with_len}
use Rattle.std.proofs.lemmas.Bool.{cases_eq}
use Rattle.std.proofs.lemmas.List.{ext_get_or}
use Rattle.std.proofs.lemmas.List.FromFn.{length-map-range_with_len, get_or-map-range_with_len}

-- what is made by a closure that stays as it was, and answers what `at` says of each place
module _ {F B : Type 0} (g : Mut F (ℕ × Unit {0}) B) (f : F) (ys : List B) (d : B) (at : ℕ → B) (call : (i : ℕ) (y : B) (q : F) → Called g f (i, tt) y q → (q ≡ f) × (y ≡ at i)) where
  each : (i n : ℕ) (p : F) → p ≡ f → IsFromFnResultFrom g p ys i n → (j : ℕ) → i ≤ j → j < i + n → get_or ys j d ≡ at j
  each i zero p e r j a b = absurd (omega arith)
  each i (suc n) p e r j a b =
      let s = call i r.1 r.0 (subst (λ (t : F). Called g t (i, tt) r.1 r.0) e r.3) in
      elim (cases_eq j i) [
        | inl q ↦ subst (λ (k : ℕ). get_or ys k d ≡ at k) (sym q) (r.2.1 d ∙ s.1)
        | inr q ↦ each (i + 1) n r.0 s.0 r.4 j (omega arith) (omega arith)
      ]

  pub made : (n : ℕ) → IsFromFnResult g f ys n → ys ≡ map at (range_with_len 0 n)
  made n r =
      let len = length-map-range_with_len at 0 n in
      ext_get_or d ys (map at (range_with_len 0 n)) (omega (arith, r.long, len))
      (λ i l. each 0 n f refl r.each i (omega arith) (omega (arith, r.long)) ∙ sym (get_or-map-range_with_len at 0 n i i d (omega (arith, r.long)) (omega arith)))
