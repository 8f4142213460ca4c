-- A disk of zeros with one place, on which every write fails.
use Rattle.std.specs.Prelude.{◌≡◌, ℕ, ◌<◌, Bool, true, false, cond, not, ◌&&◌, List, length, replicate, is_some, Some, None, Option, ◌==◌, nat_lt, refl}
use Rattle.std.proofs.Common.{ap, ◌∙◌, arith}
use Rattle.std.proofs.lemmas.List.{length-replicate}
use Rattle.std.proofs.lemmas.Bool.{both_ways, eqb-true, eq-eqb, cond-true, lt-ltb, ltb-true, and_parts, and_from, not-true, not_from_false}
use Rattle.disk.specs.Meaning.{Meaning, Lawful, Still}

-- the image of block b, where a block and its image are in flight
abbrev pub in_flight : Option (ℕ × List ℕ) → ℕ → Option (List ℕ)
in_flight None b = None
in_flight (Some f) b = cond (f.0 == b) (Some f.1) None

-- such a disk of n blocks, by what is in flight
abbrev pub faulty : ℕ → Option (ℕ × List ℕ) → Meaning
faulty n flight = record {
  blocks = n;
  medium = λ b. replicate 256 0;
  air = in_flight flight;
  opens = λ b. nat_lt b n && not (is_some flight);
  spent = false;
}

-- its condition: a layer from 1 on, a whole image, and the block in flight below n
pub record Sound (n layer : ℕ) (flight : Option (ℕ × List ℕ)) : Type 0 where
  pub few : n < 65536
  pub from_one : 0 < layer
  pub whole : (f : ℕ × List ℕ) → flight ≡ Some f → length f.1 ≡ 256
  pub below : (f : ℕ × List ℕ) → flight ≡ Some f → f.0 < n

-- what is in flight is the block in flight, and its image
flying-at : (flight : Option (ℕ × List ℕ)) (b : ℕ) → is_some (in_flight flight b) ≡ true → (f : ℕ × List ℕ) × (flight ≡ Some f) × (f.0 ≡ b)
flying-at None b e = absurd (both_ways false refl e)
flying-at (Some f) b e = (f, refl, at (f.0 == b) refl e)
  where
    at : (t : Bool) → (f.0 == b) ≡ t → is_some (cond t (Some f.1) None) ≡ true → f.0 ≡ b
    at true q e = eqb-true f.0 b q
    at false q e = absurd (both_ways false refl e)

image-at : (flight : Option (ℕ × List ℕ)) (shown : List ℕ) (b : ℕ) → in_flight flight b ≡ Some shown → (f : ℕ × List ℕ) × (flight ≡ Some f) × (shown ≡ f.1)
image-at None shown b e = let z : ◌≡◌ {A = ℕ} 0 1 = cc in absurd (omega arith)
image-at (Some f) shown b e = (f, refl, at (f.0 == b) e)
  where
    at : (t : Bool) → cond t (Some f.1) None ≡ Some shown → shown ≡ f.1
    at true e = cc
    at false e = let z : ◌≡◌ {A = ℕ} 0 1 = cc in absurd (omega arith)

pub grounded : (flight : Option (ℕ × List ℕ)) (b : ℕ) → is_some flight ≡ false → is_some (in_flight flight b) ≡ false
grounded None b e = refl
grounded (Some f) b e = absurd (both_ways true e refl)

pub idle : (n layer : ℕ) (flight : Option (ℕ × List ℕ)) → Sound n layer flight → Still (faulty n flight) → is_some flight ≡ false
idle n layer None s still = refl
idle n layer (Some f) s still = absurd (both_ways _ (still f.0 (s.below f refl)) (ap is_some (cond-true (f.0 == f.0) (Some f.1) None (eq-eqb f.0 f.0 refl))))

pub lawful-faulty : (n layer : ℕ) (flight : Option (ℕ × List ℕ)) → Sound n layer flight → Lawful (faulty n flight)
lawful-faulty n layer flight s = record {
  few_blocks = s.few;
  whole_block = λ b l. length-replicate {A = ℕ} 256 0;
  whole_image = λ b shown e. let i = image-at flight shown b e in ap length i.2 ∙ s.whole i.0 i.1;
  flying_below = λ b e. let i = flying-at flight b e in omega (arith, i.2, s.below i.0 i.1);
  open_below = λ b e. ltb-true b n (and_parts _ _ e).0;
  open_grounded = λ b e. grounded flight b (not-true _ (and_parts _ _ e).1);
  idle_open = λ still _ b l. and_from _ _ (lt-ltb b n l) (not_from_false _ (idle n layer flight s still));
}
