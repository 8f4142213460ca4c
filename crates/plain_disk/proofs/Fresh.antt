-- Fresh places meet the condition of a plain disk.
use Rattle.std.proofs.Common.{◌≡◌, ℕ, ◌+◌, ◌*◌, ◌<◌, ◌≤◌, Bool, true, false, cond, ltb, List, length, get_or, is_some, Option, refl, ap, ◌∙◌, arith}
use Rattle.std.proofs.lemmas.List.FromFn.{length-map-range_with_len, get_or-map-range_with_len}
use Rattle.std.proofs.lemmas.Bool.{both_ways}
use Rattle.std.specs.Option.{option_map}
use Rattle.disk.specs.Meaning.{Still}
use Rattle.rows.specs.Blocks.{block}
use Rattle.rows.proofs.Firsts.{position-none}
use Rattle.plain_disk.specs.declared.places.Slot.TheVariants.{Free, Holding, Absent}
use Rattle.plain_disk.specs.Slots.{same_slot, present, fresh_slot, fresh_slots}
use Rattle.plain_disk.specs.Places.{fresh}
use Rattle.plain_disk.specs.Plain.{plain, Sound}

at : (k j : ℕ) → j < 8 → get_or (fresh_slots k) j Free ≡ fresh_slot k j
at k j l = get_or-map-range_with_len (fresh_slot k) 0 8 j j Free l (omega arith)

here : (t : Bool) → present (cond t Free Absent) ≡ t
here true = refl
here false = refl

idle : (b : ℕ) (t : Bool) → same_slot (Holding b) (cond t Free Absent) ≡ false
idle b true = refl
idle b false = refl

-- no place holds a block
empty : (k b j : ℕ) → j < length (fresh_slots k) → same_slot (Holding b) (get_or (fresh_slots k) j Free) ≡ false
empty k b j l = ap (same_slot (Holding b)) (at k j (omega (arith, length-map-range_with_len (fresh_slot k) 0 8))) ∙ idle b (ltb j k)

pub sound-fresh : (bytes : List ℕ) (n k : ℕ) → n < 65536 → 1 ≤ k → k ≤ 8 → (0 < n → length bytes ≡ 256 * (n + k)) → Sound bytes (fresh n k)
sound-fresh bytes n k few some most long =
    let eight = length-map-range_with_len (fresh_slot k) 0 8 in
    record {
      few = few;
      some = some;
      most = most;
      eight = eight;
      there = λ j l. ap present (at k j l) ∙ here (ltb j k);
      below = λ j b l t. absurd (both_ways _ (empty k b j (omega arith)) t);
      apart = λ b i j l q t u. absurd (both_ways _ (empty k b i l) t);
      long = long;
    }

-- nothing is in flight
pub still-fresh : (bytes : List ℕ) (n k : ℕ) → Still (plain bytes (fresh n k))
still-fresh bytes n k b l = ap (λ (o : Option ℕ). is_some (option_map (λ j. block (n + j) bytes) o)) (position-none (same_slot (Holding b)) (fresh_slots k) Free (empty k b))
