-- Values that may be there.
use Rattle.std.proofs.Common.{◌≡◌, ℕ, Bool, true, false, not, ◌&&◌, is_some, Some, None, Option, refl, ap, ◌∙◌, arith}
use Rattle.std.specs.Option.{option_map}
use Rattle.std.proofs.lemmas.Bool.{both_ways}

pub some_mapped : {X Y : Type 0} (f : X → Y) (o : Option X) → is_some (option_map f o) ≡ is_some o
some_mapped f None = refl
some_mapped f (Some x) = refl

pub none_from : {X : Type 0} (o : Option X) → is_some o ≡ false → o ≡ None
none_from None e = refl
none_from (Some x) e = absurd (both_ways true e refl)

-- what follows from each value that may be there follows where one is there
pub some-from : {X : Type 0} (P : Type 0) (o : Option X) → is_some o ≡ true → ((x : X) → o ≡ Some x → P) → P
some-from P None e h = absurd (both_ways false refl e)
some-from P (Some x) e h = h x refl

pub mapped-same : {X Y : Type 0} (f g : X → Y) (o : Option X) → ((x : X) → o ≡ Some x → f x ≡ g x) → option_map f o ≡ option_map g o
mapped-same f g None h = refl
mapped-same f g (Some x) h = ap Some (h x refl)

-- what follows from each value that gives y follows where y is there
pub mapped_at : {X Y : Type 0} (P : Type 0) (f : X → Y) (o : Option X) (y : Y) → option_map f o ≡ Some y → ((x : X) → o ≡ Some x → f x ≡ y → P) → P
mapped_at P f None y e h = let z : ◌≡◌ {A = ℕ} 0 1 = cc in absurd (omega arith)
mapped_at P f (Some x) y e h = h x refl cc

-- a block that is there and not in flight is open just where the last condition holds
pub open-when : {X : Type 0} (below last : Bool) (o : Option X) → below ≡ true → o ≡ None → (below && (not (is_some o) && last)) ≡ last
open-when below last o e f = ap (λ (t : Bool). t && (not (is_some o) && last)) e ∙ ap (λ q. not (is_some q) && last) f
