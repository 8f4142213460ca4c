-- Refusals that compare as equal are the same.
use Rattle.std.proofs.Common.{◌≡◌, Decides, rules}
use Rattle.refusal.specs.declared.Refusal.{Refusal}
use Rattle.refusal.specs.declared.Refusal.TheVariants.{UnfitBytes}
use Rattle.refusal.specs.Codes.{code_of, same_refusal, Tells}

-- number and place tell a refusal
tells : (a : Refusal) → Tells a (code_of a)
tells UnfitBytes = search rules
tells _ = search rules

pub same_refusal-decides : (a b : Refusal) → Decides (same_refusal a b) (a ≡ b)
same_refusal-decides a b = let t = tells a in search rules
