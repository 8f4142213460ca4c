use Rattle.std.proofs.Common.{◌≡◌, false, is_some, ap, ◌∙◌, arith}
use Rattle.disk.specs.Meaning.{flies}
use Rattle.join_disk.specs.Join.{joined}
use Rattle.join_disk.specs.Laws.{sides-joined, on_both, still-each}
use Rattle.join_disk.proofs.join.JoinDisk.still.Goals as goal

pub returns-else-blocks-eq0 : goal.returns-else-blocks-eq0
returns-else-blocks-eq0 g c =
    let x = c.args.self.now in
    let l = g.L.Disk.meaning x.left in
    let r = g.R.Disk.meaning x.right in
    let m = joined l r in
    let s = sides-joined l r in (
      (λ t. let each = c.sides_still.ensures.0 t in on_both l r m s (λ b. flies m b ≡ false) (λ b q o. ap is_some o.air ∙ each.0 b q) (λ b q o. ap is_some o.air ∙ each.1 b q)),
      (λ still. c.sides_still.ensures.1 (still-each l r m s 0 (omega arith) still)),
    )
