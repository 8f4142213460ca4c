use Rattle.std.proofs.Common.{is_some, sym, ap, ◌∙◌}
use Rattle.std.proofs.lemmas.Bool.{eqb-true, eq-eqb}
use Rattle.plain_disk.specs.Laws.{flies-plain, idle-place, still-idle}
use Rattle.plain_disk.proofs.plain.PlainDisk.still.Goals as goal

pub returns : goal.returns
returns c =
    let x = c.args.self.now in
    let bytes = x.bytes.now in
    let p = x.places in (
      (λ t b l. flies-plain bytes p x.sound b ∙ ap is_some (idle-place p.slots (eqb-true _ 0 (sym c.is_idle.ensures ∙ t)) b)),
      (λ still. c.is_idle.ensures ∙ eq-eqb _ 0 (still-idle bytes p x.sound still)),
    )
