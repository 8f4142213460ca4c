use Rattle.std.proofs.Common.{is_some, sym, ap, ◌∙◌}
use Rattle.std.proofs.lemmas.Bool.{not-true, not_from_false}
use Rattle.rows.proofs.Options.{none_from}
use Rattle.page_disk.specs.Laws.{flies-paged, idle-found, idle-image, still-idle}
use Rattle.page_disk.proofs.paged.PagedDisk.still.Goals as goal

pub returns : goal.returns
returns c =
    let x = c.args.self.now in
    let t = x.pages in
    let answer = c.is_idle.ensures ∙ idle-found t.pages in (
      (λ yes b l. flies-paged x.bytes.now t x.sound b ∙ ap is_some (idle-image t.pages (none_from _ (not-true _ (sym answer ∙ yes))) b)),
      (λ still. answer ∙ not_from_false _ (ap is_some (still-idle x.bytes.now t x.sound still))),
    )
