use Rattle.std.proofs.Common.{not, sym, ap, ◌∙◌}
use Rattle.std.proofs.lemmas.Bool.{not-false}
use Rattle.disk_tests.specs.Faulty.{grounded, idle}
use Rattle.disk_tests.proofs.faulty.FaultyDisk.still.Goals as goal

pub returns : goal.returns
returns c =
    let x = c.args.self.now in (
      (λ yes b _. grounded x.flight b (c.is_none.ensures ∙ ap not yes)),
      (λ still. not-false _ (sym c.is_none.ensures ∙ idle x.blocks x.layer x.flight x.sound still)),
    )
