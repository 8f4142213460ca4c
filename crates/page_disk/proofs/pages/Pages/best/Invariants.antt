use Rattle.page_disk.specs.Pages.{BestBelow}
use Rattle.page_disk.proofs.pages.Pages.best.Given as goal

abbrev pub invariant-loop-i : goal.invariant-loop-i
invariant-loop-i l = BestBelow l.self.pages l.self.lives l.i l.best
