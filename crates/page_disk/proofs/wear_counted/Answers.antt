use Rattle.page_disk.proofs.Counted.{wear-counted}
use Rattle.page_disk.proofs.wear_counted.Goals as goal

pub returns : goal.returns
returns c = wear-counted
