use Rattle.page_disk.proofs.WornOut.{worn-out, can-wear-out}
use Rattle.page_disk.proofs.worn_out.Goals as goal

pub returns : goal.returns
returns c = record { only = worn-out; can = can-wear-out }
