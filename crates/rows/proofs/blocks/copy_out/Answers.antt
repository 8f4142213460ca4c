use Rattle.std.proofs.Common.{rules}
use Rattle.rows.specs.Blocks.{block}
use Rattle.rows.proofs.blocks.copy_out.Goals as goal

pub returns : goal.returns
unfolding block
returns c = search rules
