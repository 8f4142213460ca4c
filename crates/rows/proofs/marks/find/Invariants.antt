use Rattle.std.proofs.Common.{◌≡◌, take, None, position}
use Rattle.rows.proofs.marks.find.Given as goal

abbrev pub invariant-loop-i : goal.invariant-loop-i
invariant-loop-i g l = position (g.T.Test.passes l.test) (take l.i l.marks) ≡ None
