use Rattle.std.proofs.Common.{rules}
use Rattle.page_disk.proofs.Turns.{finished}
use Rattle.page_disk.proofs.paged.PagedDisk.finish.Goals as goal

pub invariant_of-self : goal.invariant_of-self
invariant_of-self c =
    let x = c.args.self.now in
    record { sound = (finished x.bytes.now x.pages x.sound c.args.b c.in_ok-j.j c.in_ok-old.old c.end.result c.end.new.self (search rules) (search rules) c.end.ensures).keeps }

pub returns : goal.returns
returns c =
    let x = c.args.self.now in
    let f = finished x.bytes.now x.pages x.sound c.args.b c.in_ok-j.j c.in_ok-old.old c.end.result c.end.new.self (search rules) (search rules) c.end.ensures in
    record { rule = (f.flying, f.effect); same = tt; ends = f.ends }
