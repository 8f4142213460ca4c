use Rattle.std.proofs.Common.{rules}
use Rattle.page_disk.proofs.Turns.{shut, started}
use Rattle.page_disk.proofs.paged.PagedDisk.start.Goals as goal

pub returns-in_err-j-clause-rule : goal.returns-in_err-j-clause-rule
returns-in_err-j-clause-rule c =
    let x = c.args.self.now in
    let opens = shut x.bytes.now x.pages x.sound c.args.b (search rules) (search rules) (search rules) in
    search rules

pub invariant_of-self : goal.invariant_of-self
invariant_of-self c =
    let x = c.args.self.now in
    record { sound = (started x.bytes.now x.pages x.sound c.args.b c.in_ok-j.j c.args.image.now c.take.new.bytes c.take.new.pages (search rules) (search rules) (search rules) (search rules) c.take.ensures.bytes c.take.ensures.pages).keeps }

pub returns : goal.returns
returns c =
    let x = c.args.self.now in
    let s = started x.bytes.now x.pages x.sound c.args.b c.in_ok-j.j c.args.image.now c.take.new.bytes c.take.new.pages (search rules) (search rules) (search rules) (search rules) c.take.ensures.bytes c.take.ensures.pages in
    record { rule = (search rules, s.opens, s.effect); same = tt; starts = s.starts }
