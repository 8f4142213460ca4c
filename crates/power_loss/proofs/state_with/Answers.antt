use Rattle.std.proofs.Common.{[], ◌∷◌, vec_items}
use Rattle.std.proofs.lemmas.Slice.{pushed}
use Rattle.disk.specs.Meaning.{stands}
use Rattle.power_loss.specs.States.{among}
use Rattle.power_loss.proofs.Listings.{push-more}
use Rattle.power_loss.proofs.state_with.Goals as goal

pub loop-b-preserved : goal.loop-b-preserved
loop-b-preserved g c =
    let m = g.D.Disk.meaning c.args.disk.now in
    let push = pushed (c.standing.result ∷ []) c.loop-b.invariant.1 c.in_ok-push.was c.push.ensures.items in
    let more = push-more (stands m (among (vec_items c.args.written))) c.loop-b.b (vec_items c.push.new.self) c.standing.result push in
    (cc, more (cc))
