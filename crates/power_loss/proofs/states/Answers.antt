use Rattle.std.proofs.Common.{◌≡◌, ◌^◌, ◌≤◌, [], ◌∷◌, map, length, vec_items, sym, refl, ap, ◌∙◌, ap₂, arith}
use Rattle.std.specs.List.{range_with_len}
use Rattle.std.proofs.lemmas.Nat.{one_shl, pow_pos}
use Rattle.std.proofs.lemmas.Slice.{pushed}
use Rattle.disk.specs.Meaning.{flies, stands}
use Rattle.power_loss.specs.States.{in_flight, among}
use Rattle.power_loss.specs.Numbered.{airborne, picked}
use Rattle.power_loss.proofs.Listings.{length-airborne, picked-flies, shown, listing-all, map-push-more}
use Rattle.power_loss.proofs.states.Goals as goal

pub returns-then-len-gt-MOST-clause-listed : goal.returns-then-len-gt-MOST-clause-listed
returns-then-len-gt-MOST-clause-listed g c =
    let many = ap length c.in_ok-flying.ensures ∙ length-airborne (g.D.Disk.meaning c.args.disk.now) in
    omega (arith, c.in_ok-flying.flying.ok.0)

pub state_with-requires : goal.state_with-requires
state_with-requires g c b h =
    let m = g.D.Disk.meaning c.args.disk.now in
    let chosen = c.in_ok-written.ensures ∙ ap (picked c.loop-number.number) (c.as_slice.ensures.value ∙ c.in_ok-flying.ensures) in
    ap (λ k. flies k b) c.loop-number.invariant.0 ∙ picked-flies m c.loop-number.number b (ap (λ ws. among ws b) (sym chosen) ∙ h)

pub loop-number-preserved : goal.loop-number-preserved
loop-number-preserved g c =
    let n = c.loop-number.number in
    let m = g.D.Disk.meaning c.args.disk.now in
    let s = c.in_ok-state_with.field-0 in
    let chosen = c.in_ok-written.ensures ∙ ap (picked n) (c.as_slice.ensures.value ∙ c.in_ok-flying.ensures) in
    let made = c.in_ok-state_with.ensures in
    let was = vec_items c.loop-number.states in
    let now = vec_items c.push.new.self in
    let push = pushed (s ∷ []) refl c.in_ok-push.was c.push.ensures.items in (
      (cc),
      map-push-more (λ t. vec_items t.written) (λ k. picked k (airborne m)) n was now s c.loop-number.invariant.1 push (made.written ∙ chosen),
      map-push-more (λ t. vec_items t.blocks) (shown m) n was now s c.loop-number.invariant.2 push
          (made.blocks ∙ ap₂ (λ k ws. map (stands k (among ws)) (range_with_len 0 k.blocks)) c.loop-number.invariant.0 chosen),
    )

-- it holds wherever the loop starts: a wrong start is refused at the invariant
pub returns-clause-listed : goal.returns-clause-listed
returns-clause-listed g c =
    let m = g.D.Disk.meaning c.args.disk.now in
    let many = ap length c.in_ok-flying.ensures in
    let is : c.len-number-end.result ≡ length (airborne m) = omega (arith, c.in_ok-flying.flying.ok.0) in
    let few : in_flight m ≤ 16 = omega (arith, length-airborne m) in
    let power = one_shl c.len-number-end.result 64 (omega arith) in
    let all = power ∙ ap (λ k. 2 ^ k) is in
    (few, listing-all m (g.met.D.Disk.lawful c.args.disk.now) c.loop-number.number _ _ (omega (arith, all, pow_pos c.len-number-end.result)) c.loop-number.invariant.1 c.loop-number.invariant.2)
