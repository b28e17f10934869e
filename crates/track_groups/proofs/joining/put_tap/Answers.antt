use Rattle.std.proofs.Common.{List, inl, sym, subst, arith}
use Rattle.std.proofs.Math.ListN.{set}
use Rattle.track_groups.specs.declared.group.Tap.{Tap}
use Rattle.track_groups.specs.kept.Joining.{TapsMore}
use Rattle.track_groups.proofs.Tapped.{put_tap_set, put_tap_push}
use Rattle.track_groups.proofs.joining.put_tap.Goals as goal

pub returns-then-tap-pin-clause-added : goal.returns-then-tap-pin-clause-added
returns-then-tap-pin-clause-added c =
    let ts = c.loop-index.taps.items in
    let tap = c.index-tap.result.now in
    let new = set ts c.loop-index.index (record { pin = tap.pin; sink = tap.sink; tracks = c.with_bit.result }) in
    let P : List Tap → Type 0 = λ old. TapsMore c.args.pin c.args.track old new in
    inl (subst P c.loop-index.invariant (put_tap_set ts c.args.pin c.args.track c.loop-index.index tap c.with_bit.result (omega arith) c.index-tap.ensures c.if-tap-pin.true c.with_bit.ensures))

pub returns-clause-added : goal.returns-clause-added
returns-clause-added c =
    let ts = c.loop-index.taps.items in
    let P : List Tap → Type 0 = λ old. TapsMore c.args.pin c.args.track old c.push.new.self.items in
    let Q : List Tap → Type 0 = λ new. TapsMore c.args.pin c.args.track ts new in
    inl (subst P c.loop-index.invariant (subst Q (sym c.in_ok-push.ensures.items) (put_tap_push ts c.args.pin c.in-Some.sink c.args.track c.with_bit-2.result c.with_bit-2.ensures)))
