use mathlib.Core.Path.{◌≡◌, refl}
use Prim.Native.Nat.{◌≤◌, ◌-◌}
use native.Mathlib.Omega.{arith}
use lib.ListN.{length, take}
use lib.Seq.{take-length}
use Rattle.text.specs.Appended.{Appended}
use Rattle.text.specs.Laws.Appended.{joined, nothing}
use Rattle.replay_lines.specs.Lines.{spaced}
use Rattle.replay_lines.proofs.Laws.Lines.{spaced-on, spaced_room}
use Rattle.replay_lines.specs.Block.{row_of}
use Rattle.replay_lines.proofs.Laws.BlockCode.{row-length}
use Rattle.replay_lines.proofs.block.put_row.Goals as goal

pub put_bytes-end-requires : goal.put_bytes-end-requires
put_bytes-end-requires c = omega (arith, row-length c.args.words.now c.args.numbers.now)

pub loop-i-init : goal.loop-i-init
unfolding spaced
loop-i-init c = (omega arith, refl, nothing c.put_bytes-end.new.out c.put_bytes-end.result)

pub put_byte-end-requires : goal.put_byte-end-requires
put_byte-end-requires c = let r = c.args in
    omega (arith, c.loop-i.invariant.2.behind, row-length r.words.now r.numbers.now, spaced_room r.numbers.now c.loop-i.i (omega arith))

pub put_number-end-requires : goal.put_number-end-requires
put_number-end-requires c = let r = c.args in
    omega (arith, c.loop-i.invariant.2.behind, c.put_byte-end.ensures.behind, row-length r.words.now r.numbers.now, spaced_room r.numbers.now c.loop-i.i (omega arith))

pub loop-i-preserved : goal.loop-i-preserved
loop-i-preserved c = let l = c.loop-i in
    (omega arith, omega arith, rw (spaced-on c.args.numbers.now l.i (omega arith)) (joined l.invariant.2 (joined c.put_byte-end.ensures c.put_number-end.ensures)))

pub put_byte-requires : goal.put_byte-requires
put_byte-requires c = let l = c.loop-i in
    let ns = c.args.numbers.now in
    let e : l.i ≡ length ns = omega arith in
    omega (arith, (rw (e, take-length) at l.invariant.2).behind, row-length c.args.words.now ns)

pub returns : goal.returns
unfolding row_of
returns c = let l = c.loop-i in
    let e : l.i ≡ length c.args.numbers.now = omega arith in
    joined (joined c.put_bytes-end.ensures (rw (e, take-length) at l.invariant.2)) c.put_byte.ensures
