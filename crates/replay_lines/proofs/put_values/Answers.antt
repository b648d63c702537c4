use mathlib.Core.Path.{◌≡◌, refl}
use Prim.Native.Nat.{◌≤◌, ◌-◌}
use native.Mathlib.Omega.{arith}
use lib.ListN.{length, take}
use lib.Seq.{take-length}
use Rattle.text.specs.Appended.{Appended}
use Rattle.text.specs.Laws.Appended.{joined, nothing}
use Rattle.replay_lines.specs.Lines.{spaced, memory_of}
use Rattle.replay_lines.proofs.Laws.Lines.{spaced-on, spaced_room, memory-length}
use Rattle.replay_lines.proofs.put_values.Goals as goal

pub put_bytes-end-requires : goal.put_bytes-end-requires
put_bytes-end-requires c = omega (arith, memory-length c.args.memory.now)

pub loop-i-init : goal.loop-i-init
unfolding spaced
loop-i-init c = (omega arith, refl, nothing c.put_bytes-end.new.out c.put_bytes-end.result)

pub put_byte-end-requires : goal.put_byte-end-requires
put_byte-end-requires c = omega (arith, c.loop-i.invariant.2.behind, memory-length c.args.memory.now, spaced_room c.args.memory.now c.loop-i.i (omega arith))

pub overflow_cast-memory : goal.overflow_cast-memory
overflow_cast-memory c = omega (arith, c.shared_slice_known-in-loop-i-1.given c.loop-i.i)

pub put_number-end-requires : goal.put_number-end-requires
put_number-end-requires c = omega (arith, c.loop-i.invariant.2.behind, c.put_byte-end.ensures.behind, memory-length c.args.memory.now, spaced_room c.args.memory.now c.loop-i.i (omega arith))

pub loop-i-preserved : goal.loop-i-preserved
loop-i-preserved c = let l = c.loop-i in
    (omega arith, omega arith, rw (spaced-on c.args.memory.now l.i (omega arith)) (joined l.invariant.2 (joined c.put_byte-end.ensures c.put_number-end.ensures)))

pub put_byte-requires : goal.put_byte-requires
put_byte-requires c = let l = c.loop-i in
    let m = c.args.memory.now in
    let e : l.i ≡ length m = omega arith in
    omega (arith, (rw (e, take-length) at l.invariant.2).behind, memory-length m)

pub returns : goal.returns
unfolding memory_of
returns c = let l = c.loop-i in
    let e : l.i ≡ length c.args.memory.now = omega arith in
    joined (joined c.put_bytes-end.ensures (rw (e, take-length) at l.invariant.2)) c.put_byte.ensures
