use Rattle.replayer.specs.Memory.{agrees}
use Rattle.codec.specs.Laws.Kind.{write_no_read}
use Rattle.codec.specs.Kind.{writes, is_valued_read}
use Prim.Native.Nat.{ℕ}
use mathlib.Core.Path.{◌≡◌, sym, ap, ◌∙◌}
use mathlib.Core.Bool.{true, false}
use Rattle.playback.proofs.finish.taken.Goals as goal

-- a write holds no value to compare
write-valued : (kind : ℕ) → writes kind ≡ true → is_valued_read kind ≡ false
unfolding is_valued_read
write-valued kind h = rw (write_no_read kind h)

pub returns-then-op-write : goal.returns-then-op-write
returns-then-op-write c = let v : is_valued_read c.args.op.kind ≡ false = write-valued _ (ap writes c.if-op-write.true ∙ c.requires) in record { value = rw v; memory_after = rw v c.perform.ensures.memory_after }

pub returns-then-not-agrees : goal.returns-then-not-agrees
returns-then-not-agrees c = let e : agrees c.args.cell c.args.op c.args.memory.now ≡ false = sym c.agrees.ensures ∙ c.if-not-agrees.true in record { value = sym e; memory_after = rw e }

pub returns : goal.returns
returns c = let e : agrees c.args.cell c.args.op c.args.memory.now ≡ true = sym c.agrees.ensures ∙ c.if-not-agrees.false in record { value = sym e; memory_after = rw e c.perform-2.ensures.memory_after }
