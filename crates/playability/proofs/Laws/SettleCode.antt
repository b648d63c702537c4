-- The play without a memory as the code does it: one pass of the loop, and the runs of a layout.
use Rattle.std.specs.Prelude.{Ok, Err, ◌≡◌, true, List, ℕ, ◌+◌, ◌<◌, length}
use Rattle.std.proofs.Math.Path.{refl}
use Rattle.std.proofs.Common.{sym, ap, ◌∙◌, arith}
use Rattle.codec.specs.declared.Op.{Op}
use Rattle.codec.specs.Field.{Bytes}
use Rattle.entries.specs.declared.Refusal.{Refusal}
use Rattle.reader.specs.declared.layout.Layout.{Layout}
use Rattle.reader.specs.Laws.Located.{reads, refuses}
use Rattle.reader.specs.Layout.{layout_of}
use Rattle.reader.specs.Parse.{parse}
use Rattle.pending.specs.declared.Run.{Run}
use Rattle.pending.specs.Laws.Moved.{Shaped}
use Rattle.pending.proofs.Laws.Moved.{moved_shaped}
use Rattle.pending.specs.Run.{moved_of}
use Rattle.pending.specs.Sound.{sound_of}
use Rattle.replayer.proofs.Laws.OpenCode.{begun_opened}
use Rattle.replayer.proofs.Laws.OpenOf.{opened-stands}
use Rattle.replayer.specs.OpenOf.{begun_of, opened_run}
use Rattle.replayer.specs.ReadyOf.{ready_of}
use Rattle.scheduler.specs.Finish.{left_over}
use Rattle.scheduler.specs.Laws.Lowest.{IsNext}
use Rattle.scheduler.proofs.Laws.Lowest.{behind}
use Rattle.scheduler.proofs.Laws.Opened.{opened-few}
use Rattle.scheduler.proofs.Laws.Schedule.{schedule_short, schedule_next}
use Rattle.scheduler.proofs.Laws.Settled.{settled_next, settled_stops}
use Rattle.scheduler.specs.Schedule.{schedule_of, settled_of}
use Rattle.playability.specs.Settle.{settle_of}
use Rattle.playability.specs.Laws.SettleCode.{Settling}

pub settling_none : (b : List ℕ) (r : Run) → Shaped r → Settling b r r 0
settling_none b r h = record { shaped = h; same = refl; count = omega arith }

module _ (b : List ℕ) (start r : Run) (steps : ℕ) (w : Settling b start r steps) where
  module _ (s : sound_of r (length b) ≡ true) (t : ℕ) (op : Op) (next : ℕ) (n : IsNext r b t op next) (q : Run) (e : q ≡ moved_of r t next) where
    pub settling_more : Settling b start q (steps + 1)
    settling_more = rw e (record {
      shaped = moved_shaped r t next w.shaped;
      same = sym (settled_next b r s w.shaped t op next n) ∙ w.same;
      count = omega (arith, w.count, ap length (schedule_next b r s w.shaped t op next n));
    })

    pub settling_fewer : left_over q < left_over r
    settling_fewer = rw e (omega (arith, (behind r b t op next s w.shaped n).fewer))

    pub settling_fits : left_over start < 18446744073709551616 → steps + 1 < 18446744073709551616
    settling_fits l = omega (arith, settling_more.count, schedule_short b start)

  pub settling_ends : (ready_of r b).word ≡ 0 → (r ≡ settled_of b start) × (steps ≡ length (schedule_of b start))
  settling_ends z = let e = settled_stops b r z in (sym e.1 ∙ w.same, omega (arith, w.count, ap length e.0))

-- bytes that are refused
pub settle_refused : (b : List ℕ) (c : Refusal) → Err c ≡ layout_of (parse b) → Err c ≡ settle_of b
unfolding settle_of
settle_refused b c e = rw (refuses b c e).is

-- the run at the start of a layout
module _ (b : List ℕ) (l : Layout) (e : Ok l ≡ layout_of (parse b)) (r : Run) (f : r ≡ begun_of l) where
  at_start : r ≡ opened_run (reads b l e).parsed
  at_start = f ∙ begun_opened l (reads b l e).parsed (reads b l e).laid

  pub settle_plays : Bytes b → (sound_of r (length b) ≡ true) × (left_over r < 18446744073709551616)
  settle_plays by = let w = reads b l e in rw at_start ((opened-stands b w.parsed w.is).sound, opened-few b w.parsed by w.is)

  pub settle_read : Ok (record { start = r; run = settled_of b r; steps = length (schedule_of b r) }) ≡ settle_of b
  unfolding settle_of
  settle_read = rw ((reads b l e).is, at_start)
