-- The loop that writes the order: what has been written, followed by what is still to come, is the order.
use Rattle.std.specs.Prelude.{◌≡◌, refl, false, List, [], ℕ, suc, ◌+◌, ◌-◌, ◌≤◌, ◌<◌, set}
use Rattle.std.proofs.Common.{ap, ◌∙◌, length-set}
use native.Mathlib.Omega.{arith}
use Rattle.std.proofs.Math.ListN.{length}
use Rattle.codec.specs.declared.Op.{Op}
use Rattle.codec.specs.Laws.Store.{store-none, store-cons}
use Rattle.replayer.specs.declared.ReadyWord.{ReadyWord}
use Rattle.pending.specs.declared.Run.{Run}
use Rattle.scheduler.specs.Laws.Lowest.{IsNext}
use Rattle.replayer.proofs.Laws.ReadyOf.{ready-unsound}
use Rattle.replayer.specs.ReadyOf.{ready_of}
use Rattle.pending.specs.Run.{moved_of}
use Rattle.scheduler.specs.Schedule.{schedule_from}
use Rattle.scheduler.proofs.Laws.Schedule.{schedule_stops, schedule_goes}
use Rattle.pending.specs.Sound.{sound_of}
use Rattle.scheduler.specs.Laws.ScheduleCode.{Writing, Wrote}

-- an unsound run
pub wrote_none : (b out : List ℕ) (r : Run) → sound_of r (length b) ≡ false → Wrote b out r out 0
wrote_none b out r u = rw (schedule_stops (length out) b r (ap (λ (w : ReadyWord). w.word) (ready-unsound r b u)), store-none) (refl, refl)

module _ (b out₀ : List ℕ) (r₀ : Run) where
  pub writing_none : Writing b out₀ r₀ out₀ r₀ 0
  writing_none = let e : length out₀ - 0 ≡ length out₀ = omega arith in record { within = omega arith; long = refl; count = rw e (omega arith); whole = rw e }

  module _ (out : List ℕ) (r : Run) (n : ℕ) (w : Writing b out₀ r₀ out r n) where
    pub writing_more : (t : ℕ) (op : Op) (next : ℕ) → n < length out → IsNext r b t op next → (q : Run) → q ≡ moved_of r t next → Writing b out₀ r₀ (set out n t) q (n + 1)
    writing_more t op next h k q p =
        let f : length out - n ≡ suc (length out - (n + 1)) = omega arith in
        let g = schedule_goes (length out - (n + 1)) b r t op next k in
        record {
          within = rw (length-set out n t) (omega arith);
          long = length-set out n t ∙ w.long;
          count = rw (p, length-set out n t) (omega (arith, rw (f, g) at w.count));
          whole = rw (p, length-set out n t, store-cons) (rw (f, g) at w.whole);
        }

    ended : schedule_from (length out - n) b r ≡ [] → Wrote b out₀ r₀ out n
    ended e = (omega (arith, rw e at w.count), rw (e, store-none) at w.whole)

    -- no task is ready, or the buffer is full
    pub writing_stops : (ready_of r b).word ≡ 0 → Wrote b out₀ r₀ out n
    writing_stops z = ended (schedule_stops (length out - n) b r z)

    pub writing_full : length out ≤ n → Wrote b out₀ r₀ out n
    unfolding schedule_from
    writing_full h = ended (let e : length out - n ≡ 0 = omega arith in rw e)
