-- The sections of the box's logs: each log is a body in range, so a section is accepted if the output has room; and what accepted
-- sections wrote, joined together, is the sections of the tasks' bodies.
use Rattle.std.specs.Prelude.{Ok, List, [], ◌≡◌, eqb, get_or, take}
use Rattle.std.proofs.Math.Path.{refl}
use Rattle.std.proofs.Common.{sym, ◌∙◌, arith, length-append}
use Prim.Native.Nat.{ℕ, zero, suc, ◌+◌, ◌≤◌, ◌<◌}
use borrow.Author.Tests.{lt-leb, le-ltb, eqb-true, eqb-false}
use Rattle.std.proofs.Math.ListN.{length}
use Rattle.codec.specs.Laws.Decide.{passes, fails, split}
use Rattle.codec.specs.Laws.Encode.{section-length}
use Rattle.codec.specs.Laws.Store.{store-front}
use Rattle.codec.specs.Kind.{section_kind, length_of}
use Rattle.codec.specs.Limit.{max_accesses}
use Rattle.entries.specs.Body.{walk_of}
use Rattle.entries.specs.Bytes.{body_bytes, sections_bytes}
use Rattle.reader.specs.Laws.Joined.{reads_walk}
use Rattle.reader.specs.Range.{BodyIn, BodiesIn}
use Rattle.reader.specs.Laws.Roundtrip.{body_back}
use Rattle.history.specs.History.{History}
use Rattle.tracker.specs.declared.State.{State}
use Rattle.tracker.specs.Laws.Facts.{Sound}
use Rattle.tracker.proofs.Laws.Facts.{sound_test}
use Rattle.tracker.specs.State.{done_of}
use Rattle.tracker.proofs.Laws.Tracks.{tracks_done, tracks_invariant}
use Rattle.sections.specs.SectionOf.{limits_of, log_checked, section_checked, section_bytes, section_of}
use Rattle.sections.specs.Laws.SectionCode.{section_facts}
use Rattle.recorder.specs.WholeRun.{Box, packed}
use Rattle.fidelity.specs.Filed.{filed_of, bodies_from}
use Rattle.fidelity.proofs.Laws.Filed.{filed-count}
use Rattle.fidelity.specs.Laws.Follows.{limits, Follows}

pub bodies-length : (fields : ℕ) (h : History) (t k : ℕ) → length (bodies_from fields h t k) ≡ k
unfolding bodies_from
bodies-length fields h t zero = refl
bodies-length fields h t (suc k) = rw (bodies-length fields h (suc t) k)

pub bodies-at : (fields : ℕ) (h : History) (t k i : ℕ) → i < k → get_or (bodies_from fields h t k) i [] ≡ filed_of fields (t + i) h
unfolding bodies_from
bodies-at fields h t zero i l = absurd (omega arith)
bodies-at fields h t (suc k) zero l = let e : t + 0 ≡ t = omega arith in rw e
bodies-at fields h t (suc k) (suc i) l = let e : t + suc i ≡ suc t + i = omega arith in rw e (bodies-at fields h (suc t) k i (omega arith))

-- what an accepted section wrote
pub section_wrote : (s : State) (t : ℕ) (log out : List ℕ) → (section_of s t log out).answer.number ≡ 0
    → ((section_of s t log out).answer.written ≡ 12 + length log) × (take (section_of s t log out).answer.written (section_of s t log out).out ≡ section_bytes s t log)
unfolding section_of
section_wrote s t log out z = elim (split (eqb (section_checked s t log (length out)).number 0)) [
  | passes p ↦
      let f = section_facts s t log (length out) (eqb-true _ _ p) in
      let e : length (section_bytes s t log) ≡ length_of section_kind + length log = rw (length-append, section-length) in
      rw p (refl, store-front out _ _ e f.room)
  | fails p ↦ absurd (eqb-false _ _ p (rw p at z))
]

module _ {start : ℕ → ℕ} {tasks objects fields : ℕ} {b : Box} {h : History} (f : Follows start tasks objects fields b h) where
  -- Done is the body's length, and it is within its limit
  done-is : (t : ℕ) → done_of b.state t ≡ length (filed_of fields t h)
  done-is t = tracks_done f.tracks t ∙ sym (filed-count fields t h)

  sound : Sound b.state
  sound = (tracks_invariant f.tracks).sound

  module _ (t : ℕ) (low : t < tasks) where
    few : length (filed_of fields t h) ≤ max_accesses
    few = omega (arith, done-is t, (sound.task t (omega (arith, f.tasks_are))).done_fits)

    log_size : length (b.logs t) < 4294967296
    log_size = omega (arith, f.small t, filed-count fields t h, few)

    body_in : BodyIn (limits tasks objects fields t) (filed_of fields t h)
    body_in = record { entries = f.entries t; count = omega (arith, few); size = rw (← f.logs t) log_size }

    log_walked : walk_of (limits_of b.state t) 0 (b.logs t) (done_of b.state t) 0 ≡ Ok tt
    log_walked =
        let m : limits tasks objects fields t ≡ limits_of b.state t = rw (f.tasks_are, f.objects_are, f.fields_are) in
        rw (f.logs t, done-is t, ← m) (reads_walk (limits tasks objects fields t) 0 (body_bytes (filed_of fields t h)) (filed_of fields t h) 0
        (body_back (limits tasks objects fields t) (record { tasks = omega (arith, sound.tasks_fit, f.tasks_are); objects = omega (arith, sound.objects_fit, f.objects_are); fields = omega (arith, sound.fields_fit, f.fields_are) }) 0
        (filed_of fields t h) (f.entries t)))

    -- an output with room is enough for the section to be accepted
    pub section-accepted : (out : List ℕ) → 12 + length (b.logs t) ≤ length out → (section_of b.state t (b.logs t) out).answer.number ≡ 0
    unfolding section_of section_checked log_checked
    section-accepted out room = rw (
      sound_test b.state sound,
      lt-leb b.state.tasks t (omega (arith, f.tasks_are)),
      lt-leb 4294967296 (length (b.logs t)) log_size,
      log_walked,
      le-ltb (length out) (length_of section_kind + length (b.logs t)) room,
    )

  pub bodies_in : (t k : ℕ) → t + k ≤ tasks → BodiesIn tasks objects fields t (bodies_from fields h t k)
  unfolding bodies_from
  bodies_in t zero l = tt
  bodies_in t (suc k) l = (body_in t (omega arith), bodies_in (suc t) k (omega arith))

  pub packed-is : (outs : ℕ → List ℕ) → ((t : ℕ) → t < tasks → (section_of b.state t (b.logs t) (outs t)).answer.number ≡ 0) → (t k : ℕ) → t + k ≤ tasks
      → packed b.state b.logs outs t k ≡ sections_bytes t (bodies_from fields h t k)
  unfolding packed sections_bytes bodies_from
  packed-is outs z t zero l = refl
  packed-is outs z t (suc k) l = rw ((section_wrote b.state t (b.logs t) (outs t) (z t (omega arith))).1, f.logs t, done-is t, packed-is outs z (suc t) k (omega arith))
