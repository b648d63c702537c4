-- What holds after any calls from an accepted opening: the state, the memory and the history follow the tracker, each log is the bytes of
-- its task's entries, and these are in range. It holds after opening, and each call keeps it.
use Rattle.std.specs.Prelude.{Bool, true, false, cond, List, [], ◌∷◌, ◌++◌, ◌≡◌, ℕ, ◌*◌, ◌≤◌, ◌<◌, eqb, length, get_or}
use Rattle.std.proofs.Common.{append-nil, append_assoc, subst, ◌∙◌, arith, length-append, get_or-set_same, get_or-set_other}
use Rattle.std.proofs.Math.Decide.{ℕ_discrete}
use borrow.Author.Tests.{eqb-true, eqb-false}
use Rattle.codec.specs.Laws.Decide.{passes, fails, split}
use Rattle.entries.specs.declared.Limits.{Limits}
use Rattle.entries.specs.Recording.{Entry as FileEntry}
use Rattle.entries.specs.Bytes.{entry_bytes, body_bytes}
use Rattle.reader.specs.Range.{EntryIn, EntriesIn}
use Rattle.history.specs.Entry.{Entry}
use Rattle.history.specs.History.{History, count, At, here, there}
use Rattle.history.proofs.Laws.History.{count-own, count-other}
use Rattle.tracker.specs.Laws.Accesses.{tracked_entry}
use Rattle.tracker.proofs.Laws.After.{next-tasks, next-objects, next-fields}
use Rattle.tracker.specs.Laws.Tracks.{Tracks, tracks_more}
use Rattle.recorder.specs.AccessOf.{is_write, value_after, memory_after}
use Rattle.recorder.proofs.Laws.Accepted.{Takes, written-length, entry_in_lem, entry_bound}
use Rattle.recorder.specs.WholeRun.{AccessCall, Call, Box, called, left_by, called_all}
use Rattle.fidelity.specs.Box.{Fits, Asked, calls_of, accepts, recorded_entry, added_by, recorded_from, cell_by}
use Rattle.fidelity.specs.Filed.{filed_of, filed}
use Rattle.fidelity.specs.Laws.Matches.{Recordable}
use Rattle.fidelity.specs.Laws.OneCall.{given_by, file_entry, history_entry, box_after, taken_turn, turned_away}
use Rattle.fidelity.proofs.Laws.OneCall.{turn, entry-filed, memory-after, memory-length}
use Rattle.codec.specs.Cell.{cells_of}
use Rattle.fidelity.specs.Laws.Follows.{Follows, limits}

-- a body with one more entry at its end
body_more : (es : List FileEntry) (e : FileEntry) → body_bytes (es ++ (e ∷ [])) ≡ body_bytes es ++ entry_bytes e
unfolding body_bytes
body_more [] e = append-nil (entry_bytes e)
body_more (x ∷ es) e = rw (body_more es e, append_assoc)

entries-more : (m : Limits) (es : List FileEntry) (e : FileEntry) → EntriesIn m es → EntryIn m e → EntriesIn m (es ++ (e ∷ []))
entries-more m [] e i j = (j, tt)
entries-more m (x ∷ es) e i j = (i.0, entries-more m es e i.1 j)

module _ {start : ℕ → ℕ} {tasks objects fields : ℕ} {b : Box} {h : History} (f : Follows start tasks objects fields b h) (c : AccessCall) where
  module _ (k : Takes b.state c.task c.object c.field c.sort c.value b.memory c.out) where
    tracks_next : Tracks start (box_after b c).state (λ o. get_or (box_after b c).memory o 0) (history_entry b c ∷ h)
    tracks_next =
        rw (memory-after b.memory (cell_by b c) (is_write c.sort) c.value (omega (arith, k.facts.memory_each, k.facts.accepts.cell_low)))
        at (tracks_more c.task (cell_by b c) (is_write c.sort) c.value f.tracks k.facts.accepts)

    -- its entry in the recording, under the opening's head
    filed_as_lem : filed fields (history_entry b c) ≡ file_entry b c
    filed_as_lem = subst (λ (x : ℕ). filed x (history_entry b c) ≡ file_entry b c) f.fields_are (entry-filed b c k.facts.field_low)

    logs-next : (t : ℕ) → (box_after b c).logs t ≡ body_bytes (filed_of fields t (history_entry b c ∷ h))
    unfolding filed_of
    logs-next t = elim (split (eqb c.task t)) [
      | passes p ↦ rw (p, filed_as_lem, body_more, f.logs t)
      | fails p ↦ rw p (f.logs t)
    ]

    small_next : (t : ℕ) → length ((box_after b c).logs t) ≤ 140 * count t (history_entry b c ∷ h)
    small_next t = elim (split (eqb c.task t)) [
      | passes p ↦ rw (p, length-append, written-length) (omega (
        arith,
        f.small t,
        count-own t (history_entry b c) h (eqb-true _ _ p),
        entry_bound b.state c.task c.object c.field (is_write c.sort) k.facts.sound.tasks_fit,
      ))
      | fails p ↦ rw p (omega (arith, f.small t, count-other t (history_entry b c) h (eqb-false _ _ p)))
    ]

    given-fits : c.value < 4294967296 → given_by b c < 4294967296
    given-fits v = go (is_write c.sort)
      where
        go : (write : Bool) → value_after write (cell_by b c) c.value b.memory < 4294967296
        go true = v
        go false = f.values (cell_by b c)

    values-next : c.value < 4294967296 → (o : ℕ) → get_or (box_after b c).memory o 0 < 4294967296
    values-next v o = go (is_write c.sort)
      where
        go : (write : Bool) → get_or (memory_after write (cell_by b c) c.value b.memory) o 0 < 4294967296
        go false = f.values o
        go true = elim (ℕ_discrete o (cell_by b c)) [
          | yes e ↦ rw (e, get_or-set_same b.memory (cell_by b c) c.value 0 (omega (arith, k.facts.memory_each, k.facts.accepts.cell_low))) v
          | no e ↦ rw (get_or-set_other b.memory (cell_by b c) o c.value 0 e) (f.values o)
        ]

    entries_next : c.value < 4294967296 → (t : ℕ) → EntriesIn (limits tasks objects fields t) (filed_of fields t (history_entry b c ∷ h))
    unfolding filed_of
    entries_next v t = elim (split (eqb c.task t)) [
      | passes p ↦
          let m : limits b.state.tasks b.state.objects b.state.fields c.task ≡ limits tasks objects fields t = rw (f.tasks_are, f.objects_are, f.fields_are, eqb-true c.task t p) in
          rw (p, filed_as_lem) (entries-more (limits tasks objects fields t) (filed_of fields t h) (file_entry b c) (f.entries t)
          (subst (λ (x : Limits). EntryIn x (file_entry b c)) m
          (entry_in_lem b.state c.task c.object c.field (is_write c.sort) (given_by b c) k.facts.sound k.facts.object_low k.facts.field_low (given-fits v))))
      | fails p ↦ rw p (f.entries t)
    ]

    entry_recordable : Recordable (history_entry b c).act
    entry_recordable = go (is_write c.sort)
      where
        go : (write : Bool) → Recordable (tracked_entry b.state c.task (cell_by b c) write c.value (get_or b.memory (cell_by b c) 0)).act
        go true = tt
        go false = tt

    recordable_next : {e : Entry} {g : History} → At e g (history_entry b c ∷ h) → Recordable e.act
    recordable_next here = entry_recordable
    recordable_next (there a) = f.recordable a

    follows_next : c.value < 4294967296 → Follows start tasks objects fields (box_after b c) (history_entry b c ∷ h)
    follows_next v = record {
      tracks = tracks_next;
      tasks_are = next-tasks b.state c.task (cell_by b c) (is_write c.sort) ∙ f.tasks_are;
      objects_are = next-objects b.state c.task (cell_by b c) (is_write c.sort) ∙ f.objects_are;
      fields_are = next-fields b.state c.task (cell_by b c) (is_write c.sort) ∙ f.fields_are;
      memory_each = memory-length b.memory (cell_by b c) (is_write c.sort) c.value ∙ f.memory_each;
      values = values-next v;
      logs = logs-next;
      small = small_next;
      entries = entries_next v;
      recordable = λ a. recordable_next a;
    }

  follows_call : c.value < 4294967296 → Follows start tasks objects fields (called b c) (cond (accepts b c) (recorded_entry b c ∷ []) [] ++ h)
  follows_call v = elim (turn b c) [
    | taken_turn k a x e s ↦ rw (a, e, s) (follows_next k v)
    | turned_away a x s ↦ rw (a, s) f
  ]

-- a call of any sort
follows_left : {start : ℕ → ℕ} {tasks objects fields : ℕ} {b : Box} {h : History} → Follows start tasks objects fields b h → (c : Call) → Fits c
    → Follows start tasks objects fields (left_by b c) ((added_by b c).entries ++ h)
follows_left f (Call.access c) v = follows_call f c v

pub follows_all : {start : ℕ → ℕ} {tasks objects fields : ℕ} (b : Box) (h : History) (asked : List Asked) → Follows start tasks objects fields b h
    → Follows start tasks objects fields (called_all b (calls_of asked)) (recorded_from h b (calls_of asked))
unfolding called_all recorded_from
follows_all b h [] f = f
follows_all b h (a ∷ asked) f = follows_all (left_by b a.call) _ asked (follows_left f a.call a.fits)
