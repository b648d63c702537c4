-- One pass over a group tells whether its access may be done: a met ordering makes no difference, and any other record but the access ends it.
use Rattle.std.specs.Prelude.{Err, Ok, ◌≡◌, refl, Bool, true, false, ◌&&◌, List, [], ◌∷◌, ℕ, ◌+◌, ◌-◌, ◌≤◌, ◌<◌, leb, length, take, drop, get_or}
use Rattle.std.proofs.Common.{sym, ap, ◌∙◌, le-leb}
use Rattle.std.proofs.lemmas.Bool.{lt-leb}
use Rattle.codec.specs.declared.Position.{Position}
use Rattle.codec.specs.Decode.{record_of, is_ordering}
use Rattle.codec.specs.Limit.{max_tasks}
use Rattle.codec.specs.declared.number.Reason.TheVariants.{InBody, Misplaced}
use Rattle.entries.specs.declared.Refusal.{Refusal}
use Rattle.entries.specs.declared.Limits.{Limits}
use Rattle.entries.specs.Entry.{ordering_ok, after, access_of}
use Rattle.entries.proofs.Laws.Entry.{entry-end, entry-told, access_alone}
use Rattle.entries.specs.Laws.EntryCode.{position_at}
use Rattle.entries.proofs.Laws.EntryCode.{turn_access, turn_range, turn_after}
use Rattle.entries.specs.Part.{part}
use Rattle.entries.proofs.Laws.Part.{part_none}
use Rattle.entries.specs.Reading.{Reading, is_read, stop}
use Rattle.entries.specs.Recording.{Entry}
use Rattle.pending.specs.declared.TaskRun.{TaskRun}
use Rattle.pending.proofs.Laws.FirstUnmet.{done_at_lem}
use Rattle.pending.specs.Look.{group_at, Opens}
use Rattle.pending.specs.Met.{all_met}
use Rattle.pending.specs.Next.{judged, is_open}
use Rattle.pending.proofs.Laws.Next.{open_met}
use Rattle.pending.specs.Run.{done_of}

-- a refusal is nothing that may be done
opens_refused : (runs : List TaskRun) (at : ℕ) (c : Refusal) → is_open (judged runs at (Err c)) ≡ false
unfolding judged
opens_refused runs at c = refl

no_more : (t : Bool) → false ≡ t && false
no_more true = refl
no_more false = refl

-- an ordering in front, wherever the rest is taken to start
opens_after : (runs : List TaskRun) (at next : ℕ) (p : Position) (x : Reading Entry)
    → is_open (judged runs at (after p x)) ≡ leb p.number (done_of runs p.task) && is_open (judged runs next x)
unfolding all_met
opens_after runs at next p (Err c) = rw (opens_refused runs at c, opens_refused runs next c) (no_more (leb p.number (done_of runs p.task)))
opens_after runs at next p (Ok e) =
    open_met runs at (Ok (record { orderings = p ∷ e.orderings; op = e.op })) _ refl ∙ rw (open_met runs next (Ok e) e refl)

-- an access alone may be done
opens_alone : (runs : List TaskRun) (at : ℕ) (x : Reading Entry) → ((e : Entry) → x ≡ Ok e → e.orderings ≡ []) → is_read x ≡ is_open (judged runs at x)
unfolding all_met
opens_alone runs at (Err c) h = sym (opens_refused runs at c)
opens_alone runs at (Ok e) h = sym (open_met runs at (Ok e) e refl ∙ rw (h e refl))

module _ (m : Limits) (b dones : List ℕ) (place end : ℕ) where
  -- nothing is left
  pub opens_end : end ≤ place → Opens dones place (group_at m b place end) false
  opens_end h runs d = rw (entry-end m (stop InBody place) place (part place end b) (part_none place end b h)) (sym (opens_refused runs place _))

  module _ (h : place < end) (k : end ≤ length b) where
    pub opens_access : is_ordering (record_of (take (end - place) (drop place b))) ≡ false → (r : Bool)
        → r ≡ is_read (access_of m place (record_of (take (end - place) (drop place b)))) → Opens dones place (group_at m b place end) r
    opens_access o r q runs d =
        rw (turn_access m (stop InBody place) b place end h k o)
        (q ∙ opens_alone runs place _ (access_alone m place (record_of (take (end - place) (drop place b)))))

    module _ (o : is_ordering (record_of (take (end - place) (drop place b))) ≡ true) where
      pub opens_range : ordering_ok m (position_at (take (end - place) (drop place b))) ≡ false → Opens dones place (group_at m b place end) false
      opens_range bad runs d = rw (turn_range m (stop InBody place) b place end h k o bad) (sym (opens_refused runs place _))

      module _ (ok : ordering_ok m (position_at (take (end - place) (drop place b))) ≡ true) where
        -- the ordering, and the rest looked at by itself
        opens_here : (runs : List TaskRun) → is_open (judged runs place (group_at m b place end))
            ≡ leb (position_at (take (end - place) (drop place b))).number (done_of runs (position_at (take (end - place) (drop place b))).task)
            && is_open (judged runs (place + 8) (group_at m b (place + 8) end))
        opens_here runs =
            rw (turn_after m (stop InBody place) b place end h k o ok)
            (opens_after runs place (place + 8) _ _
            ∙ ap (λ (t : Bool). leb (position_at (take (end - place) (drop place b))).number (done_of runs (position_at (take (end - place) (drop place b))).task) && t)
            (entry-told (λ x. is_open (judged runs (place + 8) x)) m (stop Misplaced place) (stop InBody (place + 8)) (place + 8) (part (place + 8) end b)
            (opens_refused runs (place + 8) _ ∙ sym (opens_refused runs (place + 8) _))))

        module _ (i : (position_at (take (end - place) (drop place b))).task < max_tasks) where
          pub opens_unmet : get_or dones (position_at (take (end - place) (drop place b))).task 0 < (position_at (take (end - place) (drop place b))).number
              → Opens dones place (group_at m b place end) false
          opens_unmet u runs d = rw (opens_here runs, lt-leb _ _ (rw (done_at_lem dones runs d _ i) at u))

          pub opens_met : (position_at (take (end - place) (drop place b))).number ≤ get_or dones (position_at (take (end - place) (drop place b))).task 0
              → (r : Bool) → Opens dones (place + 8) (group_at m b (place + 8) end) r → Opens dones place (group_at m b place end) r
          opens_met u r w runs d = rw (opens_here runs, le-leb _ _ (rw (done_at_lem dones runs d _ i) at u)) (w runs d)
