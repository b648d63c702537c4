-- Laws for the code that copies a body: what it answers, by the layout of the bytes.
use Rattle.std.specs.Prelude.{Ok, Err, ◌≡◌, List, ℕ, ◌<◌, ◌≤◌, length, get_or}
use borrow.Author.Tests.{lt-ltb, le-ltb}
use Rattle.codec.specs.declared.number.Reason.TheVariants.{NoTask, NoRoom}
use Rattle.codec.specs.Store.{store}
use Rattle.reader.specs.declared.layout.Layout.{Layout}
use Rattle.reader.specs.Calls.{no_span}
use Rattle.reader.specs.Layout.{layout_of}
use Rattle.reader.specs.Parse.{parse}
use Rattle.reader.specs.Laws.CallsCode.{body_stands, body_refused, body_there, body_no_task}
use Rattle.entries.specs.declared.Refusal.{Refusal}
use Rattle.entries.specs.Part.{part}
use Rattle.entries.specs.Reading.{stop}
use Rattle.linked.specs.CopyOf.{refused_copy, copied, copy_of}

-- the bytes that a layout gives to a task
abbrev pub laid_part : Layout → ℕ → List ℕ → List ℕ
laid_part l task b = part (get_or l.spans task no_span).start (get_or l.spans task no_span).stop b

module _ (b : List ℕ) (task : ℕ) (out : List ℕ) where
  pub copy_refused : (c : Refusal) → Err c ≡ layout_of (parse b) → copy_of b task out ≡ refused_copy c out
  unfolding copied
  copy_refused c e = rw (← body_refused b c e task)

  module _ (l : Layout) (e : Ok l ≡ layout_of (parse b)) where
    pub copy_no_task : l.tasks ≤ task → copy_of b task out ≡ refused_copy (stop NoTask 0) out
    unfolding copied
    copy_no_task h = rw (← body_no_task b l e task h)

    module _ (h : task < l.tasks) where
      pub copy_room : length out < length (laid_part l task b) → copy_of b task out ≡ refused_copy (stop NoRoom 0) out
      unfolding copied
      copy_room k = rw (← body_there b l e task h, ← (body_stands b l e task h).same, lt-ltb (length out) (length (laid_part l task b)) k)

      pub copy_all : length (laid_part l task b) ≤ length out
          → copy_of b task out ≡ record { number = 0; offset = 0; written = length (laid_part l task b); out = store out 0 (laid_part l task b) }
      unfolding copied
      copy_all k = rw (← body_there b l e task h, ← (body_stands b l e task h).same, le-ltb (length out) (length (laid_part l task b)) k)
