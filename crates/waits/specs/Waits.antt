-- Why a play is stuck, as text: for each task that has accesses left, in ascending order, the first unmet ordering before its next
-- access: `task 1 waits for access 3 of task 0, which never comes (ordering at byte 66)`. That it never comes, whatever the order, is
-- proved for recordings (`playability` `Theorem.never_comes`).
use Rattle.std.specs.Prelude.{cond, List, [], ◌∷◌, ◌++◌, ℕ, zero, suc}
use Rattle.pending.specs.declared.Run.{Run}
use Rattle.replayer.specs.ReadyOf.{has_left}
use Rattle.pending.specs.Unmet.{Unmet, none, first, unmet_next}
use Rattle.text.specs.Decimal.{field_of}

-- `task `, `waits for access `, `of task `, ` which never comes (ordering at byte `
abbrev pub task_word : List ℕ
task_word = 116 ∷ 97 ∷ 115 ∷ 107 ∷ 32 ∷ []

abbrev pub access_words : List ℕ
access_words = 119 ∷ 97 ∷ 105 ∷ 116 ∷ 115 ∷ 32 ∷ 102 ∷ 111 ∷ 114 ∷ 32 ∷ 97 ∷ 99 ∷ 99 ∷ 101 ∷ 115 ∷ 115 ∷ 32 ∷ []

abbrev pub source_words : List ℕ
source_words = 111 ∷ 102 ∷ 32 ∷ 116 ∷ 97 ∷ 115 ∷ 107 ∷ 32 ∷ []

abbrev pub place_words : List ℕ
place_words = 32 ∷ 119 ∷ 104 ∷ 105 ∷ 99 ∷ 104 ∷ 32 ∷ 110 ∷ 101 ∷ 118 ∷ 101 ∷ 114 ∷ 32 ∷ 99 ∷ 111 ∷ 109 ∷ 101 ∷ 115 ∷ 32 ∷ 40 ∷ 111 ∷ 114 ∷ 100 ∷ 101 ∷ 114 ∷ 105 ∷ 110 ∷ 103 ∷ 32 ∷ 97 ∷ 116 ∷ 32 ∷ 98 ∷ 121 ∷ 116 ∷ 101 ∷ 32 ∷ []

-- the task, the number and the source of the ordering, the offset of its record; nothing if all are met
unfoldable pub wait_line : ℕ → Unmet → List ℕ
wait_line t none = []
wait_line t (first at p) =
    (task_word ++ field_of t 32) ++ (access_words ++ field_of p.number 32) ++ (source_words ++ field_of p.task 44) ++ (place_words ++ field_of at 41) ++ (10 ∷ [])

-- for one task of a run; a task with no accesses left waits for nothing
unfoldable pub wait_of : List ℕ → Run → ℕ → List ℕ
wait_of b r t = cond (has_left r t) (wait_line t (unmet_next r b t)) []

-- for the first n tasks, and for all
unfoldable pub waits_in : List ℕ → Run → ℕ → List ℕ
waits_in b r zero = []
waits_in b r (suc n) = waits_in b r n ++ wait_of b r n

abbrev pub waits_of : List ℕ → Run → List ℕ
waits_of b r = waits_in b r r.tasks

-- the most bytes that one line can have, and the text of 16 tasks
abbrev pub line_most : ℕ
line_most = 152

abbrev pub waits_most : ℕ
waits_most = 2432
