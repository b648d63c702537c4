-- What the replay program can be asked (document 02, F-4): `--steps`, the number of steps after which it stops; `--done`, a count for each
-- task; `--order`, a text of at most 65,536 bytes whose order it follows. Without an order the lowest ready task that is not at its count
-- goes next.
use Rattle.std.specs.Prelude.{Bool, cond, ◌&&◌, ◌||◌, Option, option_map, unwrap_or, List, [], ◌∷◌, ◌++◌, ℕ, eqb, leb, ltb, length}
use Rattle.order.specs.Order.{wrong_line, tasks_of}
use Rattle.pending.specs.declared.Run.{Run}
use Rattle.replay_lines.specs.Limits.{longest}
use Rattle.scheduler.specs.Schedule.{schedule_of}
use Rattle.text.specs.Decimal.{field_of}
use Rattle.follow.specs.Within.{run_within}

-- `order` has the tasks of the order, if there is one
pub record Request : Type 0 where
  pub most : ℕ
  pub counts : List ℕ
  pub order : Option (List ℕ)

-- the steps from a run
unfoldable pub steps_of : Request → List ℕ → Run → List ℕ
steps_of q b r = unwrap_or q.order (schedule_of b (run_within q.counts r))

-- there are no counts, or one for each task
unfoldable pub has_counts : List ℕ → ℕ → Bool
has_counts counts tasks = eqb (length counts) 0 || eqb (length counts) tasks

-- the order as text
abbrev pub request_of : ℕ → List ℕ → Option (List ℕ) → Request
request_of most counts order = record { most = most; counts = counts; order = option_map tasks_of order }

-- it can be followed: it is not too long, and each of its lines is a task number
unfoldable pub can_follow : List ℕ → Bool
can_follow order = leb (length order) longest && eqb (wrong_line order) 0

-- `the order has more than 65,536 bytes`
abbrev pub long_order : List ℕ
long_order = 116 ∷ 104 ∷ 101 ∷ 32 ∷ 111 ∷ 114 ∷ 100 ∷ 101 ∷ 114 ∷ 32 ∷ 104 ∷ 97 ∷ 115 ∷ 32 ∷ 109 ∷ 111 ∷ 114 ∷ 101 ∷ 32 ∷ 116 ∷ 104 ∷ 97 ∷ 110 ∷ 32 ∷ 54 ∷ 53 ∷ 44 ∷ 53 ∷ 51 ∷ 54 ∷ 32 ∷ 98 ∷ 121 ∷ 116 ∷ 101 ∷ 115 ∷ 10 ∷ []

-- `line `, `of the order is not a task number`
abbrev pub line_word : List ℕ
line_word = 108 ∷ 105 ∷ 110 ∷ 101 ∷ 32 ∷ []

abbrev pub not_task_words : List ℕ
not_task_words = 111 ∷ 102 ∷ 32 ∷ 116 ∷ 104 ∷ 101 ∷ 32 ∷ 111 ∷ 114 ∷ 100 ∷ 101 ∷ 114 ∷ 32 ∷ 105 ∷ 115 ∷ 32 ∷ 110 ∷ 111 ∷ 116 ∷ 32 ∷ 97 ∷ 32 ∷ 116 ∷ 97 ∷ 115 ∷ 107 ∷ 32 ∷ 110 ∷ 117 ∷ 109 ∷ 98 ∷ 101 ∷ 114 ∷ 10 ∷ []

abbrev pub wrong_order : ℕ → List ℕ
wrong_order line = line_word ++ field_of line 32 ++ not_task_words

-- why it cannot be followed
unfoldable pub complaint_of : List ℕ → List ℕ
complaint_of order = cond (ltb longest (length order)) long_order (wrong_order (wrong_line order))
