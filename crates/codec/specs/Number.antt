-- Document 01's number table.
use Rattle.std.specs.Prelude.{ℕ, ◌≤◌}

-- T not 1 to 16
abbrev pub task_range : ℕ
task_range = 1

-- N not 1 to 256
abbrev pub object_range : ℕ
object_range = 2

-- a list of owners not of N entries, or starts or a memory not of N times F
abbrev pub entries : ℕ
entries = 3

-- an owner not below T
abbrev pub owner_range : ℕ
owner_range = 4

-- task not below T
abbrev pub no_task : ℕ
no_task = 5

-- object not below N
abbrev pub no_object : ℕ
no_object = 6

-- access neither 0 (read) nor 1 (write)
abbrev pub no_sort : ℕ
no_sort = 7

-- the task has made 65,535 accesses
abbrev pub full : ℕ
full = 8

-- output too short
abbrev pub no_room : ℕ
no_room = 9

-- (a), (d): part of the record, or of a section's body, is missing
abbrev pub short : ℕ
short = 10

-- (b), (c), (e): unknown kind or wrong length
abbrev pub malformed : ℕ
malformed = 11

-- (f): this kind is not allowed here
abbrev pub misplaced : ℕ
misplaced = 12

-- (g): a number out of range
abbrev pub range : ℕ
range = 13

-- (a), (d) against a body's end, and a wrong count of accesses
abbrev pub in_body : ℕ
in_body = 14

-- the numbers that the reader gives
abbrev pub ByReader : ℕ → Type 0
ByReader n = (short ≤ n) × (n ≤ in_body)

-- this task has no accesses left
abbrev pub finished : ℕ
finished = 15

-- the task is held up by an ordering
abbrev pub held : ℕ
held = 16

-- unsound state or run
abbrev pub unsound : ℕ
unsound = 17

-- no order of all accesses keeps each task's own order and every ordering (document 02, F-2)
abbrev pub no_order : ℕ
no_order = 18

-- the memory differs from the value in the read's record (document 02, F-3)
abbrev pub differs : ℕ
differs = 19

-- F not 1 to 8, or a field not below F (document 02, F-6)
abbrev pub no_field : ℕ
no_field = 20

-- the ends of the logs decrease, go past the logs, or are not T in number (document 02, F-8)
abbrev pub ends : ℕ
ends = 21
