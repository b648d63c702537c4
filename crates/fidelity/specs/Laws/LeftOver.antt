-- The accesses a task has left after it has done some of them, in the form of the recording, oldest first.
use Rattle.std.specs.Prelude.{cond, List, [], ◌∷◌, ◌++◌, ◌≡◌, ℕ, ◌≤◌, eqb, leb}
use Rattle.std.proofs.Math.Decide.{ℕ_discrete}
use Rattle.entries.specs.Recording.{Entry as FileEntry}
use Rattle.history.specs.History.{History, count}
use Rattle.fidelity.specs.Filed.{filed}

-- task t's accesses after the first n
unfoldable pub left_of : ℕ → ℕ → ℕ → History → List FileEntry
left_of fields t n [] = []
left_of fields t n (e ∷ g) = cond (eqb e.task t) (cond (leb n (count t g)) (left_of fields t n g ++ (filed fields e ∷ [])) []) (left_of fields t n g)
