use Rattle.codec.specs.Limit.{max_tasks, max_cells}
use Rattle.pending.proofs.Laws.Each.{each-length}
use Rattle.arrays.specs.Laws.HalvesCode.{halves_all, words-all}
use Rattle.arrays.proofs.put_state.Goals as goal

pub returns : goal.returns
returns c = let t = c.put_tasks.ensures in
    let r = c.put_records.ensures in
    record { halves_after = rw (t.halves_after, r.halves_after) (halves_all _ _ _ _ _ (each-length _ max_tasks) (each-length _ max_tasks) (each-length _ max_cells) _ _ _ _ _); words_after = rw (t.words_after, r.words_after) (words-all _ _ _ _ (each-length _ max_tasks)) }
