use Rattle.std.proofs.Common.{rules}
use Rattle.codec.specs.Limit.{max_tasks}
use Rattle.pending.specs.Run.{blank_task, done_of}
use Rattle.pending.proofs.Laws.Each.{each_of}
use Rattle.scheduler.specs.Laws.Columns.{place_of, end_of, count_of}
use Rattle.scheduler.proofs.columns.columns_of.Goals as goal

pub returns : goal.returns
returns c =
    let runs = c.args.run.runs in
    let places = c.map.ensures.items in
    let ends = c.map-2.ensures.items in
    let dones = c.map-3.ensures.items in
    let counts = c.map-4.ensures.items in
    rw (
      each_of (place_of runs) max_tasks c.map.result 0 places.long (λ k h. let w = places.at k blank_task 0 h in search rules),
      each_of (end_of runs) max_tasks c.map-2.result 0 ends.long (λ k h. let w = ends.at k blank_task 0 h in search rules),
      each_of (done_of runs) max_tasks c.map-3.result 0 dones.long (λ k h. let w = dones.at k blank_task 0 h in search rules),
      each_of (count_of runs) max_tasks c.map-4.result 0 counts.long (λ k h. let w = counts.at k blank_task 0 h in search rules),
    )
