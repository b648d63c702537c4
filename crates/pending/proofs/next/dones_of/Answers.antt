use Rattle.std.proofs.Common.{rules, sym}
use Rattle.codec.specs.Limit.{max_tasks}
use Rattle.pending.specs.Run.{blank_task, done_of}
use Rattle.pending.proofs.Laws.Each.{each_of}
use Rattle.pending.proofs.next.dones_of.Goals as goal

pub returns : goal.returns
returns c = let m = c.map.ensures.items in
    sym (each_of (done_of c.args.run.runs) max_tasks c.map.result 0 m.long (λ k h. let w = m.at k blank_task 0 h in search rules))
