use Rattle.linked.proofs.calls.wk_step.Goals as goal

pub returns : goal.returns
returns c = let e = c.step-r.ensures in
    let b = c.run_of-before.ensures in
    record { memory_after = rw b at e.memory_after; answer_after = rw (e.value, b) at c.put.ensures; places_after = rw (e.value, b) at c.put_run.ensures }
