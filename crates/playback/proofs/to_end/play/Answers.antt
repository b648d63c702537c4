use Rattle.playback.specs.Shown.{shown_play}
use Rattle.scheduler.specs.Finish.{Play}
use Rattle.playback.specs.Laws.ToEndCode.{CanPlay, can_play, plays, same-play}
use native.Mathlib.Omega.{arith}
use mathlib.Core.Path.{ap, ◌∙◌}
use Rattle.playback.proofs.to_end.play.Goals as goal
use Rattle.playback.proofs.to_end.play.Goals.{After-set_starting-arg-1}

playing : (c : After-set_starting-arg-1) → let a = c.args in CanPlay a.bytes.now a.memory.now a.l
playing c =
    let a = c.args in
    let p = c.requires in
    can_play a.bytes.now a.memory.now a.l (λ i. omega (arith, c.shared_slice_known-1.given i)) p.0 p.1

pub finish-requires : goal.finish-requires
finish-requires c =
    let both = let a = c.args in plays a.bytes.now a.memory.now a.l (playing (goal.at.finish-requires c).After-set_starting-arg-1) c.started-run.result c.set_starting.new.memory c.started-run.ensures c.set_starting.ensures in
    record { playing = both.0; run_bound = both.1 }

pub shape_of-memory : goal.shape_of-memory
shape_of-memory c = c.finish.auto.memory ∙ c.set_starting.auto.memory

pub returns : goal.returns
returns c = let a = c.args in
    let f = c.finish.ensures in
    let e = same-play a.bytes.now a.memory.now a.l (playing (goal.at.returns c).After-set_starting-arg-1) c.started-run.result c.set_starting.new.memory c.started-run.ensures c.set_starting.ensures in
    record { value = f.value ∙ ap (shown_play a.bytes.now) e; memory_after = f.memory_after ∙ ap (λ (x : Play). x.memory) e }
