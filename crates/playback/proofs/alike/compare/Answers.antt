use Rattle.playback.specs.Laws.AlikeCode.{compares}
use Rattle.playback.specs.ToEnd.{play_of}
use Rattle.playback.proofs.alike.compare.Goals as goal

pub play-x-requires : goal.play-x-requires
play-x-requires c = c.requires.l_value

pub play-y-requires : goal.play-y-requires
play-y-requires c = c.requires.k_value

pub shape_of-first_memory : goal.shape_of-first_memory
shape_of-first_memory c = c.play-x.auto.memory

pub shape_of-second_memory : goal.shape_of-second_memory
shape_of-second_memory c = c.play-y.auto.memory

pub returns : goal.returns
returns c = let a = c.args in
    let x = c.play-x in
    let y = c.play-y in
    let s = c.eq-memory in record { value = compares a.first.now a.second.now (play_of a.first.now a.first_memory.now) (play_of a.second.now a.second_memory.now) x.result y.result x.new.memory y.new.memory s.result c.alike.result x.ensures.value y.ensures.value x.ensures.memory_after y.ensures.memory_after s.ensures c.alike.ensures; first_memory_after = x.ensures.memory_after; second_memory_after = y.ensures.memory_after }
