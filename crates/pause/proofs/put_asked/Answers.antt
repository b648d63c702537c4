use native.Mathlib.Omega.{arith}
use Rattle.std.proofs.Common.{ap}
use Rattle.std.specs.Prelude.{option_copied}
use Rattle.pause.specs.Laws.Said.{steps-given, steps-lowest}
use Rattle.pause.proofs.put_asked.Goals as goal

pub put_told-requires : goal.put_told-requires
put_told-requires c = record { standing = c.requires.standing; steps_len_bound = rw c.in-Some.is at c.requires.start_bound.1; longest_text_in_bounds = c.requires.longest_text_in_bounds }

pub returns-in-Some : goal.returns-in-Some
returns-in-Some c = let a = c.args in rw (steps-given (record { most = a.most; counts = a.counts.now; order = option_copied a.tasks }) a.bytes.now a.start _ (ap option_copied c.in-Some.is)) c.put_told.ensures

pub put_lowest-requires : goal.put_lowest-requires
put_lowest-requires c = record { standing = c.requires.standing; start_bound = omega (arith, c.requires.start_bound.0); longest_text_in_bounds = c.requires.longest_text_in_bounds }

pub returns-in-None : goal.returns-in-None
returns-in-None c = let a = c.args in rw (steps-lowest (record { most = a.most; counts = a.counts.now; order = option_copied a.tasks }) a.bytes.now a.start (ap option_copied c.in-None.is)) c.put_lowest.ensures
