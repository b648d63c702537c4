use Rattle.std.proofs.Common.{arith}
use Rattle.codec.specs.Laws.Cell.{cells_of_lem}
use Rattle.lines.specs.Rows.{fields_in}
use Rattle.faults.specs.Laws.KindCode.{count_fits}
use Rattle.faults.proofs.kind.count_of.Goals as goal

pub overflow_mul-result : goal.overflow_mul-result
overflow_mul-result c = let z = c.args.z in rw (c.width_of.ensures, c.unwrap_or.ensures) (omega (arith, count_fits z.objects (fields_in z) c.requires.0 c.requires.1))

pub returns-in-Starts : goal.returns-in-Starts
returns-in-Starts c = let z = c.args.z in rw (c.in-Starts.is, c.width_of.ensures, c.unwrap_or.ensures) (cells_of_lem (fields_in z) z.objects)
