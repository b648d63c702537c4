-- Laws of `Table`.
use Rattle.recorder.proofs.Laws.Full.{full-run}
use Rattle.runs.specs.Laws.Rows.{rows}
use Rattle.runs.specs.Laws.Calls.{calls}
use Rattle.runs.specs.Laws.Bytes.{bytes}
use Rattle.runs.specs.Laws.Fields.{fields}
use Rattle.runs.specs.Laws.Kinds.{kinds}
use Rattle.runs.specs.Laws.Whole.{whole}
use Rattle.runs.specs.Table.{Table}

pub table : Table
table = record { row_runs = rows; call_runs = calls; full_runs = full-run; byte_runs = bytes; kind_runs = kinds; whole_run = whole; field_runs = fields }
