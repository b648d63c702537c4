-- Laws of `Rows`.
use Rattle.std.specs.Prelude.{refl}
use Rattle.codec.specs.Cell.{width_of, cells_of, object_at}
use Rattle.tracker.specs.Row.{row_of}
use Rattle.tracker.specs.Orderings.{every_done, orderings_of, left_out, written}
use Rattle.tracker.specs.Next.{locality_after, effect_of, state_after}
use Rattle.tracker.specs.Opened.{owned_cells, opened_state}
use Rattle.runs.specs.Rows.{tracked_by, Rows}

pub rows : Rows
unfolding tracked_by opened_state owned_cells object_at cells_of width_of row_of orderings_of every_done written left_out state_after locality_after effect_of
rows = record { a = refl; fence = refl; four = refl; took = refl }
