use Rattle.tracker.specs.Opened.{opened_state}
use Rattle.opening.proofs.opened_state.Goals as goal

pub returns : goal.returns
unfolding opened_state
returns c = rw c.owned_cells-cells.ensures
