use Rattle.std.proofs.Common.{sym, ◌∙◌}
use Rattle.faults.specs.Laws.ShownCode.{shown_so, hidden}
use Rattle.faults.proofs.shown.shown_byte.Goals as goal

pub returns-then-is_ascii_graphic : goal.returns-then-is_ascii_graphic
returns-then-is_ascii_graphic c = sym (shown_so c.args.byte (sym c.is_ascii_graphic.ensures.value ∙ c.if-is_ascii_graphic.true))

pub returns-else-is_ascii_graphic : goal.returns-else-is_ascii_graphic
returns-else-is_ascii_graphic c = sym (hidden c.args.byte (sym c.is_ascii_graphic.ensures.value ∙ c.if-is_ascii_graphic.false))
