use Rattle.record_lines.specs.RecordLines.{line_at}
use Rattle.record_lines.proofs.put_line.Goals as goal

pub put_head-requires : goal.put_head-requires
unfolding line_at
put_head-requires c = rw (c.in-Head.is, ← c.fields_of.ensures) at c.requires

pub put_section-requires : goal.put_section-requires
unfolding line_at
put_section-requires c = rw c.in-Section.is at c.requires

pub put_ordering-requires : goal.put_ordering-requires
unfolding line_at
put_ordering-requires c = rw c.in-Ordering.is at c.requires

pub put_access-requires : goal.put_access-requires
unfolding line_at
put_access-requires c = rw c.in-Access.is at c.requires

pub returns-in-Head : goal.returns-in-Head
unfolding line_at
returns-in-Head c = rw (c.in-Head.is, ← c.fields_of.ensures) c.put_head.ensures

pub returns-in-Section : goal.returns-in-Section
unfolding line_at
returns-in-Section c = rw c.in-Section.is c.put_section.ensures

pub returns-in-Ordering : goal.returns-in-Ordering
unfolding line_at
returns-in-Ordering c = rw c.in-Ordering.is c.put_ordering.ensures

pub returns-in-Access : goal.returns-in-Access
unfolding line_at
returns-in-Access c = rw c.in-Access.is c.put_access.ensures
