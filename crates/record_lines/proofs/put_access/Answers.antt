use native.Mathlib.Omega.{arith}
use Rattle.text.specs.Laws.Appended.{joined, same_room}
use Rattle.record_lines.specs.Laws.Lines.{access-line-length}
use Rattle.record_lines.specs.RecordLines.{access_line}
use Rattle.record_lines.proofs.put_access.Goals as goal

pub put_field-a-requires : goal.put_field-a-requires
put_field-a-requires c = omega (arith, access-line-length c.args.at c.args.own c.args.number c.args.o)

pub put_field-b-requires : goal.put_field-b-requires
put_field-b-requires c = omega (arith, access-line-length c.args.at c.args.own c.args.number c.args.o)

pub put_field-c-requires : goal.put_field-c-requires
put_field-c-requires c = omega (arith, access-line-length c.args.at c.args.own c.args.number c.args.o)

pub put_byte-d-requires : goal.put_byte-d-requires
put_byte-d-requires c = omega (arith, access-line-length c.args.at c.args.own c.args.number c.args.o)

pub put_byte-e-requires : goal.put_byte-e-requires
put_byte-e-requires c = omega (arith, access-line-length c.args.at c.args.own c.args.number c.args.o)

pub put_object-f-requires : goal.put_object-f-requires
put_object-f-requires c = omega (arith, access-line-length c.args.at c.args.own c.args.number c.args.o)

pub put_value-requires : goal.put_value-requires
put_value-requires c = omega (arith, c.requires, c.put_field-a.ensures.behind, c.put_field-b.ensures.behind, access-line-length c.args.at c.args.own c.args.number c.args.o)

pub shape_of-out : goal.shape_of-out
shape_of-out c = omega (arith, same_room c.put_field-a.ensures, same_room c.put_field-b.ensures, same_room c.put_field-c.ensures)

pub returns : goal.returns
unfolding access_line
returns c = let front = joined (joined c.put_field-a.ensures c.put_field-b.ensures) c.put_field-c.ensures in
    let sort = joined (rw c.letter.ensures at c.put_byte-d.ensures) c.put_byte-e.ensures in
    joined (joined (joined front sort) c.put_object-f.ensures) c.put_value.ensures
