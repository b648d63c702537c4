use native.Mathlib.Omega.{arith}
use Rattle.text.specs.Laws.Appended.{joined, same_room}
use Rattle.text.specs.Laws.Decimal.{decimal_short, field-length}
use Rattle.faults.proofs.fault.put_count.Goals as goal

pub put_field-requires : goal.put_field-requires
put_field-requires c = let a = c.args in
    let p = c.put_noun-noun.ensures in
    let q = c.put_bytes-found.ensures in
    omega (arith, decimal_short a.k, field-length a.k 10, p.upper_bound, same_room p.appended, q.behind, same_room q)

pub returns : goal.returns
returns c = let a = c.args in
    let p = c.put_noun-noun.ensures in
    let q = c.put_bytes-found.ensures in
    let r = c.put_field.ensures in
    record { appended = joined (joined p.appended q) r; upper_bound = omega (arith, decimal_short a.k, field-length a.k 10, p.upper_bound, q.behind, r.behind) }
