use native.Mathlib.Omega.{arith}
use Rattle.text.specs.Laws.Appended.{joined, same_room}
use Rattle.text.specs.Laws.Decimal.{decimal_short}
use Rattle.faults.proofs.fault.put_noun.Goals as goal

pub put_number-number-requires : goal.put_number-number-requires
put_number-number-requires c = omega (arith, decimal_short c.args.n)

pub put_bytes-noun-requires : goal.put_bytes-noun-requires
put_bytes-noun-requires c = let p = c.put_number-number.ensures in omega (arith, decimal_short c.args.n, p.behind, same_room p)

pub put_plural-requires : goal.put_plural-requires
put_plural-requires c = let p = c.put_number-number.ensures in
    let q = c.put_bytes-noun.ensures in
    omega (arith, decimal_short c.args.n, p.behind, same_room p, q.behind, same_room q)

pub returns : goal.returns
returns c = let a = c.args in
    let p = c.put_number-number.ensures in
    let q = c.put_bytes-noun.ensures in
    let r = c.put_plural.ensures in
    record { appended = joined (joined p q) r.appended; upper_bound = omega (arith, decimal_short a.n, p.behind, q.behind, r.upper_bound) }
