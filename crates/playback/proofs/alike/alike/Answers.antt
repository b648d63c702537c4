use Rattle.std.specs.Prelude.{◌≡◌, Bool, true, false, ◌&&◌, eqb}
use Rattle.playback.proofs.alike.alike.Goals as goal
use Rattle.playback.proofs.alike.alike.Goals.{Joined-x, Joined-x-y-2, then-x, else-x, then-x-y, else-x-y, then-x-y-2, else-x-y-2}
use Rattle.playback.specs.Alike.{alike_of}

-- one `&&` of the chain, in front of what follows it
then_and : {v p q : Bool} → p ≡ true → v ≡ q → (z : Bool) → (v && z) ≡ (p && (q && z))
then_and e d z = rw (e, d)

else_and : {v p : Bool} (q : Bool) → p ≡ false → v ≡ p → (z : Bool) → (v && z) ≡ (p && (q && z))
else_and q e d z = rw (d, e)

both_finished : (c : Joined-x) (z : Bool) → (c.if-x.value && z) ≡ (c.args.x.finished && (c.args.y.finished && z))
both_finished c = elim c.if-x.branch [ then-x w ↦ then_and w.if-x.true w.value-is | else-x w ↦ else_and _ w.if-x.false w.value-is ]

-- Its cases of the second test go by their whole names: where an edit takes those away, the lemma above is still checked.
chain : (c : Joined-x-y-2) → ((z : Bool) → (c.if-x.value && z) ≡ (c.args.x.finished && (c.args.y.finished && z))) → (c.if-x-y-2.value && c.args.memory) ≡ alike_of c.args.x c.args.y c.args.memory
unfolding alike_of
chain c both = let x = c.args.x in let y = c.args.y in
    let tasks : (z : Bool) → (c.if-y.value && z) ≡ (c.if-x.value && (eqb x.tasks y.tasks && z)) = elim c.if-y.branch [ goal.then-y w ↦ then_and w.if-y.true w.value-is | goal.else-y w ↦ else_and _ w.if-y.false w.value-is ] in
    let objects : (z : Bool) → (c.if-x-y.value && z) ≡ (c.if-y.value && (eqb x.objects y.objects && z)) = elim c.if-x-y.branch [ then-x-y w ↦ then_and w.if-x-y.true w.value-is | else-x-y w ↦ else_and _ w.if-x-y.false w.value-is ] in
    let steps : (z : Bool) → (c.if-x-y-2.value && z) ≡ (c.if-x-y.value && (eqb x.steps y.steps && z)) = elim c.if-x-y-2.branch [ then-x-y-2 w ↦ then_and w.if-x-y-2.true w.value-is | else-x-y-2 w ↦ else_and _ w.if-x-y-2.false w.value-is ] in
    rw (steps _, objects _, tasks _, both _)

pub returns-then-x-y-3 : goal.returns-then-x-y-3
returns-then-x-y-3 c = let p = goal.at.returns-then-x-y-3 c in rw c.if-x-y-3.true at (chain p.Joined-x-y-2 (both_finished p.Joined-x))

pub returns-else-x-y-3 : goal.returns-else-x-y-3
returns-else-x-y-3 c = let p = goal.at.returns-else-x-y-3 c in rw c.if-x-y-3.false (rw c.if-x-y-3.false at (chain p.Joined-x-y-2 (both_finished p.Joined-x)))
