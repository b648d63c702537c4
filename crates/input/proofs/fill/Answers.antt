-- A read into the rest of the buffer adds to the front of it what the reader gave, as in std's `read_exact`.
use Rattle.std.proofs.Common.{◌≡◌, ℕ, ◌+◌, ◌-◌, ◌≤◌, List, ◌++◌, rules, arith, length, take, sym, ap, ◌∙◌, refl, subst}
use Rattle.std.proofs.lemmas.List.{length-take-le, take-take}
use Rattle.std.proofs.lemmas.Slice.{take-put_mid}
use Rattle.std.proofs.Math.Seq.{take-append-add}
use Rattle.std.specs.Io.KnownBytes.{Consumes}
use Rattle.std.proofs.KnownBytes.{Consumes-trans}
use borrow.Rule.Slice.PartMut.{put_mid}
use Rattle.input.proofs.fill.Goals as goal

-- what was at the front and then `n` bytes of the rest are the front after the read
grown : (a n : ℕ) (xs ys : List ℕ) → a ≤ length xs → n ≤ length ys → take a xs ++ take n ys ≡ take (a + n) (put_mid a (length xs - a) xs ys)
grown a n xs ys within fits =
    let front = take-put_mid a (length xs - a) xs ys (a + length ys) refl within in
    let l : length (take a xs) ≡ a = length-take-le a xs within in
    sym (rw l at (take-append-add {A = ℕ} (take a xs) ys n)) ∙ ap (take (a + n)) (sym front) ∙ take-take (a + n) (a + length ys) _ (omega arith)

pub loop-done-preserved : goal.loop-done-preserved
loop-done-preserved g c =
    let read = c.in_ok-more.ensures in
    let front = grown c.loop-done.done c.in_ok-more.more c.loop-done.buffer c.read.new.buf c.loop-done.invariant.1 read.bound.0 in
    (search rules, search rules, subst (Consumes _ _) front (Consumes-trans _ _ _ _ _ c.loop-done.invariant.2 read.bytes.0))
