use Rattle.std.proofs.Common.{arith, rules, refl, ap, ◌∙◌, sym, ◌≡◌, ◌<◌, ◌+◌, ◌-◌, ℕ, List, length, take, drop, length-drop, length-take-le}
use borrow.Author.Tests.{tests}
use Rattle.lines.specs.Bytes.{index_of}
use Rattle.lines.specs.Laws.Bytes.{index_within}
use Rattle.lines.specs.Laws.Lines.{line-held, line-passed, line-counted, lines_none, left_all, left-line, left-rest, left_on, left-inside}
use Rattle.lines.proofs.next_line.Goals as goal

-- the rest behind a first line
cut : (text line rest : List ℕ) → line ≡ take (index_of 10 text) text → rest ≡ drop (length line + 1) text
    → (length line ≡ index_of 10 text) × (rest ≡ drop (index_of 10 text + 1) text) × (length rest ≡ length text - (length line + 1)) × (line ≡ take (length line) text)
cut text line rest e g =
    let n : length line ≡ index_of 10 text = ap length e ∙ length-take-le (index_of 10 text) text (index_within 10 text) in
    (n, g ∙ ap (λ (i : ℕ). drop (i + 1) text) n, ap length g ∙ length-drop (length line + 1) text, e ∙ ap (λ (i : ℕ). take i text) (sym n))

pub loop-left-init : goal.loop-left-init
loop-left-init c = record { within = omega arith; counted = omega arith; same = refl; behind = refl; left = left_all _ }

pub returns-then-not-is_passed : goal.returns-then-not-is_passed
returns-then-not-is_passed c =
    let l = c.loop-left in let t = l.left.now in
    let h : 0 < length t = search (rules, tests) in
    let k = cut t c.before-line.result.now c.behind-rest.result.now c.before-line.ensures c.behind-rest.ensures in
    let i = index_within 10 t in
    let q = l.invariant.left in
    record {
      from = q.at;
      to = q.at + length c.before-line.result.now;
      ordered = omega arith;
      inside = left-inside _ t _ c.behind-rest.result.now q k.3 c.behind-rest.ensures h (omega (arith, k.0, i));
      line = left-line _ t _ c.behind-rest.result.now q k.3 c.behind-rest.ensures;
      rest = left-rest _ t _ _ q k.3 c.behind-rest.ensures;
      found = sym l.invariant.same ∙ line-held t _ _ l.number h c.before-line.ensures k.1 (sym c.if-not-is_passed.ensures);
      kept = line-counted t _ _ l.number h c.before-line.ensures k.1 ∙ l.invariant.behind;
      within = omega (arith, k.0, k.2, i, h, l.invariant.within);
      shorter = omega (arith, k.0, k.2, i, h, l.invariant.within);
      counted = omega (arith, k.0, k.2, i, h, l.invariant.counted);
    }

pub loop-left-preserved : goal.loop-left-preserved
loop-left-preserved c =
    let l = c.loop-left in let t = l.left.now in
    let h : 0 < length t = search (rules, tests) in
    let k = cut t c.before-line.result.now c.behind-rest.result.now c.before-line.ensures c.behind-rest.ensures in
    record {
      within = omega (arith, k.2, l.invariant.within);
      counted = omega (arith, k.2, h, l.invariant.counted);
      same = sym (line-passed t _ _ l.number h c.before-line.ensures k.1 (sym c.if-not-is_passed.ensures)) ∙ l.invariant.same;
      behind = line-counted t _ _ l.number h c.before-line.ensures k.1 ∙ l.invariant.behind;
      left = left_on _ t _ _ l.invariant.left k.3 c.behind-rest.ensures;
    }

pub returns : goal.returns
returns c =
    let l = c.loop-left in
    let h : length l.left.now ≡ 0 = search (rules, tests) in
    let z = lines_none l.number l.left.now h in
    (sym l.invariant.same ∙ z.0, z.1 ∙ l.invariant.behind)
