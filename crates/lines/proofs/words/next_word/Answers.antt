use Rattle.std.proofs.Common.{arith, rules, ap, ◌∙◌, ◌≡◌, ◌<◌, ℕ, length, drop, true}
use borrow.Author.Tests.{tests}
use Rattle.lines.specs.Laws.WordsCode.{run_of, word-none, word-found, word-parts}
use Rattle.lines.proofs.words.next_word.Goals as goal

pub returns-then-is_empty : goal.returns-then-is_empty
returns-then-is_empty c =
    let l = c.args.line.now in let f = c.split_at.result.1.now in
    let e : f ≡ drop (run_of true l) l = c.split_at.ensures.back ∙ ap (λ (n : ℕ). drop n l) c.run_length.ensures.value in
    let z : length c.split_at-2.result.0.now ≡ 0 = search (rules, tests) in
    word-none l f e (omega (arith, c.run_length-2.ensures.value, c.split_at-2.ensures.front_len))

pub returns : goal.returns
returns c =
    let l = c.args.line.now in let f = c.split_at.result.1.now in
    let e : f ≡ drop (run_of true l) l = c.split_at.ensures.back ∙ ap (λ (n : ℕ). drop n l) c.run_length.ensures.value in
    let n = c.run_length-2.ensures.value in
    let z : 0 < length c.split_at-2.result.0.now = search (rules, tests) in
    record {
      blanks = c.split_at.result.0.now;
      parts = word-parts l _ f _ _ _ _ c.split_at.ensures.front c.split_at.ensures.back c.split_at-2.ensures.front c.split_at-2.ensures.back;
      found = rw (c.split_at-2.ensures.front, c.split_at-2.ensures.back, n) (word-found l f e (omega (arith, c.split_at-2.ensures.front_len)));
      filled = z;
      within = omega (arith, c.split_at.ensures.back_len, c.split_at-2.ensures.front_len, c.split_at-2.ensures.back_len);
    }
