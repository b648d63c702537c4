-- A list of steps followed one step at a time, as the code does it.
use Rattle.std.specs.Prelude.{◌≡◌, refl, true, false, cond, List, [], ◌∷◌, ◌++◌, ℕ, ◌+◌, ◌≤◌, ◌<◌, eqb, length, get_or, drop}
use Rattle.std.proofs.Common.{sym, ap, ◌∙◌, append_assoc, append-nil, add-one, arith, length-append, drop_of_length-le, drop-cons}
use borrow.Author.Tests.{eq-eqb, ne_eqb, eqb-false}
use Rattle.codec.specs.Laws.Decide.{passes, fails, split}
use Rattle.entries.specs.declared.Checked.{Checked}
use Rattle.entries.specs.Reading.{numbered}
use Rattle.replayer.specs.declared.Stepped.{Stepped}
use Rattle.replayer.proofs.Laws.StepOf.{refused-stays}
use Rattle.replayer.specs.StepOf.{step_of}
use Rattle.replay_lines.specs.Block.{turned_line}
use Rattle.replay_lines.specs.Lines.{line_of}
use Rattle.scheduler.specs.Finish.{Play, takes_step, stepped_by}
use Rattle.text.specs.Appended.{Appended}
use Rattle.text.specs.Laws.Appended.{nothing, joined}
use Rattle.follow.specs.Follow.{Followed, resting, in_front, is_passed, answer_at, tried_of, is_over, followed_of}
use Rattle.follow.specs.Within.{is_there}

in_front_twice : (l k : List ℕ) (f : Followed) → in_front l (in_front k f) ≡ in_front (l ++ k) f
in_front_twice l k f = let e : l ++ (k ++ f.text) ≡ (l ++ k) ++ f.text = sym (append_assoc l k f.text) in
    ap (λ (t : List ℕ). record { text = t; play = f.play; stopped = f.stopped }) e

-- the steps so far are followed: what is left to follow
pub record Following (b : List ℕ) (most : ℕ) (counts : List ℕ) (x₀ : Play) (steps out₀ : List ℕ) (x : Play) (i : ℕ) (out : List ℕ) (at : ℕ) : Type 0 where
  pub text : List ℕ
  pub written : Appended text out₀ 0 out at
  pub rest : followed_of b most counts x₀ steps ≡ in_front text (followed_of b most counts x (drop i steps))

-- what the code has after some steps: their lines, the play, and what stopped it
pub record Stands (f : Followed) (out : List ℕ) (at : ℕ) (y : Play) (c : Checked) (out' : List ℕ) (end : ℕ) : Type 0 where
  pub lines : Appended f.text out at out' end
  pub play : y ≡ f.play
  pub stopped : c ≡ f.stopped

-- one step of the list: nothing if its task is at its count
abbrev pub next_by : List ℕ → List ℕ → Play → ℕ → Followed
next_by b counts x t = cond (is_there counts x.run t) (resting x) (tried_of b x t)

follow_next : (b : List ℕ) (most : ℕ) (counts : List ℕ) (x : Play) (t : ℕ) (steps : List ℕ) → is_over most counts x ≡ false
    → followed_of b most counts x (t ∷ steps)
    ≡ cond (eqb (next_by b counts x t).stopped.number 0) (in_front (next_by b counts x t).text (followed_of b most counts (next_by b counts x t).play steps)) (next_by b counts x t)
unfolding followed_of
follow_next b most counts x t steps o = elim (split (is_there counts x.run t)) [
  | passes p ↦ rw (o, p) refl
  | fails p ↦ rw (o, p) refl
]

module _ (b : List ℕ) (most : ℕ) (counts : List ℕ) (x₀ : Play) (steps out₀ : List ℕ) where
  pub following_start : Following b most counts x₀ steps out₀ x₀ 0 out₀ 0
  following_start = record { text = []; written = nothing out₀ 0; rest = refl }

  module _ (x : Play) (i : ℕ) (out : List ℕ) (at : ℕ) (w : Following b most counts x₀ steps out₀ x i out at) where
    -- nothing more is written
    ended : followed_of b most counts x (drop i steps) ≡ resting x → Stands (followed_of b most counts x₀ steps) out₀ 0 x (numbered 0 0) out at
    ended e =
        let q : followed_of b most counts x₀ steps ≡ in_front w.text (resting x) = w.rest ∙ ap (in_front w.text) e in
        record { lines = rw (q, append-nil) w.written; play = rw q; stopped = rw q }

    pub follow_ends : length steps ≤ i → Stands (followed_of b most counts x₀ steps) out₀ 0 x (numbered 0 0) out at
    unfolding followed_of
    follow_ends h = ended (rw (drop_of_length-le steps {i = i} h))

    module _ (h : i < length steps) where
      next : drop i steps ≡ get_or steps i 0 ∷ drop (i + 1) steps
      next = rw add-one (drop-cons steps i 0 h)

      pub follow_over : is_over most counts x ≡ true → Stands (followed_of b most counts x₀ steps) out₀ 0 x (numbered 0 0) out at
      unfolding followed_of
      follow_over o = ended (rw (next, o))

      module _ (o : is_over most counts x ≡ false) where
        abbrev n : Followed
        n = next_by b counts x (get_or steps i 0)

        rest_so : followed_of b most counts x (drop i steps) ≡ cond (eqb n.stopped.number 0) (in_front n.text (followed_of b most counts n.play (drop (i + 1) steps))) n
        rest_so = rw next (follow_next b most counts x (get_or steps i 0) (drop (i + 1) steps) o)

        pub follow_on : n.stopped.number ≡ 0 → (out' : List ℕ) (end : ℕ) → Appended n.text out at out' end → Following b most counts x₀ steps out₀ n.play (i + 1) out' end
        follow_on z out' end p = record {
          text = w.text ++ n.text;
          written = joined w.written p;
          rest = w.rest ∙ ap (in_front w.text) (rest_so ∙ rw (eq-eqb n.stopped.number 0 z)) ∙ in_front_twice w.text n.text _;
        }

        pub follow_stops : (n.stopped.number ≡ 0 → ⊥) → (out' : List ℕ) (end : ℕ) → Appended n.text out at out' end → Stands (followed_of b most counts x₀ steps) out₀ 0 n.play n.stopped out' end
        follow_stops z out' end p =
            let e : followed_of b most counts x₀ steps ≡ in_front w.text n = w.rest ∙ ap (in_front w.text) (rest_so ∙ rw (ne_eqb n.stopped.number 0 z)) in
            record { lines = rw e (joined w.written p); play = rw e; stopped = rw e }

        room_by : (l : List ℕ) → (followed_of b most counts x (drop i steps)).text ≡ n.text ++ l → at + length n.text ≤ length (followed_of b most counts x₀ steps).text
        room_by l q = omega (arith, w.written.behind, simp length-append at (ap length (ap (λ (f : Followed). f.text) w.rest ∙ ap (λ (k : List ℕ). w.text ++ k) q)))

        -- the whole text has room for the step's line
        pub follow_room : at + length n.text ≤ length (followed_of b most counts x₀ steps).text
        follow_room = elim (split (eqb n.stopped.number 0)) [
          | passes p ↦
              let q : followed_of b most counts x (drop i steps) ≡ in_front n.text (followed_of b most counts n.play (drop (i + 1) steps)) = rest_so ∙ rw p in
              room_by _ (ap (λ (f : Followed). f.text) q)
          | fails p ↦
              let q : followed_of b most counts x (drop i steps) ≡ n = rest_so ∙ rw p in
              room_by [] (ap (λ (f : Followed). f.text) q ∙ sym (append-nil n.text))
        ]

-- the three outcomes of a step, by its answer and the memory after it
module _ (b : List ℕ) (x : Play) (t : ℕ) (s : Stepped) (e : s ≡ answer_at b x t) (m : List ℕ) (g : m ≡ (step_of x.run b x.memory t).memory) (out : List ℕ) (at : ℕ) where
  taken_so : s.number ≡ 0 → tried_of b x t ≡ record { text = line_of t s; play = stepped_by b x t; stopped = numbered 0 0 }
  unfolding tried_of
  taken_so z = rw (← e, eq-eqb s.number 0 z)

  passed_so : (s.number ≡ 0 → ⊥) → is_passed s.number ≡ true → tried_of b x t ≡ record { text = turned_line t s.number; play = x; stopped = numbered 0 0 }
  unfolding tried_of
  passed_so z p = rw (← e, ne_eqb s.number 0 z, p)

  stops_so : (s.number ≡ 0 → ⊥) → is_passed s.number ≡ false → tried_of b x t ≡ record { text = []; play = x; stopped = numbered s.number s.offset }
  unfolding tried_of
  stops_so z p = rw (← e, ne_eqb s.number 0 z, p)

  pub taken_room : s.number ≡ 0 → (tried_of b x t).text ≡ line_of t s
  taken_room z = rw (taken_so z)

  pub passed_room : (s.number ≡ 0 → ⊥) → is_passed s.number ≡ true → (tried_of b x t).text ≡ turned_line t s.number
  passed_room z p = rw (passed_so z p)

  pub tried_taken : s.number ≡ 0 → (out' : List ℕ) (end : ℕ) → Appended (line_of t s) out at out' end
      → Stands (tried_of b x t) out at (record { run = s.run; memory = m; steps = x.steps + 1 }) (numbered 0 0) out' end
  tried_taken z out' end p = record { lines = rw (taken_so z) p; play = rw (taken_so z, ← e, ← g); stopped = rw (taken_so z) }

  stays : (s.number ≡ 0 → ⊥) → m ≡ x.memory
  stays z = g ∙ (refused-stays x.run b x.memory t (λ k. z (ap (λ (q : Stepped). q.number) e ∙ k))).after

  pub tried_passed : (s.number ≡ 0 → ⊥) → is_passed s.number ≡ true → (out' : List ℕ) (end : ℕ) → Appended (turned_line t s.number) out at out' end
      → Stands (tried_of b x t) out at (record { run = x.run; memory = m; steps = x.steps }) (numbered 0 0) out' end
  tried_passed z p out' end q = record { lines = rw (passed_so z p) q; play = rw (passed_so z p, stays z); stopped = rw (passed_so z p) }

  pub tried_stops : (s.number ≡ 0 → ⊥) → is_passed s.number ≡ false
      → Stands (tried_of b x t) out at (record { run = x.run; memory = m; steps = x.steps }) (numbered s.number s.offset) out at
  tried_stops z p = record { lines = rw (stops_so z p) (nothing out at); play = rw (stops_so z p, stays z); stopped = rw (stops_so z p) }

-- a step adds at most one to the steps taken
pub tried_steps : (b : List ℕ) (x : Play) (t : ℕ) → (tried_of b x t).play.steps ≤ x.steps + 1
unfolding tried_of
tried_steps b x t = elim (split (takes_step b x t)) [
  | passes p ↦ rw p (omega arith)
  | fails p ↦ elim (split (is_passed (answer_at b x t).number)) [ passes q ↦ rw (p, q) (omega arith) | fails q ↦ rw (p, q) (omega arith) ]
]

pub next-steps : (b counts : List ℕ) (x : Play) (t : ℕ) → (next_by b counts x t).play.steps ≤ x.steps + 1
next-steps b counts x t = elim (split (is_there counts x.run t)) [ passes p ↦ rw p (omega arith) | fails p ↦ rw p (tried_steps b x t) ]

-- a step that does not stop it has nothing to say of a stop
tried_goes : (b : List ℕ) (x : Play) (t : ℕ) → (tried_of b x t).stopped.number ≡ 0 → (tried_of b x t).stopped ≡ numbered 0 0
unfolding tried_of
tried_goes b x t z = elim (split (takes_step b x t)) [
  | passes p ↦ rw p
  | fails p ↦ elim (split (is_passed (answer_at b x t).number)) [ passes q ↦ rw (p, q) | fails q ↦ absurd (eqb-false _ _ p (rw (p, q) at z)) ]
]

module _ (b counts : List ℕ) (x : Play) (t : ℕ) where
  pub next_goes : (next_by b counts x t).stopped.number ≡ 0 → (next_by b counts x t).stopped ≡ numbered 0 0
  next_goes z = elim (split (is_there counts x.run t)) [ passes p ↦ rw p | fails p ↦ rw p (tried_goes b x t (rw p at z)) ]

  -- whether its task is at its count
  pub next_rests : is_there counts x.run t ≡ true → (out : List ℕ) (at : ℕ) → Stands (next_by b counts x t) out at x (numbered 0 0) out at
  next_rests p out at = record { lines = rw p (nothing out at); play = rw p; stopped = rw p }

  pub next_tries : is_there counts x.run t ≡ false → next_by b counts x t ≡ tried_of b x t
  next_tries p = rw p
