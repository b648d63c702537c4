-- The comparison as the code does it, from the results of the two plays and the tests.
use Rattle.std.specs.Prelude.{Ok, Err, ◌≡◌, Bool, List, ℕ, length}
use Rattle.std.proofs.Math.Path.{sym}
use Rattle.std.proofs.Common.{ap₂, ◌∙◌}
use borrow.Author.Tests.{eq-eqb, ne_eqb}
use Rattle.codec.specs.Number.{entries as wrong_length}
use Rattle.codec.specs.Reason.{number_of}
use Rattle.entries.specs.declared.Refusal.{Refusal}
use Rattle.reader.specs.declared.layout.Layout.{Layout}
use Rattle.reader.specs.Layout.{layout_of}
use Rattle.reader.specs.Parse.{parse}
use Rattle.playback.specs.declared.finish.Played.{Played}
use Rattle.playback.specs.Alike.{same_entries, alike_of, refusing, comparing, compared, same_outcome_of}
use Rattle.scheduler.specs.Finish.{Play}
use Rattle.playback.specs.Shown.{shown_play}
use Rattle.playback.specs.ToEnd.{play_of}
use Rattle.reader.specs.Laws.Located.{reads, refuses}
use Rattle.codec.specs.Cell.{cells_of}

-- the results of the two plays and the two tests on them
pub compares : (b c : List ℕ) (x y : Play) (p q : Played) (m n : List ℕ) (s a : Bool) → p ≡ shown_play b x → q ≡ shown_play c y → m ≡ x.memory → n ≡ y.memory → s ≡ same_entries m n → a ≡ alike_of p q s
    → a ≡ (comparing b c x y).answer.alike
compares b c x y p q m n s a e f g h i j = rw (j, i, e, f, g, h)

pub both_ended : (b c : List ℕ) (x y : Play) (m n : List ℕ) (a : Bool) → a ≡ (comparing b c x y).answer.alike → m ≡ x.memory → n ≡ y.memory
    → record { answer = record { number = 0; offset = 0; alike = a }; first = m; second = n } ≡ comparing b c x y
both_ended b c x y m n a e g h = rw (e, g, h)

-- the comparison by the tests in order
module _ (b c m n : List ℕ) where
  pub first_away : (d : Refusal) → Err d ≡ layout_of (parse b) → refusing (number_of d.reason) d.offset m n ≡ same_outcome_of b c m n
  unfolding same_outcome_of compared
  first_away d e = rw (refuses b d e).is

  module _ (l : Layout) (e : Ok l ≡ layout_of (parse b)) where
    pub second_away : (d : Refusal) → Err d ≡ layout_of (parse c) → refusing (number_of d.reason) d.offset m n ≡ same_outcome_of b c m n
    unfolding same_outcome_of compared
    second_away d f = rw ((reads b l e).is, (refuses c d f).is)

    module _ (k : Layout) (f : Ok k ≡ layout_of (parse c)) where
      both_read : same_outcome_of b c m n ≡ compared b c m n (Ok (reads b l e).parsed) (Ok (reads c k f).parsed)
      unfolding same_outcome_of
      both_read = ap₂ (compared b c m n) (reads b l e).is (reads c k f).is

      pub first-entries : (length m ≡ cells_of l.fields l.objects → ⊥) → refusing wrong_length 0 m n ≡ same_outcome_of b c m n
      unfolding compared
      first-entries h =
          let p = (reads b l e).parsed in
          (rw (ne_eqb (length m) (cells_of p.recording.fields (length p.recording.owners)) (λ w. h (w ∙ sym (reads b l e).cells)))) ∙ sym both_read

      module _ (x : length m ≡ cells_of l.fields l.objects) where
        pub second-entries : (length n ≡ cells_of k.fields k.objects → ⊥) → refusing wrong_length 0 m n ≡ same_outcome_of b c m n
        unfolding compared
        second-entries h =
            let p = (reads b l e).parsed in
            let q = (reads c k f).parsed in
            (rw (eq-eqb (length m) (cells_of p.recording.fields (length p.recording.owners)) (x ∙ (reads b l e).cells), ne_eqb (length n) (cells_of q.recording.fields (length q.recording.owners)) (λ w. h (w ∙ sym (reads c k f).cells)))) ∙ sym both_read

        pub both_play : length n ≡ cells_of k.fields k.objects → comparing b c (play_of b m) (play_of c n) ≡ same_outcome_of b c m n
        unfolding compared
        both_play h =
            let p = (reads b l e).parsed in
            let q = (reads c k f).parsed in
            (rw (eq-eqb (length m) (cells_of p.recording.fields (length p.recording.owners)) (x ∙ (reads b l e).cells), eq-eqb (length n) (cells_of q.recording.fields (length q.recording.owners)) (h ∙ (reads c k f).cells))) ∙ sym both_read
