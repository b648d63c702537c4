-- Storing a state and reading it back gives the same state.
use Rattle.std.specs.Prelude.{◌≡◌, refl, List, [], ◌∷◌, ◌++◌, ℕ, ◌+◌, ◌<◌, length, get_or}
use Rattle.std.proofs.Common.{sym, ◌∙◌, arith, length-append, get_or-append-add}
use Rattle.std.proofs.Math.ListN.{get_or-append}
use Rattle.codec.specs.Store.{store}
use Rattle.codec.specs.Limit.{max_tasks, max_cells}
use Rattle.tracker.specs.declared.Locality.{Locality}
use Rattle.tracker.specs.declared.Locality.TheVariants.{WriteExclusive, ReadExclusive, ReadShared}
use Rattle.tracker.specs.declared.State.{State}
use Rattle.tracker.specs.State.{holder_of, share_of, owned}
use Rattle.tracker.specs.Laws.State.{Shaped}
use Rattle.pending.specs.Each.{each}
use Rattle.pending.proofs.Laws.Each.{each-length, each_at, each_of}
use Rattle.arrays.specs.Halves.{record_of, record_in, entries_in, state_in, case_of, locality_at, halves_of, words_of}
use Rattle.arrays.specs.Laws.Stores.{store-whole, behind}

record_back : (l : Locality) → record_of (case_of l) (holder_of l) (share_of l) ≡ record { locality = l }
unfolding record_of
record_back (WriteExclusive task) = refl
record_back (ReadExclusive task) = refl
record_back (ReadShared share) = refl

-- an entry of a list's first part, and an entry of its second part
front : (f : ℕ → ℕ) (n k : ℕ) (ys : List ℕ) → k < n → get_or (each f n ++ ys) k 0 ≡ f k
front f n k ys h = get_or-append (each f n) ys 0 k (omega (arith, each-length f n)) ∙ each_at f n k 0 h

past : (f : ℕ → ℕ) (n k i : ℕ) (ys : List ℕ) → i ≡ n + k → get_or (each f n ++ ys) i 0 ≡ get_or ys k 0
past f n k i ys e = rw e (behind (each f n) ys n k (each-length f n))

module _ (v₀ v₁ v₂ v₃ v₄ : ℕ) (done took cases holders : ℕ → ℕ) (k : ℕ) where
  abbrev cells : List ℕ
  cells = each cases max_cells ++ each holders max_cells

  abbrev tasks : List ℕ
  tasks = each done max_tasks ++ (each took max_tasks ++ cells)

  abbrev stored : List ℕ
  stored = v₀ ∷ v₁ ∷ v₂ ∷ v₃ ∷ v₄ ∷ tasks

  past_counters : (i j : ℕ) → i ≡ 5 + j → get_or stored i 0 ≡ get_or tasks j 0
  past_counters i j e = rw e (get_or-append-add (v₀ ∷ v₁ ∷ v₂ ∷ v₃ ∷ v₄ ∷ []) tasks j 0)

  past_tasks : (i j : ℕ) → i ≡ 37 + j → get_or stored i 0 ≡ get_or cells j 0
  past_tasks i j e =
      past_counters i (32 + j) (omega arith) ∙ past done max_tasks (max_tasks + j) (32 + j) (each took max_tasks ++ cells) (omega arith) ∙ past took max_tasks j (max_tasks + j) cells refl

  done_at_lem : k < max_tasks → get_or stored (5 + k) 0 ≡ done k
  done_at_lem h = past_counters (5 + k) k refl ∙ front done max_tasks k (each took max_tasks ++ cells) h

  took-at : k < max_tasks → get_or stored (21 + k) 0 ≡ took k
  took-at h = past_counters (21 + k) (max_tasks + k) (omega arith) ∙ past done max_tasks k (max_tasks + k) (each took max_tasks ++ cells) refl ∙ front took max_tasks k cells h

  case_at : k < max_cells → get_or stored (37 + k) 0 ≡ cases k
  case_at h = past_tasks (37 + k) k refl ∙ front cases max_cells k (each holders max_cells) h

  holder_at : k < max_cells → get_or stored (2085 + k) 0 ≡ holders k
  holder_at h = past_tasks (2085 + k) (max_cells + k) (omega arith) ∙ past cases max_cells k (max_cells + k) (each holders max_cells) refl ∙ each_at holders max_cells k 0 h

module _ (v : ℕ) (seen shares : ℕ → ℕ) (k : ℕ) where
  abbrev counts : List ℕ
  counts = v ∷ (each seen max_tasks ++ each shares max_cells)

  seen_at : k < max_tasks → get_or counts (1 + k) 0 ≡ seen k
  seen_at h = get_or-append-add (v ∷ []) (each seen max_tasks ++ each shares max_cells) k 0 ∙ front seen max_tasks k (each shares max_cells) h

  share_at : k < max_cells → get_or counts (17 + k) 0 ≡ shares k
  share_at h =
      let e : 17 + k ≡ 1 + (max_tasks + k) = omega arith in
      rw e (get_or-append-add (v ∷ []) (each seen max_tasks ++ each shares max_cells) (max_tasks + k) 0) ∙ past seen max_tasks k (max_tasks + k) (each shares max_cells) refl ∙ each_at shares max_cells k 0 h

halves_length : (s : State) → length (halves_of s) ≡ 4133
halves_length s = simp (length-append, each-length)

words-length : (s : State) → length (words_of s) ≡ 2065
words-length s = simp (length-append, each-length)

cell_back : (s : State) (i : ℕ) → i < max_cells → record_in (halves_of s) (words_of s) i ≡ get_or s.cells i (owned 0)
cell_back s i h = rw (case_at _ _ _ _ _ _ _ _ _ i h, holder_at _ _ _ _ _ _ _ _ _ i h, share_at _ _ _ i h) (record_back (locality_at s.cells i))

pub state_back : (s : State) (halves words : List ℕ) → length halves ≡ 4133 → length words ≡ 2065 → Shaped s
    → state_in (store halves 0 (halves_of s)) (store words 0 (words_of s)) ≡ s
state_back s halves words h w p =
    let a : each (record_in (halves_of s) (words_of s)) max_cells ≡ s.cells = each_of _ max_cells s.cells (owned 0) p.cells (cell_back s) in
    let d : entries_in (halves_of s) 5 ≡ s.done = each_of _ max_tasks s.done 0 p.done (λ k. done_at_lem _ _ _ _ _ _ _ _ _ k) in
    let t : entries_in (halves_of s) 21 ≡ s.took = each_of _ max_tasks s.took 0 p.took (λ k. took-at _ _ _ _ _ _ _ _ _ k) in
    let e : entries_in (words_of s) 1 ≡ s.seen = each_of _ max_tasks s.seen 0 p.seen (λ k. seen_at _ _ _ k) in
    rw (store-whole halves (halves_of s) (h ∙ sym (halves_length s)), store-whole words (words_of s) (w ∙ sym (words-length s)), a, d, t, e)
