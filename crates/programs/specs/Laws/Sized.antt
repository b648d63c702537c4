-- The opening of a text is one of demand 3: with the first line's F, or the old one if that line has none.
use Rattle.std.specs.Prelude.{List, ◌≡◌, refl, ℕ, zero, suc, ◌≤◌, ltb, replicate}
use Rattle.std.proofs.Common.{arith, lt-ltb}
use Rattle.codec.specs.Laws.Decide.{passes, fails, split}
use Rattle.reader.specs.Range.{AllUnder}
use Rattle.opening.specs.OpenOf.{open_of, open_fields_of}
use Rattle.fidelity.specs.Box as box
use Rattle.lines.specs.declared.rows.Sizes.{Sizes}
use Rattle.lines.specs.Laws.Rows.{sizes_unnamed}
use Rattle.lines.specs.Rows.{has_fields, fields_in}
use Rattle.logs.specs.Laws.Room.{opening_facts}
use Rattle.script.specs.RecordOf.{longest_head, open_sized, starts_of, opening}

abbrev pub opened_in : (z : Sizes) (owners starts : List ℕ) → AllUnder 4294967296 starts → box.Opening
opened_in z owners starts under = record {
  tasks = z.tasks;
  objects = z.objects;
  fields = fields_in z;
  owners = owners;
  starts = starts;
  memory = replicate (starts_of z) 0;
  out = replicate longest_head 0;
  fits = under;
}

-- the two openings
by_none : (f : ℕ) (o : box.Opening) → f ≡ 0 → box.opening f o ≡ open_of o.tasks o.objects o.owners o.starts o.memory o.out
by_none zero o h = refl
by_none (suc n) o h = absurd (let z : ⊥ = omega arith in z)

by_some : (f : ℕ) (o : box.Opening) → 1 ≤ f → box.opening f o ≡ open_fields_of o.tasks o.objects f o.owners o.starts o.memory o.out
by_some zero o h = absurd (let z : ⊥ = omega arith in z)
by_some (suc n) o h = refl

-- an accepted opening; lines name a field exactly if it has fields
pub sized_open : (z : Sizes) (owners starts : List ℕ) (under : AllUnder 4294967296 starts)
    → (opening z owners starts).answer.number ≡ 0 → (box.opened_by (opened_in z owners starts under) ≡ opening z owners starts) × (ltb 0 (fields_in z) ≡ has_fields z)
unfolding open_sized
sized_open z owners starts under h = elim (split (has_fields z)) [
  | fails p ↦ let e = sizes_unnamed z p in rw p (by_none (fields_in z) (opened_in z owners starts under) e, rw e)
  | passes p ↦
      let f = (opening_facts 1 (fields_in z) z.tasks z.objects owners starts (replicate (starts_of z) 0) (replicate longest_head 0) (rw p at h)).0 in
      rw p (by_some (fields_in z) (opened_in z owners starts under) f.some_fields, lt-ltb 0 (fields_in z) f.some_fields)
]
