-- The table's rows by cases, for proofs: each row with the cell's state and the access it is for.
use Rattle.std.specs.Prelude.{Bool, true, false, ◌≡◌, ℕ, ◌≤◌, ◌<◌}
use Rattle.tracker.specs.declared.Locality.{Locality}
use Rattle.tracker.specs.declared.Locality.TheVariants.{WriteExclusive, ReadExclusive, ReadShared}
use Rattle.tracker.specs.declared.Row.{Row}
use Rattle.tracker.specs.declared.Row.TheVariants.{One, Two, Three, Four, Five, Six, Seven, Eight, Nine, Ten}

-- an access by `task`, whose Seen is `seen`; `true` is a write
pub data View (task seen : ℕ) : Locality → Bool → Row → Type 0 where
  one : (write : Bool) → View task seen (WriteExclusive task) write One
  two : View task seen (ReadExclusive task) false Two
  three : (share : ℕ) → share ≤ seen → View task seen (ReadShared share) false Three
  four : View task seen (ReadExclusive task) true Four
  five : (holder : ℕ) → (holder ≡ task → ⊥) → View task seen (ReadExclusive holder) false Five
  six : (share : ℕ) → seen < share → View task seen (ReadShared share) false Six
  seven : (holder : ℕ) → (holder ≡ task → ⊥) → View task seen (WriteExclusive holder) true Seven
  eight : (holder : ℕ) → (holder ≡ task → ⊥) → View task seen (WriteExclusive holder) false Eight
  nine : (holder : ℕ) → (holder ≡ task → ⊥) → View task seen (ReadExclusive holder) true Nine
  ten : (share : ℕ) → View task seen (ReadShared share) true Ten
