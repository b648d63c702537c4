-- Laws of `Entry`.
use Rattle.std.specs.Prelude.{◌≡◌, refl, true, false, ℕ}
use Rattle.std.proofs.Common.{eqb-true}
use Rattle.codec.specs.declared.Position.{Position}
use Rattle.codec.specs.Laws.Decide.{never}
use Rattle.history.specs.Entry.{Act, read, write, acquire, touches, writes, conflicts}

pub writes-touches : (c : ℕ) (a : Act) → writes c a ≡ true → touches c a ≡ true
writes-touches c (read x v) p = absurd (never false p refl)
writes-touches c (write x v) p = p
writes-touches c (acquire n) p = p

pub untouched_unwritten : (c : ℕ) (a : Act) → touches c a ≡ false → writes c a ≡ false
untouched_unwritten c (read x v) p = refl
untouched_unwritten c (write x v) p = p
untouched_unwritten c (acquire n) p = refl

pub conflicts_with_write : (c : ℕ) (a b : Act) → touches c a ≡ true → writes c b ≡ true → conflicts a b ≡ true
conflicts_with_write c (read x v) b p q = rw (eqb-true x c p) q
conflicts_with_write c (write x v) b p q = rw (eqb-true x c p) (writes-touches c b q)
conflicts_with_write c (acquire n) b p q = p

pub write-conflicts : (c : ℕ) (a b : Act) → writes c a ≡ true → touches c b ≡ true → conflicts a b ≡ true
write-conflicts c (read x v) b p q = absurd (never false p refl)
write-conflicts c (write x v) b p q = rw (eqb-true x c p) q
write-conflicts c (acquire n) b p q = p
