-- A test together with the equation for its outcome, for proofs by cases.
use Rattle.std.specs.Prelude.{◌≡◌, refl, Bool, true, false, ◌&&◌}
use Rattle.std.proofs.Common.{sym, ◌∙◌, true≢false}

pub data Split (b : Bool) : Type 0 where
  passes : b ≡ true → Split b
  fails : b ≡ false → Split b

pub split : (b : Bool) → Split b
split true = passes refl
split false = fails refl

-- a test is not both true and false
pub never : (b : Bool) → b ≡ true → b ≡ false → ⊥
never b p q = true≢false (sym p ∙ q)

pub both_pass : (a b : Bool) → (a && b) ≡ true → (a ≡ true) × (b ≡ true)
both_pass true b p = (refl, p)
both_pass false b p = (p, absurd (never false p refl))
