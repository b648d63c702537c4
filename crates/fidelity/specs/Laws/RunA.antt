-- The statement's claims about memory, computed on run A at places where a sham (document 01, "Sham builds") would show other values.
use Rattle.std.specs.Prelude.{[], ◌∷◌}
use Rattle.codec.specs.Encode.{start}
use Rattle.recorder.specs.AccessOf.{refused}
use Rattle.fidelity.specs.RunA.{opening, calls, outs, lent}
use Rattle.fidelity.specs.Statement.{StaysAt, MemoryAt}

-- memory at the start and after one step, and then a refused step of task 0. A replay that plays everything at opening would have 9 and 9
-- in object 0 where these are 0 and 7; a refused step that clears it would have 0 instead of 7
pub record Stood : Type 0 where
  pub first : MemoryAt opening calls outs lent [] 0
  pub second : MemoryAt opening calls outs lent (0 ∷ []) 0
  pub refused : StaysAt opening calls outs lent (0 ∷ []) 0
