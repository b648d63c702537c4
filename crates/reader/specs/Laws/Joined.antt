-- Bodies that read, each after a section record that gives its accesses and bytes, and all after a head, read as the recording of those
-- accesses: this is what the pieces written by the section writer form when they are joined.
use Rattle.std.specs.Prelude.{Ok, ◌≡◌, refl, List, [], ◌∷◌, ◌++◌, ℕ, suc, ◌+◌, ◌<◌, length}
use Rattle.std.proofs.Common.{arith, eq-eqb}
use Rattle.codec.specs.Encode.{head, section}
use Rattle.codec.specs.Field.{Bytes}
use Rattle.entries.specs.declared.Limits.{Limits}
use Rattle.entries.specs.Recording.{Entry, Recording}
use Rattle.entries.specs.Bytes.{sections_bytes, bytes_of}
use Rattle.reader.specs.Range.{BodiesIn, HeadIn}
use Rattle.entries.specs.Body.{body_entries, walk_of, judged, tally}
use Rattle.reader.specs.Laws.BodyStrict.{body_strict}
use Rattle.reader.specs.Parse.{parse}
use Rattle.reader.specs.Laws.Roundtrip.{parse_back, spans_of}

pub reads_walk : (m : Limits) (at : ℕ) (b : List ℕ) (es : List Entry) (wrong : ℕ) → body_entries m at b ≡ Ok es → walk_of m at b (length es) wrong ≡ Ok tt
unfolding walk_of judged tally
reads_walk m at b es wrong q = let o : 0 + length es ≡ length es = omega arith in rw (q, o, eq-eqb (length es) (length es) refl)

pub record LogRead (m : Limits) (log : List ℕ) (es : List Entry) : Type 0 where
  pub bytes : Bytes log
  pub reads : body_entries m 0 log ≡ Ok es
  pub count : length es < 65536
  pub size : length log < 4294967296

-- logs that read as the bodies of the tasks from t upward
abbrev pub LogsRead : ℕ → ℕ → ℕ → ℕ → List (List ℕ) → List (List Entry) → Type 0
LogsRead tasks objects fields t [] [] = Unit {0}
LogsRead tasks objects fields t [] (es ∷ bodies) = ⊥
LogsRead tasks objects fields t (log ∷ logs) [] = ⊥
LogsRead tasks objects fields t (log ∷ logs) (es ∷ bodies) = LogRead (record { tasks = tasks; objects = objects; fields = fields; own = t }) log es × LogsRead tasks objects fields (suc t) logs bodies

-- the section records and logs of the tasks from t upward
unfoldable pub joined : ℕ → List (List ℕ) → List (List Entry) → List ℕ
joined t [] bodies = []
joined t (log ∷ logs) [] = []
joined t (log ∷ logs) (es ∷ bodies) = section t (length es) (length log) ++ log ++ joined (suc t) logs bodies

joined_bytes : (tasks objects fields t : ℕ) (logs : List (List ℕ)) (bodies : List (List Entry)) → LogsRead tasks objects fields t logs bodies
    → (joined t logs bodies ≡ sections_bytes t bodies) × BodiesIn tasks objects fields t bodies
unfolding joined sections_bytes
joined_bytes tasks objects fields t [] [] w = (refl, tt)
joined_bytes tasks objects fields t [] (es ∷ bodies) w = absurd w
joined_bytes tasks objects fields t (log ∷ logs) [] w = absurd w
joined_bytes tasks objects fields t (log ∷ logs) (es ∷ bodies) w =
    let s = body_strict (record { tasks = tasks; objects = objects; fields = fields; own = t }) 0 log es w.0.bytes w.0.reads in
    let r = joined_bytes tasks objects fields (suc t) logs bodies w.1 in
    (rw (r.0, s.0), (record { entries = s.1; count = w.0.count; size = rw s.0 at w.0.size }, r.1))

pub parse_joined : (r : Recording) (logs : List (List ℕ)) → HeadIn r.tasks r.fields r.owners r.values → length r.bodies ≡ r.tasks
    → LogsRead r.tasks (length r.owners) r.fields 0 logs r.bodies
    → parse (head r.fields r.tasks r.owners r.values ++ joined 0 logs r.bodies) ≡ Ok (record { recording = r; spans = spans_of r })
unfolding bytes_of
parse_joined r logs i l w =
    let j = joined_bytes r.tasks (length r.owners) r.fields 0 logs r.bodies w in
    rw j.0 (parse_back r (record { head = i; body_each = l; bodies = j.1 }))
