-- For every text that `record` makes a recording of, `show` lists that recording.
use Rattle.std.specs.Prelude.{List, ◌≡◌, ℕ, length, replicate}
use Rattle.std.proofs.lemmas.List.{length-replicate}
use Rattle.fidelity.specs.Box.{last_box, recording_of, cells_by}
use Rattle.fidelity.proofs.Laws.Counted.{counted-value}
use Rattle.fidelity.specs.Laws.BoxMatches.{parsed_by}
use Rattle.fidelity.proofs.Laws.BoxMatches.{in_range, recording-bytes, recording-parsed}
use Rattle.listing.specs.Laws.Complete.{value-shown}
use Rattle.script.specs.RecordOf.{record_of}
use Rattle.programs.specs.Listed.{Listed}
use Rattle.programs.specs.WholeRecording.{outs_of}
use Rattle.programs.specs.Laws.WholeText.{whole-text}

pub lists : (text : List ℕ) → (record_of text).line ≡ 0 → Listed text
lists text z =
    let w = whole-text text z in
    let o = w.opening in
    let outs = outs_of (last_box o w.asked) in
    let lent = replicate {A = ℕ} (cells_by o) 0 in
    let each : length lent ≡ cells_by o = length-replicate {A = ℕ} (cells_by o) 0 in
    let a = w.accepted lent each in
    let b = recording_of o w.asked outs in
    let h = rw w.is at w.short in
    let e = recording-parsed o a.opened w.asked outs a.packed in
    record {
      opening = o;
      asked = w.asked;
      asks = w.asks;
      recorded_each = w.counted;
      is = rw (w.is, ← counted-value o w.asked a.opened) (value-shown b (parsed_by o w.asked) h e (recording-bytes o a.opened w.asked outs a.packed) (in_range o a.opened w.asked));
    }
