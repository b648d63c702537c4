-- For every text that `record` makes a recording of, `playable` says yes.
use Rattle.std.specs.Prelude.{List, ◌≡◌, refl, ℕ, length, replicate}
use Rattle.std.proofs.Common.{◌∙◌}
use Rattle.std.proofs.lemmas.List.{length-replicate}
use Rattle.fidelity.specs.Box.{last_box, recording_of, cells_by}
use Rattle.fidelity.specs.Laws.BoxMatches.{parsed_by}
use Rattle.fidelity.proofs.Laws.BoxMatches.{recording-parsed}
use Rattle.fidelity.proofs.Laws.LowestFirst.{box-steps}
use Rattle.fidelity.proofs.Laws.Playable.{box-none-left}
use Rattle.fidelity.specs.Playable.{Packed}
use Rattle.playability.proofs.Laws.Held.{hold_free}
use Rattle.playability.proofs.Laws.Theorem.{free_plays}
use Rattle.playability.proofs.Laws.Walk.{order-reached}
use Rattle.replayer.specs.OpenOf.{opened_run}
use Rattle.scheduler.specs.Schedule.{schedule_of}
use Rattle.script.specs.RecordOf.{record_of}
use Rattle.verdict.specs.Laws.Reasons.{reasons-none}
use Rattle.verdict.specs.Laws.Text.{text_yes}
use Rattle.programs.specs.Playable.{SaysYes}
use Rattle.programs.specs.WholeRecording.{outs_of}
use Rattle.programs.specs.Laws.WholeText.{whole-text}

pub says_yes : (text : List ℕ) → (record_of text).line ≡ 0 → SaysYes text
says_yes text z =
    let w = whole-text text z in
    let o = w.opening in
    let outs = outs_of (last_box o w.asked) in
    let lent = replicate {A = ℕ} (cells_by o) 0 in
    let each : length lent ≡ cells_by o = length-replicate {A = ℕ} (cells_by o) 0 in
    let a = w.accepted lent each in
    let b = recording_of o w.asked outs in
    let p = parsed_by o w.asked in
    let e = recording-parsed o a.opened w.asked outs a.packed in
    let k : Packed o w.asked outs = record { opened = a.opened; packed = a.packed } in
    let n = box-none-left o w.asked outs k in
    let h = rw w.is at w.short in
    record {
      parsed = p;
      reads = rw w.is e;
      order = schedule_of b (opened_run p);
      plays = free_plays b p e n;
      lowest = (order-reached b p e).lowest;
      each = box-steps o w.asked outs lent a each p e refl ∙ w.counted;
      is = rw w.is (text_yes b h p e (hold_free b _ n));
      silent = rw w.is (reasons-none b h p e n);
    }
