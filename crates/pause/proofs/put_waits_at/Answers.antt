use mathlib.Core.Path.{sym, ap, ◌∙◌}
use Rattle.replayer.specs.declared.ReadyWord.{ReadyWord}
use Rattle.text.specs.Laws.Appended.{nothing}
use Rattle.pause.specs.Laws.Ending.{waits_ready, waits_held}
use Rattle.pause.proofs.put_waits_at.Goals as goal

pub returns-then-w-ne0 : goal.returns-then-w-ne0
returns-then-w-ne0 c = let a = c.args in let w = c.ready-w in rw (waits_ready a.bytes.now a.run (λ k. c.if-w-ne0.true (ap (λ (x : ReadyWord). x.word) w.ensures ∙ k))) (nothing a.out.now 0)

pub returns : goal.returns
returns c = let a = c.args in let w = c.ready-w in rw (waits_held a.bytes.now a.run (sym (ap (λ (x : ReadyWord). x.word) w.ensures) ∙ c.if-w-ne0.false)) c.put_waits.ensures
