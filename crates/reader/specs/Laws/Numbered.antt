-- A refusal's number is 10 to 14, so 0 means that reading succeeded.
use Rattle.std.specs.Prelude.{Err, Ok, ◌&&◌, List, ℕ, zero, suc, ◌+◌, ◌-◌, eqb, length, take, drop}
use Rattle.std.proofs.Common.{arith}
use Rattle.codec.specs.Kind.{length_of}
use Rattle.codec.specs.declared.Record.TheVariants.{Head, Section, Ordering, Access}
use Rattle.codec.specs.Decode.{Decoded, record_of}
use Rattle.codec.specs.Laws.Within.{fault_numbered}
use Rattle.codec.specs.Head.{head_length}
use Rattle.codec.specs.declared.number.Reason.TheVariants.{Short}
use Rattle.entries.specs.declared.Limits.{Limits}
use Rattle.entries.specs.Laws.Reading.{Numbered}
use Rattle.entries.proofs.Laws.Reading.{numbered-mapped, numbered_then}
use Rattle.entries.specs.Body.{body_entries}
use Rattle.reader.specs.Section.{taken, section_body, on_section, section_at, sections_of}
use Rattle.reader.specs.Parse.{HeadFields, on_head, head_at, parsed_of, sections_after, parse, sizes_ok, all_below, owners_of}
use Rattle.entries.proofs.Laws.Numbered.{pick_numbered, body_numbered}

section-numbered : (m : Limits) (at : ℕ) (b : List ℕ) (r : Decoded) → Numbered (on_section m at b r)
unfolding on_section section_body taken
section-numbered m at b (Ok (Head kind t n width)) = (omega arith, omega arith)
section-numbered m at b (Ok (Section t n size)) = pick_numbered (eqb t m.own) _ _
    (numbered_then (body_entries m (at + 12) (take size (drop 12 b))) _ (body_numbered m (at + 12) (take size (drop 12 b))) (λ es. pick_numbered (eqb (length es) n) _ _ tt (omega arith, omega arith)))
    (omega arith, omega arith)
section-numbered m at b (Ok (Ordering p)) = (omega arith, omega arith)
section-numbered m at b (Ok (Access o)) = (omega arith, omega arith)
section-numbered m at b (Err f) = fault_numbered f Short (omega arith, omega arith)

sections_numbered : (tasks objects fields k t at : ℕ) (b : List ℕ) → Numbered (sections_of tasks objects fields k t at b)
unfolding sections_of section_at
sections_numbered tasks objects fields zero t at b = pick_numbered (eqb (length b) 0) _ _ tt (omega arith, omega arith)
sections_numbered tasks objects fields (suc k) t at b =
    numbered_then (section_at (record { tasks = tasks; objects = objects; fields = fields; own = t }) at b) _
    (section-numbered (record { tasks = tasks; objects = objects; fields = fields; own = t }) at b (record_of b))
    (λ s. numbered-mapped _ (sections_of tasks objects fields k (suc t) s.stop (drop (s.stop - at) b)) (sections_numbered tasks objects fields k (suc t) s.stop (drop (s.stop - at) b)))

head-numbered : (b : List ℕ) (r : Decoded) → Numbered (on_head b r)
unfolding on_head
head-numbered b (Ok (Head kind t n width)) = pick_numbered (sizes_ok t n width && all_below t (owners_of width n (drop (length_of kind) b))) _ _ tt (omega arith, omega arith)
head-numbered b (Ok (Section t n size)) = (omega arith, omega arith)
head-numbered b (Ok (Ordering p)) = (omega arith, omega arith)
head-numbered b (Ok (Access o)) = (omega arith, omega arith)
head-numbered b (Err f) = fault_numbered f Short (omega arith, omega arith)

after-numbered : (h : HeadFields) (b : List ℕ) → Numbered (sections_after h b)
unfolding sections_after
after-numbered h b = sections_numbered h.tasks (length h.owners) h.fields h.tasks 0 (head_length h.fields (length h.owners)) (drop (head_length h.fields (length h.owners)) b)

pub parse-numbered : (b : List ℕ) → Numbered (parse b)
unfolding parse head_at
parse-numbered b = numbered_then (head_at b) _ (head-numbered b (record_of b))
    (λ h. numbered-mapped (parsed_of h) (sections_after h b) (after-numbered h b))
