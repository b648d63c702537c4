-- Soundness as the calls test it: first everything except the cells, then the cells one by one.
use Rattle.std.specs.Prelude.{Bool, ◌&&◌, ◌≡◌, ℕ, ◌+◌, ◌≤◌, ◌<◌, leb}
use Rattle.std.proofs.Common.{◌∙◌}
use Rattle.codec.specs.Limit.{is_within, max_tasks, max_objects, max_fields}
use Rattle.tracker.specs.Sound.{last_sound, tasks_sound}
use Rattle.tracker.specs.declared.Counters.{Counters}

-- everything except the cells
unfoldable pub counters_sound : Counters → Bool
counters_sound m =
    is_within 1 max_tasks m.tasks && is_within 1 max_objects m.objects && leb m.fields max_fields
    && last_sound m.last m.tasks m.shares m.done
    && tasks_sound m.tasks m.shares m.done m.seen m.took
