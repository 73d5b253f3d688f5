use Rattle.std.proofs.Common.{◌≡◌, true, ◌++◌, map, drop}
use Rattle.std.specs.List.{flat_map}
use Rattle.storage.specs.Contents.{top_count, all_small}
use Rattle.storage.specs.Stored.{number, code}
use Rattle.storage.proofs.form.Form.push_counts.Given as goal

abbrev pub invariant-loop-v : goal.invariant-loop-v
invariant-loop-v l =
    (all_small top_count (drop l.v-index l.counts) ≡ true)
    × (l.self ++ flat_map number (map code (drop l.v-index l.counts)) ≡ l.initial.self ++ flat_map number (map code l.counts))
