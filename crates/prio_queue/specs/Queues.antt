-- What a contract sees of the active queues: for each priority, from 0 on, the list of the keys that wait.
use Rattle.std.specs.Prelude.{ℕ, ◌-◌, ◌==◌, ◌&&◌, Bool, not, nat_lt, nat_le, if◌then◌else◌, List, [], ◌∷◌, ◌++◌, length, map, filter}
use Rattle.std.specs.Prelude.{position, drop, take, Option, slice_get, slice_set}
use Rattle.std.specs.List.{list_any, slice_index_or}

-- there can be so many priorities: 1 to 256
abbrev pub is_count : ℕ → Bool
is_count priorities = nat_le 1 priorities && nat_le priorities 256

-- the queue of a priority, which is empty where there is none
abbrev pub queue_of : List (List ℕ) → ℕ → List ℕ
queue_of queues priority = slice_index_or queues priority []

-- the key stands in a queue
abbrev pub is_queued : ℕ → List (List ℕ) → Bool
is_queued key queues = list_any (λ queue. list_any (λ other. other == key) queue) queues

-- the key stands at the end of the queue of the priority, but a key that stood in a queue stays there
abbrev pub activated : List (List ℕ) → ℕ → ℕ → List (List ℕ)
activated queues priority key =
    if is_queued key queues then queues else slice_set queues priority (queue_of queues priority ++ key ∷ [])

-- the key stands in no queue, and all other keys stand as they did
abbrev pub without : ℕ → List (List ℕ) → List (List ℕ)
without key queues = map (λ queue. filter (λ other. not (other == key)) queue) queues

-- the first key of a queue
abbrev pub first_key : List ℕ → Option ℕ
first_key queue = slice_get queue 0

-- the least priority whose queue has a key
abbrev pub first_filled : List (List ℕ) → Option ℕ
first_filled queues = position (λ queue. nat_lt 0 (length queue)) queues

-- the first key of the queue of the priority is out, where there is one
abbrev pub popped : List (List ℕ) → ℕ → List (List ℕ)
popped queues priority = slice_set queues priority (drop 1 (queue_of queues priority))

-- the key stands at the end of the queue of the priority
abbrev pub appended : List (List ℕ) → ℕ → ℕ → List (List ℕ)
appended queues priority key = slice_set queues priority (queue_of queues priority ++ key ∷ [])

-- the last key of a queue
abbrev pub last_key : List ℕ → Option ℕ
last_key queue = slice_get queue (length queue - 1)

-- the last key of the queue of the priority is out, where there is one
abbrev pub without_last : List (List ℕ) → ℕ → List (List ℕ)
without_last queues priority =
    slice_set queues priority (take (length (queue_of queues priority) - 1) (queue_of queues priority))
