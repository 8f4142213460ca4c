-- The places for images in flight.
use Rattle.std.specs.Prelude.{ℕ, Bool, true, false, cond, List, map, count_by, position, Option, ◌==◌, nat_lt}
use Rattle.std.specs.List.{range_with_len}
use Rattle.plain_disk.specs.declared.places.Slot.{Slot}
use Rattle.plain_disk.specs.declared.places.Slot.TheVariants.{Free, Holding, Absent}

-- whether two slots are the same
abbrev pub same_slot : Slot → Slot → Bool
same_slot Free Free = true
same_slot Free (Holding b) = false
same_slot Free Absent = false
same_slot (Holding a) Free = false
same_slot (Holding a) (Holding b) = a == b
same_slot (Holding a) Absent = false
same_slot Absent Free = false
same_slot Absent (Holding b) = false
same_slot Absent Absent = true

-- whether a slot holds an image in flight
abbrev pub busy : Slot → Bool
busy Free = false
busy (Holding b) = true
busy Absent = false

-- whether a place is there
abbrev pub present : Slot → Bool
present Free = true
present (Holding b) = true
present Absent = false

-- the lowest place with this slot
abbrev pub place : Slot → List Slot → Option ℕ
place wanted slots = position (same_slot wanted) slots

-- how many images are in flight
abbrev pub flights : List Slot → ℕ
flights slots = count_by busy slots

-- k free places of 8, the others absent
abbrev pub fresh_slot : ℕ → ℕ → Slot
fresh_slot k j = cond (nat_lt j k) Free Absent

abbrev pub fresh_slots : ℕ → List Slot
fresh_slots k = map (fresh_slot k) (range_with_len 0 8)
